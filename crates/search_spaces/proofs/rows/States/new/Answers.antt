use Rattle.search_spaces.proofs.RowLemmas.{none_there, no_states}
use Rattle.search_spaces.proofs.rows.States.new.Goals as goal

pub invariant_of-result : goal.invariant_of-result
invariant_of-result c = record { rows = none_there c.args.width c.words_for.result c.new.result.items c.words_for.ensures.enough c.words_for.ensures.no_more c.new.ensures.items }

pub returns-clause-states : goal.returns-clause-states
returns-clause-states c = no_states c.args.width c.words_for.result c.new.result.items
