use Rattle.packed_state.proofs.WordLemmas.{taken_out, taken_small}
use Rattle.packed_state.proofs.words.remove.Goals as goal

pub returns-clause-has : goal.returns-clause-has
returns-clause-has c k = taken_out c.args.words.now c.args.number c.requires.within k

pub returns-clause-small : goal.returns-clause-small
returns-clause-small c = taken_small c.args.words.now c.args.number c.requires.within c.requires.small
