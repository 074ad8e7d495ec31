use Rattle.lower_bounds.proofs.TableExampleProofs.{tables_are_judged}
use Rattle.lower_bounds.proofs.table_laws.table_examples_are_judged.Goals as goal

pub returns : goal.returns
returns c = tables_are_judged
