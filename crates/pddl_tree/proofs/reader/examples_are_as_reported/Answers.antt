use Rattle.model.proofs.GrammarExampleProofs.{as_reported}
use Rattle.pddl_tree.proofs.reader.examples_are_as_reported.Goals as goal

pub returns : goal.returns
returns c = as_reported
