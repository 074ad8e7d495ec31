use Rattle.symmetries_definitions.proofs.SymmetryExampleProofs.{tasks_are_judged}
use Rattle.symmetries_definitions.proofs.laws.task_examples_are_judged.Goals as goal

pub returns : goal.returns
returns c = tasks_are_judged
