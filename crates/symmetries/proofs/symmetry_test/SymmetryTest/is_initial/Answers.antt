use Rattle.std.proofs.Common.{◌∙◌}
use Rattle.task.specs.TaskParts.{atom_of}
use Rattle.symmetries.specs.SymmetryTest.{task_tested}
use Rattle.symmetries.proofs.TestSteps.{true_at_start}
use Rattle.symmetries.proofs.symmetry_test.SymmetryTest.is_initial.Goals as goal

pub returns : goal.returns
returns c =
    true_at_start (task_tested c.args.self.now) (atom_of c.args.atom.now) c.contains.result (c.contains.ensures ∙ c.args.self.now.is_initial (atom_of c.args.atom.now))
