use Rattle.std.proofs.Common.{◌∙◌}
use Rattle.symmetries_definitions.specs.Symmetries.{declared_type}
use Rattle.symmetries.specs.SymmetryTest.{task_tested}
use Rattle.symmetries.proofs.TestSteps.{types_alike}
use Rattle.symmetries.proofs.symmetry_test.SymmetryTest.have_one_type.Goals as goal

pub returns : goal.returns
returns c =
    c.eq.ensures
    ∙ types_alike c.declared_type-first.result c.declared_type-second.result (declared_type (task_tested c.args.self.now) c.args.one.0) (declared_type (task_tested c.args.self.now) c.args.other.0)
    c.declared_type-first.ensures c.declared_type-second.ensures
