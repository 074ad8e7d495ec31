use Rattle.std.proofs.Common.{◌≡◌, true, take}
use Rattle.std.specs.List.{list_all}
use Rattle.symmetries.specs.Exchange.{image}
use Rattle.symmetries.specs.Kept.{keeps_atom}
use Rattle.symmetries.specs.ObjectPairs.{pair_of}
use Rattle.symmetries.specs.PlacesByObject.{row_of}
use Rattle.symmetries.specs.SymmetryTest.{task_tested}
use Rattle.symmetries.proofs.TestSteps.{pair_keeps}
use Rattle.symmetries.proofs.symmetry_test.SymmetryTest.keeps_statics.Given as goal

-- what names an object of the pairs so far passes
abbrev pub invariant-loop-pair : goal.invariant-loop-pair
invariant-loop-pair l =
    list_all (λ pair. pair_keeps (keeps_atom (task_tested l.self) (image l.exchange)) (task_tested l.self).init (row_of l.self.atoms) (pair_of pair)) (take l.pair-index l.pair-items) ≡ true
