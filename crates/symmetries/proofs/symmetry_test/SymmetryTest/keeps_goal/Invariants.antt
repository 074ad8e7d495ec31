use Rattle.std.proofs.Common.{◌≡◌, true, take}
use Rattle.std.specs.List.{list_all}
use Rattle.symmetries.specs.Exchange.{image}
use Rattle.symmetries.specs.Kept.{has_image}
use Rattle.symmetries.specs.Lent.{formulas_lent}
use Rattle.symmetries.specs.ObjectPairs.{pair_of}
use Rattle.symmetries.specs.PlacesByObject.{row_of}
use Rattle.symmetries.specs.SymmetryTest.{task_tested}
use Rattle.symmetries.proofs.TestSteps.{pair_keeps}
use Rattle.symmetries.proofs.symmetry_test.SymmetryTest.keeps_goal.Given as goal

-- the conjuncts that name an object of the pairs so far have their images
abbrev pub invariant-loop-pair : goal.invariant-loop-pair
invariant-loop-pair l =
    list_all (λ pair. pair_keeps (has_image (task_tested l.self) (image l.exchange)) (formulas_lent l.self.conjuncts.items) (row_of l.self.goals) (pair_of pair)) (take l.pair-index l.pair-items) ≡ true
