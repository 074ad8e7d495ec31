use Rattle.std.proofs.Common.{◌≡◌, true, take}
use Rattle.std.specs.List.{list_all}
use Rattle.symmetries_definitions.specs.NamedObjects.{named_in_actions}
use Rattle.symmetries.specs.ObjectPairs.{pair_of}
use Rattle.symmetries.specs.SymmetryTest.{task_tested}
use Rattle.symmetries.proofs.TestSteps.{spares}
use Rattle.symmetries.proofs.symmetry_test.SymmetryTest.keeps_actions.Given as goal

-- no action names an object of the pairs so far
abbrev pub invariant-loop-pair : goal.invariant-loop-pair
invariant-loop-pair l = list_all (λ pair. spares (named_in_actions (task_tested l.self)) (pair_of pair)) (take l.pair-index l.pair-items) ≡ true
