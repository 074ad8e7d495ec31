use Rattle.std.proofs.Common.{◌≡◌, ℕ, Bool, true, nat_eq, take}
use Rattle.std.specs.List.{list_all}
use Rattle.std.specs.Option.{option_eq}
use Rattle.symmetries_definitions.specs.Symmetries.{declared_type}
use Rattle.symmetries.specs.ObjectPairs.{pair_of}
use Rattle.symmetries.specs.SymmetryTest.{task_tested}
use Rattle.symmetries.proofs.symmetry_test.SymmetryTest.keeps_types.Given as goal

-- the objects of each pair so far have the same type
abbrev pub invariant-loop-pair : goal.invariant-loop-pair
invariant-loop-pair l =
    let test : ℕ × ℕ → Bool = λ pair. option_eq nat_eq (declared_type (task_tested l.self) pair.0) (declared_type (task_tested l.self) pair.1) in
    list_all (λ pair. test (pair_of pair)) (take l.pair-index l.pair-items) ≡ true
