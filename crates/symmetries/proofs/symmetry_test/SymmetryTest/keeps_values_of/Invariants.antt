use Rattle.std.proofs.Common.{◌≡◌, true, take}
use Rattle.std.specs.Prelude.{slice_get}
use Rattle.std.specs.List.{list_all}
use Rattle.std.specs.Option.{option_map_or}
use Rattle.symmetries.specs.Exchange.{image}
use Rattle.symmetries.specs.Kept.{keeps_value}
use Rattle.symmetries.specs.SymmetryTest.{task_tested}
use Rattle.symmetries.proofs.symmetry_test.SymmetryTest.keeps_values_of.Given as goal

-- what is at the indices so far passes
abbrev pub invariant-loop-place : goal.invariant-loop-place
invariant-loop-place l =
    list_all (λ place. option_map_or (keeps_value (task_tested l.self) (image l.exchange)) (slice_get (task_tested l.self).values place) true) (take l.place-index l.place-items) ≡ true
