-- The faults of a certificate's landmark values, by what was found of each.
use Rattle.std.specs.Prelude.{◌≡◌, ℕ, ◌<◌, Bool, true, false, not, List, get_or, slice_get, Option, None, Some}
use Rattle.certificate_definitions.specs.Evidence.{of_all, landmark, LineMark, expanded, cut, dead}
use Rattle.landmarks.specs.declared.testing.Fairness.{Fairness}
use Rattle.landmarks.specs.declared.testing.Fairness.TheVariants.{Unfair}
use Rattle.landmarks.specs.Fairness.{is_dead_fair}

-- the place of the first that satisfies the test
abbrev pub IsFirstWhere : {X : Type 0} → (X → Bool) → List X → Option ℕ → Type 0
IsFirstWhere {X} test all None = (k : ℕ) (x : X) → slice_get all k ≡ Some x → test x ≡ false
IsFirstWhere {X} test all (Some place) = (x : X) × (slice_get all place ≡ Some x) × (test x ≡ true) × ((k : ℕ) (y : X) → k < place → slice_get all k ≡ Some y → test y ≡ false)

-- it is a dead end that rests on a landmark value that is not dead-fair
abbrev pub rests_on_another : List Fairness → LineMark → Bool
rests_on_another found expanded = false
rests_on_another found (cut basis rest) = false
rests_on_another found (dead of_all) = false
rests_on_another found (dead (landmark number)) = not (is_dead_fair (get_or found number Unfair))
