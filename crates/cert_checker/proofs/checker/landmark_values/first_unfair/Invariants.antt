use Rattle.std.proofs.Common.{◌≡◌, ℕ, ◌<◌, false, Some}
use Rattle.std.specs.Prelude.{slice_get}
use Rattle.landmarks.specs.declared.testing.Fairness.{Fairness}
use Rattle.landmarks.specs.Fairness.{is_unfair}
use Rattle.cert_checker.proofs.checker.landmark_values.first_unfair.Given as goal

-- none so far is unfair
abbrev pub invariant-loop-number : goal.invariant-loop-number
invariant-loop-number l = (k : ℕ) (f : Fairness) → k < l.number → slice_get l.found k ≡ Some f → is_unfair f ≡ false
