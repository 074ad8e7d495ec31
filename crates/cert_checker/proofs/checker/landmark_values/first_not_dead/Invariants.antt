use Rattle.std.proofs.Common.{◌≡◌, ℕ, ◌<◌, false, Some}
use Rattle.std.specs.Prelude.{slice_get}
use Rattle.certificate.specs.Certificate.{certificate_of}
use Rattle.certificate_definitions.specs.Certificates.{StateLine}
use Rattle.cert_checker.specs.LandmarkFaults.{rests_on_another}
use Rattle.cert_checker.proofs.checker.landmark_values.first_not_dead.Given as goal

-- no line so far is at fault
abbrev pub invariant-loop-place : goal.invariant-loop-place
invariant-loop-place l = (k : ℕ) (line : StateLine) → k < l.place → slice_get (certificate_of l.cert).lines k ≡ Some line → rests_on_another l.found line.mark ≡ false
