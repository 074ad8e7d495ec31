use Rattle.std.proofs.Common.{◌≡◌, ℕ, ◌<◌, true, Some, map, take}
use Rattle.std.specs.Prelude.{slice_get}
use Rattle.grounding.specs.Ground.{task_in}
use Rattle.symmetries.specs.Exchange.{exchange_of}
use Rattle.symmetries_definitions.specs.Exchanges.{Exchange}
use Rattle.certificate.specs.Certificate.{certificate_of}
use Rattle.certificate_definitions.specs.Certificates.{is_symmetry_for}
use Rattle.cert_checker.proofs.checker.symmetry.tested_exchanges.Given as goal

-- the exchanges so far are made, and are symmetries
abbrev pub invariant-loop-place : goal.invariant-loop-place
invariant-loop-place l = record {
  made : map exchange_of l.made.items ≡ take l.place (certificate_of l.cert).exchanges;
  symmetric : (k : ℕ) (e : Exchange) → k < l.place → slice_get (certificate_of l.cert).exchanges k ≡ Some e → is_symmetry_for (task_in l.grounded) (certificate_of l.cert) e ≡ true;
}
