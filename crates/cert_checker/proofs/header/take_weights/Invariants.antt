use Rattle.std.proofs.Common.{◌≡◌, map}
use Rattle.certificate.specs.Evidence.{potential_of}
use Rattle.cert_checker.proofs.HeaderLemmas.{pushed_to}
use Rattle.cert_checker.proofs.header.take_weights.Given as goal

abbrev pub invariant-loop-place : goal.invariant-loop-place
invariant-loop-place l = record {
  values : map potential_of l.evidence.values.items ≡ pushed_to 0 l.place l.weights (map potential_of l.initial.evidence.values.items);
  dead_ends : l.evidence.dead_ends ≡ l.initial.evidence.dead_ends;
  tables : l.evidence.tables ≡ l.initial.evidence.tables;
  landmarks : l.evidence.landmarks ≡ l.initial.evidence.landmarks;
}
