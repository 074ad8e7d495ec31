use Rattle.std.proofs.Common.{◌≡◌, ◌++◌, [], map}
use Rattle.std.specs.List.{range_with_len}
use Rattle.certificate.specs.Evidence.{potential_of}
use Rattle.cert_checker.specs.Given.{value_given}
use Rattle.cert_checker.proofs.header.take_constants.Given as goal

abbrev pub invariant-loop-place : goal.invariant-loop-place
invariant-loop-place l = record {
  values : map potential_of l.evidence.values.items ≡ map potential_of l.initial.evidence.values.items ++ map (value_given l.constants []) (range_with_len 0 l.place);
  dead_ends : l.evidence.dead_ends ≡ l.initial.evidence.dead_ends;
  tables : l.evidence.tables ≡ l.initial.evidence.tables;
  landmarks : l.evidence.landmarks ≡ l.initial.evidence.landmarks;
}
