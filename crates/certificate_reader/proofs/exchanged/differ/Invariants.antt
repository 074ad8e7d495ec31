use Rattle.std.proofs.Common.{◌≡◌, true, map, take}
use Rattle.certificate_definitions.specs.CertificateText.{differ}
use Rattle.certificate_reader.specs.Lines.{name_of}
use Rattle.certificate_reader.proofs.exchanged.differ.Given as goal

-- the set has the names so far, which are different
abbrev pub invariant-loop-name : goal.invariant-loop-name
invariant-loop-name l = record {
  seen : map name_of l.seen.keys ≡ map name_of (take l.name-index l.names);
  different : differ (map name_of (take l.name-index l.names)) ≡ true;
}
