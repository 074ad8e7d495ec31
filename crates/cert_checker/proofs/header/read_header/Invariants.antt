-- some lines were read, and have given what is stored, and no state
use Rattle.std.proofs.Common.{◌≡◌, ◌-◌, List, []}
use Rattle.task.specs.Task.{task_of}
use Rattle.certificate_definitions.specs.CertificateText.{TextLine}
use Rattle.certificate_reader.specs.Reader.{lines_read, source_of}
use Rattle.cert_checker.specs.Given.{states_given}
use Rattle.cert_checker.specs.Tabled.{AreWeighed}
use Rattle.cert_checker.specs.Taking.{HasTaken}
use Rattle.cert_checker.specs.Reading.{IsAt}
use Rattle.cert_checker.proofs.header.read_header.Given as goal

abbrev pub invariant-lines : goal.invariant-lines
invariant-lines g l = record {
  lines : List TextLine;
  at : IsAt g.R.Source.remaining l.initial.reader l.reader lines;
  reported : HasTaken (task_of l.task) lines l.header;
  weighed : AreWeighed l.header.evidence;
  no_state : states_given lines ≡ [];
  failures : g.R.Source.failures (source_of l.reader) ≡ g.R.Source.failures (source_of l.initial.reader);
}

abbrev pub decreases-lines : goal.decreases-lines
decreases-lines g l = 70000000 - lines_read l.reader
