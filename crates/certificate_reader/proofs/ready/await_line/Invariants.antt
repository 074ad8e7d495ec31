-- The buffer grew by what was read, and no call has failed; if something was buffered before, nothing was read.
use Rattle.std.proofs.Common.{◌≡◌, ◌-◌, ◌+◌, length}
use Rattle.std.specs.Prelude.{IsTrue}
use Rattle.certificate_definitions.specs.CertificateText.{longest_line}
use Rattle.certificate_reader.specs.Waiting.{waiting_of}
use Rattle.certificate_reader.specs.Ready.{IsGrown, is_ready}
use Rattle.certificate_reader.proofs.ready.await_line.Given as goal

abbrev pub invariant-reads : goal.invariant-reads
invariant-reads g l = record {
  grown : IsGrown (g.S.Source.remaining l.initial.source) (g.S.Source.remaining l.source) (waiting_of l.initial.waiting) (waiting_of l.waiting);
  failures : g.S.Source.failures l.source ≡ g.S.Source.failures l.initial.source;
  lazy : IsTrue (is_ready (waiting_of l.initial.waiting)) → l.source ≡ l.initial.source;
  still : IsTrue (is_ready (waiting_of l.initial.waiting)) → IsTrue (is_ready (waiting_of l.waiting));
}

abbrev pub decreases-reads : goal.decreases-reads
decreases-reads g l = (longest_line + 1) - length (waiting_of l.waiting)
