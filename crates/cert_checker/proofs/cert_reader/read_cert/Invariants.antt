-- the lines up to the next one have been taken
use Rattle.std.proofs.Common.{◌≡◌, ◌+◌, ◌-◌, map, length}
use Rattle.std.specs.Option.{option_map_or}
use Rattle.task.specs.Task.{task_of}
use Rattle.packed_state.specs.PooledView.{pooled_states, pooled_width}
use Rattle.certificate_reader.specs.Reader.{lines_read, source_of}
use Rattle.certificate.specs.CertificateParts.{listed_of}
use Rattle.cert_checker.specs.Reading.{IsListedSoFar}
use Rattle.cert_checker.specs.ReadProgress.{IsReadLine}
use Rattle.devices.specs.Progress.{AreSaid, stream}
use Rattle.cert_checker.proofs.cert_reader.read_cert.Given as goal

abbrev pub invariant-states : goal.invariant-states
invariant-states g l = record {
  so_far : IsListedSoFar g.R.Source.remaining (task_of l.task) l.fn.reader l.reader l.header (pooled_width l.states.sets) (map listed_of l.states.marks.items) (pooled_states l.states.sets) l.next;
  width : pooled_width l.states.sets ≡ length l.header.atoms.keys;
  failures : g.R.Source.failures (source_of l.reader) ≡ g.R.Source.failures (source_of l.fn.reader);
  said : AreSaid (IsReadLine (g.R.Source.remaining (source_of l.fn.reader))) g.E.Sink.may_lack_memory (stream (g.E.Sink.failures l.fn.err) (g.E.Sink.taken l.fn.err)) (stream (g.E.Sink.failures l.err) (g.E.Sink.taken l.err));
}

abbrev pub decreases-states : goal.decreases-states
decreases-states g l = (70000000 - lines_read l.reader) + option_map_or (λ _. 1) l.next 0
