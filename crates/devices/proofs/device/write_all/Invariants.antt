-- What is no longer in the rest was taken, no call has failed, and the sink still writes the same file.
use Rattle.std.proofs.Common.{◌≡◌, List, ℕ, ◌++◌, length}
use Rattle.std.specs.Io.KnownBytes.{Appends}
use Rattle.devices.proofs.device.write_all.Given as goal

abbrev pub invariant-writes : goal.invariant-writes
invariant-writes g l =
    record {
      taken : (done : List ℕ) × (l.bytes ≡ done ++ l.rest) × Appends (g.S.Sink.taken l.initial.sink) (g.S.Sink.taken l.sink) done;
      failures : g.S.Sink.failures l.sink ≡ g.S.Sink.failures l.initial.sink;
      name : g.S.Sink.name l.sink ≡ g.S.Sink.name l.initial.sink;
    }

abbrev pub decreases-writes : goal.decreases-writes
decreases-writes g l = length l.rest
