use Rattle.std.proofs.Common.{◌≡◌, length, take}
use Rattle.std.specs.List.{flat_map}
use Rattle.packed_state.specs.Packed.{bits_of}
use Rattle.certificate.specs.Gathering.{IsPassedOn, state_line}
use Rattle.certificate.specs.Certificate.{certificate_of, store_in}
use Rattle.packed_state.specs.PooledView.{pooled_width}
use Rattle.certificate.proofs.writer.write_states.Given as goal

-- the set is as wide as the lines need, the lines so far are written out or buffered, and no call has failed
abbrev pub invariant-loop-place : goal.invariant-loop-place
invariant-loop-place g l =
    record {
      width : length (bits_of l.set) ≡ pooled_width (store_in l.cert);
      passed : IsPassedOn (g.W.Sink.taken l.initial.out) (g.W.Sink.taken l.out) l.initial.held.items l.held.items
          (flat_map state_line (take l.place (certificate_of l.cert).lines));
      failures : g.W.Sink.failures l.out ≡ g.W.Sink.failures l.initial.out;
      name : g.W.Sink.name l.out ≡ g.W.Sink.name l.initial.out;
    }
