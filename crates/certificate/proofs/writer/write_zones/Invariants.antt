use Rattle.std.proofs.Common.{◌≡◌, take}
use Rattle.std.specs.List.{flat_map}
use Rattle.landmark_zones.specs.Landmarks.{landmarks_of}
use Rattle.certificate.specs.Gathering.{IsPassedOn, zone_line}
use Rattle.certificate.proofs.writer.write_zones.Given as goal

-- the zones so far are written out or buffered, and no call has failed
abbrev pub invariant-loop-number : goal.invariant-loop-number
invariant-loop-number g l =
    record {
      passed : IsPassedOn (g.W.Sink.taken l.initial.out) (g.W.Sink.taken l.out) l.initial.held.items l.held.items
          (flat_map zone_line (take l.number (landmarks_of l.landmarks).zones));
      failures : g.W.Sink.failures l.out ≡ g.W.Sink.failures l.initial.out;
      name : g.W.Sink.name l.out ≡ g.W.Sink.name l.initial.out;
    }
