use Rattle.std.proofs.Common.{◌≡◌, take, map}
use Rattle.std.specs.List.{flat_map}
use Rattle.task.specs.Task.{task_of}
use Rattle.certificate.specs.CertificateParts.{exchange_in}
use Rattle.certificate.specs.Gathering.{IsPassedOn, swap_line}
use Rattle.certificate.proofs.writer.write_exchanges.Given as goal

-- the lines so far are written out or buffered, and no call has failed
abbrev pub invariant-loop-exchange : goal.invariant-loop-exchange
invariant-loop-exchange g l =
    record {
      passed : IsPassedOn (g.W.Sink.taken l.initial.out) (g.W.Sink.taken l.out) l.initial.held.items l.held.items
          (flat_map (swap_line (task_of l.task)) (take l.exchange-index (map exchange_in l.exchanges)));
      failures : g.W.Sink.failures l.out ≡ g.W.Sink.failures l.initial.out;
      name : g.W.Sink.name l.out ≡ g.W.Sink.name l.initial.out;
    }
