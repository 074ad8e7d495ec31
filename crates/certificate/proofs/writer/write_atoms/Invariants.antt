use Rattle.std.proofs.Common.{◌≡◌, take}
use Rattle.std.specs.List.{flat_map}
use Rattle.task.specs.Task.{task_of}
use Rattle.certificate.specs.Gathering.{IsPassedOn, atom_line, atoms_weighed}
use Rattle.certificate.specs.Certificate.{certificate_of}
use Rattle.certificate.proofs.writer.write_atoms.Given as goal

-- the lines so far are written out or buffered, and no call has failed
abbrev pub invariant-loop-place : goal.invariant-loop-place
invariant-loop-place g l =
    record {
      passed : IsPassedOn (g.W.Sink.taken l.initial.out) (g.W.Sink.taken l.out) l.initial.held.items l.held.items
          (flat_map atom_line (take l.place (atoms_weighed (task_of l.task) (certificate_of l.cert))));
      failures : g.W.Sink.failures l.out ≡ g.W.Sink.failures l.initial.out;
      name : g.W.Sink.name l.out ≡ g.W.Sink.name l.initial.out;
    }
