use Rattle.std.proofs.Common.{◌≡◌, take, length}
use Rattle.std.specs.List.{flat_map}
use Rattle.packed_state.specs.Packed.{bits_of}
use Rattle.table_rows.specs.Tables.{table_of}
use Rattle.certificate.specs.Gathering.{IsPassedOn, row_line}
use Rattle.certificate.proofs.writer.write_rows.Given as goal

-- the set is as wide as the scope, the rows so far are written out or buffered, and no call has failed
abbrev pub invariant-loop-row : goal.invariant-loop-row
invariant-loop-row g l =
    record {
      width : length (bits_of l.set) ≡ length (table_of l.table).scope;
      passed : IsPassedOn (g.W.Sink.taken l.initial.out) (g.W.Sink.taken l.out) l.initial.held.items l.held.items
          (flat_map row_line (take l.row (table_of l.table).rows));
      failures : g.W.Sink.failures l.out ≡ g.W.Sink.failures l.initial.out;
      name : g.W.Sink.name l.out ≡ g.W.Sink.name l.initial.out;
    }
