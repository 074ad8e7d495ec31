use Rattle.std.proofs.Common.{◌≡◌, take, map}
use Rattle.std.specs.List.{flat_map}
use Rattle.table_rows.specs.Tables.{table_of}
use Rattle.certificate.specs.Gathering.{IsPassedOn, table_text}
use Rattle.certificate.proofs.writer.write_tables.Given as goal

-- the tables so far are written out or buffered, and no call has failed
abbrev pub invariant-loop-table : goal.invariant-loop-table
invariant-loop-table g l =
    record {
      passed : IsPassedOn (g.W.Sink.taken l.initial.out) (g.W.Sink.taken l.out) l.initial.held.items l.held.items
          (flat_map table_text (take l.table-index (map table_of l.tables)));
      failures : g.W.Sink.failures l.out ≡ g.W.Sink.failures l.initial.out;
      name : g.W.Sink.name l.out ≡ g.W.Sink.name l.initial.out;
    }
