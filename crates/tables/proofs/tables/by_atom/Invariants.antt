use Rattle.std.proofs.Common.{◌≡◌, map, length}
use Rattle.tables.specs.ByAtom.{IsByAtom}
use Rattle.table_rows.specs.Losses.{indexed_of}
use Rattle.tables.proofs.tables.by_atom.Given as goal

abbrev pub invariant-loop-number : goal.invariant-loop-number
invariant-loop-number l = record {
  width : length l.lists.lists.items ≡ l.width;
  tables : IsByAtom (map indexed_of l.tables) l.number l.lists;
}
