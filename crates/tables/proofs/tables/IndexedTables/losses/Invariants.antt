use Rattle.std.proofs.Common.{◌≡◌, length}
use Rattle.grounding.specs.Ground.{task_in, atoms_in}
use Rattle.tables.specs.TotalLosses.{AreFrom, AreKnownAfter, numbers_of}
use Rattle.tables.proofs.tables.IndexedTables.losses.Given as goal

abbrev pub invariant-loop-index : goal.invariant-loop-index
invariant-loop-index l = record {
  long : length l.all.items ≡ l.index;
  numbers : AreFrom l.first (numbers_of l.all.items);
  known : AreKnownAfter l.self (task_in l.ground) (atoms_in l.ground) 0 l.all.items;
}

abbrev pub invariant-loop-table : goal.invariant-loop-table
invariant-loop-table l = record {
  long : length l.all.items ≡ l.count;
  numbers : AreFrom l.first (numbers_of l.all.items);
  known : AreKnownAfter l.self (task_in l.ground) (atoms_in l.ground) l.table l.all.items;
}
