use Rattle.std.proofs.Common.{◌≡◌, length}
use Rattle.grounding.specs.Ground.{task_in, atoms_in}
use Rattle.tables.specs.TotalLosses.{numbers_of}
use Rattle.tables.proofs.TotalLemmas.{AreKnownBelow}
use Rattle.tables.proofs.tables.IndexedTables.add_table.Given as goal

abbrev pub invariant-loop-index : goal.invariant-loop-index
invariant-loop-index l = record {
  long : length l.all.items ≡ length l.initial.all.items;
  numbers : numbers_of l.all.items ≡ numbers_of l.initial.all.items;
  known : AreKnownBelow l.self (task_in l.ground) (atoms_in l.ground) l.table l.index l.all.items;
}
