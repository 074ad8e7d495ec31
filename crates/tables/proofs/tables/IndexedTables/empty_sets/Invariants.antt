use Rattle.std.proofs.Common.{◌≡◌, [], length, map, take}
use Rattle.packed_state.specs.Packed.{bits_of}
use Rattle.packed_state.specs.Sets.{set_of}
use Rattle.lower_bounds.specs.TableFunctions.{Table}
use Rattle.tables.specs.AllTables.{tables_of}
use Rattle.tables.proofs.tables.IndexedTables.empty_sets.Given as goal

abbrev pub invariant-loop-table : goal.invariant-loop-table
invariant-loop-table l = map bits_of l.sets.items ≡ map (λ (t : Table). set_of (length t.scope) []) (take l.table-index (tables_of l.self))
