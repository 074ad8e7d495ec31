use Rattle.std.proofs.Common.{◌≡◌, [], map, take}
use Rattle.std.specs.Prelude.{fold}
use Rattle.packed_state.specs.Packed.{bits_of}
use Rattle.table_rows.specs.Afters.{freed}
use Rattle.table_rows.specs.PlacedChanges.{when_of}
use Rattle.table_rows.proofs.afters.PlacedChanges.list_free.Given as goal

abbrev pub invariant-loop-when : goal.invariant-loop-when
invariant-loop-when l = l.free.items ≡ fold (freed (bits_of l.row) (bits_of l.left)) [] (map when_of (take l.when-index l.when-items))
