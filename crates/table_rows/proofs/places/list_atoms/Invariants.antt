use Rattle.std.proofs.Common.{◌≡◌, ◌++◌, take}
use Rattle.packed_state.specs.Packed.{bits_of}
use Rattle.table_rows.specs.Rows.{atoms_at}
use Rattle.table_rows.proofs.places.list_atoms.Given as goal

abbrev pub invariant-loop-place : goal.invariant-loop-place
invariant-loop-place l = l.atoms.items ≡ l.initial.atoms.items ++ atoms_at (take l.place l.scope) (bits_of l.set)
