use Rattle.std.proofs.Common.{take}
use Rattle.packed_state.specs.Packed.{bits_of}
use Rattle.table_rows.proofs.PlacesLemmas.{AreMarked}
use Rattle.table_rows.proofs.places.set_of.Given as goal

abbrev pub invariant-loop-atom : goal.invariant-loop-atom
invariant-loop-atom l = AreMarked l.scope (take l.atom-index l.atoms) (bits_of l.set)
