use Rattle.packed_state.specs.Packed.{bits_of}
use Rattle.table_rows.proofs.ListsLemmas.{IsFiledBelow}
use Rattle.table_rows.proofs.lists.Lists.file.Given as goal

abbrev pub invariant-loop-place : goal.invariant-loop-place
invariant-loop-place l = IsFiledBelow l.place (bits_of l.set) l.number l.initial.self l.self
