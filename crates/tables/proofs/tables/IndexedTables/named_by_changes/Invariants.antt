use Rattle.std.proofs.Common.{length, map, take}
use Rattle.grounding.specs.Changes.{counting_of}
use Rattle.model.specs.NumberedLiterals as numbered
use Rattle.packed_state.specs.Packed.{bits_of}
use Rattle.tables.specs.AllTables.{tables_of}
use Rattle.tables.specs.ByAtom.{AreMarked}
use Rattle.tables.proofs.tables.IndexedTables.named_by_changes.Given as goal

abbrev pub invariant-loop-change : goal.invariant-loop-change
invariant-loop-change l = AreMarked l.self.by_atom (length (tables_of l.self)) (map (λ (x : numbered.NumberedChange). x.atom) (map counting_of (take l.change-index l.changes))) (bits_of l.named)
