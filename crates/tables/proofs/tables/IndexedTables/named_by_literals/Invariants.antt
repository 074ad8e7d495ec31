use Rattle.std.proofs.Common.{length, map, take}
use Rattle.grounding.specs.Views.{numbered_of}
use Rattle.model.specs.NumberedLiterals as numbered
use Rattle.packed_state.specs.Packed.{bits_of}
use Rattle.tables.specs.AllTables.{tables_of}
use Rattle.tables.specs.ByAtom.{AreMarked}
use Rattle.tables.proofs.tables.IndexedTables.named_by_literals.Given as goal

abbrev pub invariant-loop-literal : goal.invariant-loop-literal
invariant-loop-literal l = AreMarked l.self.by_atom (length (tables_of l.self)) (map (λ (x : numbered.NumberedLiteral). x.atom) (map numbered_of (take l.literal-index l.literals))) (bits_of l.named)
