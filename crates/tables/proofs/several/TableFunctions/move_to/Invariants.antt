use Rattle.std.proofs.Common.{◌≡◌}
use Rattle.packed_state.specs.Packed.{bits_of}
use Rattle.tables.proofs.ValueLemmas.{AreMovedBelow}
use Rattle.tables.proofs.several.TableFunctions.move_to.Given as goal

abbrev pub invariant-loop-place : goal.invariant-loop-place
invariant-loop-place l = record {
  rows : l.known.rows ≡ l.initial.known.rows;
  scores : AreMovedBelow l.self.values.items (bits_of l.state) l.place l.initial.known.scores.items l.known.scores.items;
}
