use Rattle.std.proofs.Common.{◌≡◌, ℕ, ◌*◌, ◌<◌, length}
use Rattle.packed_state.specs.Packed.{bits_of}
use Rattle.packed_state.specs.Sets.{has}
use Rattle.tables.specs.AllTables.{tables_of}
use Rattle.tables.specs.Projections.{AreProjections, AreMoved}
use Rattle.tables.proofs.projections.Projections.move_to.Given as goal

abbrev pub invariant-words : goal.invariant-words
invariant-words l = record {
  projections : AreProjections (tables_of l.tables) l.self;
  moved : AreMoved (tables_of l.tables) l.initial.self l.self;
  wide : length (bits_of l.self.state) ≡ length (bits_of l.state);
  done : (n : ℕ) → n < 64 * l.place → has (bits_of l.self.state) n ≡ has (bits_of l.state) n;
}
