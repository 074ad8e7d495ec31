use Rattle.std.proofs.Common.{◌≡◌, ◌-◌, length}
use Rattle.packed_state.specs.Packed.{bits_of}
use Rattle.tables.specs.AllTables.{tables_of, count_of}
use Rattle.tables.specs.KnownRows.{AreKnown}
use Rattle.tables.specs.Projections.{AreProjections}
use Rattle.tables.specs.RowSums.{AreSums}
use Rattle.tables.proofs.KnownRowsLemmas.{IsLeftFrom}
use Rattle.tables.proofs.known_rows.KnownRows.find_touched.Given as goal

abbrev pub invariant-touched : goal.invariant-touched
invariant-touched l = record {
  projections : AreProjections (tables_of l.tables) l.self.projections;
  state : bits_of l.self.projections.state ≡ bits_of l.initial.self.projections.state;
  sums : AreSums (tables_of l.tables) (count_of l.tables) l.self.sums;
  known : AreKnown (tables_of l.tables) (bits_of l.self.projections.touched) (bits_of l.self.projections.state) l.self.sums.rows.items;
  left : IsLeftFrom (bits_of l.initial.self.projections.touched) l.place (bits_of l.self.projections.touched);
}

abbrev pub decreases-touched : goal.decreases-touched
decreases-touched l = length (bits_of l.self.projections.touched) - l.place
