use Rattle.packed_state.specs.Packed.{bits_of}
use Rattle.tables.specs.AllTables.{tables_of}
use Rattle.tables.specs.Projections.{AreProjections, AreMoved}
use Rattle.tables.proofs.ProjectionsLemmas.{IsLeft}
use Rattle.tables.proofs.projections.Projections.follow_word.Given as goal

abbrev pub invariant-rest : goal.invariant-rest
invariant-rest l = record {
  projections : AreProjections (tables_of l.tables) l.self;
  moved : AreMoved (tables_of l.tables) l.initial.self l.self;
  left : IsLeft l.place l.rest (bits_of l.initial.self.state) (bits_of l.state) (bits_of l.self.state);
}

abbrev pub decreases-rest : goal.decreases-rest
decreases-rest l = l.rest
