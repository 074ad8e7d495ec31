use Rattle.std.proofs.Common.{length, ap, arith}
use Rattle.std.proofs.lemmas.List.{length-map}
use Rattle.table_rows.specs.Losses.{indexed_of}
use Rattle.tables.specs.AllTables.{tables_of}
use Rattle.tables.proofs.ProjectionsLemmas.{empty-projections}
use Rattle.tables.proofs.tables.IndexedTables.projections.Goals as goal

pub returns-clause-projections : goal.returns-clause-projections
returns-clause-projections c =
    empty-projections (tables_of c.args.self.now) _ c.args.width c.in_ok-sets.ensures c.in_ok-state.ensures
    (omega (arith, c.in_ok-touched.ensures.width, ap length c.tables.ensures, length-map c.args.self.now.tables.items indexed_of))

pub returns-clause-touched : goal.returns-clause-touched
returns-clause-touched c = λ k below. c.in_ok-touched.ensures.all k (omega (arith, below, ap length c.tables.ensures, length-map c.args.self.now.tables.items indexed_of))
