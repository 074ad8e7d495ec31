use Rattle.std.proofs.Common.{◌≡◌, ◌∙◌, ◌<◌, None, Some, List, length, get_or, refl, sym, ap, subst, arith, ℤ}
use Rattle.std.specs.Prelude.{All, IfSome}
use Rattle.std.proofs.lemmas.Option.{slice_get_read, get_or_from_slice_get}
use Rattle.lower_bounds.specs.PotentialFunctions.{IsInRange}
use Rattle.lower_bounds.specs.TableFunctions.{Row}
use Rattle.table_rows.specs.Tables.{table_of, weight_count_of}
use Rattle.table_rows.proofs.TableLemmas.{rows-weighed}
use Rattle.table_rows.proofs.FateLemmas.{row-there}
use Rattle.tables.specs.AllTables.{tables_of, count_of}
use Rattle.tables.specs.RowSums.{AreAdded}
use Rattle.tables.proofs.RowSumsLemmas.{as-losses, all-small, all-ranged, few-tables, sums-off, lacking-most}
use Rattle.tables.proofs.TablesLemmas.{each-at}
use Rattle.tables.proofs.row_sums.RowSums.take_off.Goals as goal
use Rattle.tables.proofs.row_sums.RowSums.take_off.Goals.{After-table}

-- the row that the table has
had : (c : After-table) → get_or c.args.self.now.rows.items c.args.place None ≡ Some c.in-Some.row
had c =
    let rows = c.args.self.now.rows.items in
    let within : c.args.place < length rows = omega (arith, c.requires.there, c.requires.sums.rows) in
    get_or_from_slice_get rows c.args.place c.index.result.now None (slice_get_read rows (length rows) c.args.place c.index.result.now refl within c.index.ensures) ∙ c.in-Some.is

below : (c : After-table) → c.in-Some.row < length (table_of c.table.result.now).rows
below c = subst (λ o. IfSome o (λ row. row < length (table_of c.table.result.now).rows)) (had c) (c.requires.sums.within c.args.place (table_of c.table.result.now) c.table.ensures.table)

pub weights-requires : goal.weights-requires
weights-requires c = below (goal.at.weights-requires c).After-table

pub take_each-requires-clause-long : goal.take_each-requires-clause-long
take_each-requires-clause-long c =
    let t = table_of c.table.result.now in
    let it = row-there t.rows c.in-Some.row (below (goal.at.take_each-requires-clause-long c).After-table) in
    ap length (c.weights.ensures it.0 it.1) ∙ each-at (λ (r : Row). length r.weights ≡ weight_count_of c.table.result.now) t.rows c.in-Some.row it.0 it.1 (rows-weighed c.table.result.now)
    ∙ c.table.ensures.count ∙ sym c.requires.sums.long

pub take_each-requires-clause-range : goal.take_each-requires-clause-range
take_each-requires-clause-range c =
    let t = table_of c.table.result.now in
    let it = row-there t.rows c.in-Some.row (below (goal.at.take_each-requires-clause-range c).After-table) in
    as-losses c.weights.result.now (subst (All IsInRange) (sym (c.weights.ensures it.0 it.1)) (each-at (λ (r : Row). All IsInRange r.weights) t.rows c.in-Some.row it.0 it.1 c.table.ensures.range))

pub take_each-requires-clause-small : goal.take_each-requires-clause-small
take_each-requires-clause-small c = all-small (tables_of c.args.tables.now) (count_of c.args.tables.now) c.args.self.now (all-ranged c.args.tables.now) (few-tables c.args.tables.now) c.requires.sums

pub overflow_add-self : goal.overflow_add-self
overflow_add-self c =
    let most = lacking-most c.args.self.now.rows.items in
    let few = few-tables c.args.tables.now in
    omega (arith, most, few, c.requires.sums.missing, c.requires.sums.rows)

pub returns-in-Some-clause-sums : goal.returns-in-Some-clause-sums
returns-in-Some-clause-sums c =
    let here = (goal.at.returns-in-Some-clause-sums c).After-table in
    let t = table_of c.table.result.now in
    let it = row-there t.rows c.in-Some.row (below here) in
    sums-off (tables_of c.args.tables.now) (count_of c.args.tables.now) c.args.self.now _ c.args.place t it.0 c.in-Some.row c.table.ensures.table it.1 c.requires.sums (had here)
    (subst (λ (w : List ℤ). AreAdded c.take_each.new.totals.items w c.args.self.now.totals.items) (c.weights.ensures it.0 it.1) c.take_each.ensures) refl refl
