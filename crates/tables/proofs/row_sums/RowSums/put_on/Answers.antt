use Rattle.std.proofs.Common.{◌≡◌, ◌∙◌, List, length, refl, sym, ap, subst, arith, ℤ}
use Rattle.std.specs.Prelude.{All}
use Rattle.lower_bounds.specs.PotentialFunctions.{IsInRange}
use Rattle.lower_bounds.specs.TableFunctions.{Row}
use Rattle.table_rows.specs.Tables.{table_of, weight_count_of}
use Rattle.table_rows.proofs.TableLemmas.{rows-weighed}
use Rattle.table_rows.proofs.FateLemmas.{row-there}
use Rattle.tables.specs.AllTables.{tables_of, count_of}
use Rattle.tables.specs.RowSums.{AreAdded}
use Rattle.tables.proofs.RowSumsLemmas.{as-losses, all-small, all-ranged, few-tables, sums-on, some-missing}
use Rattle.tables.proofs.TablesLemmas.{each-at}
use Rattle.tables.proofs.row_sums.RowSums.put_on.Goals as goal

pub weights-requires : goal.weights-requires
weights-requires c = c.requires.row (table_of c.table.result.now) c.table.ensures.table

pub add_each-requires-clause-long : goal.add_each-requires-clause-long
add_each-requires-clause-long c =
    let t = table_of c.table.result.now in
    let it = row-there t.rows c.args.row (c.requires.row t c.table.ensures.table) in
    ap length (c.weights.ensures it.0 it.1) ∙ each-at (λ (r : Row). length r.weights ≡ weight_count_of c.table.result.now) t.rows c.args.row it.0 it.1 (rows-weighed c.table.result.now)
    ∙ c.table.ensures.count ∙ sym c.requires.sums.long

pub add_each-requires-clause-range : goal.add_each-requires-clause-range
add_each-requires-clause-range c =
    let t = table_of c.table.result.now in
    let it = row-there t.rows c.args.row (c.requires.row t c.table.ensures.table) in
    as-losses c.weights.result.now (subst (All IsInRange) (sym (c.weights.ensures it.0 it.1)) (each-at (λ (r : Row). All IsInRange r.weights) t.rows c.args.row it.0 it.1 c.table.ensures.range))

pub add_each-requires-clause-small : goal.add_each-requires-clause-small
add_each-requires-clause-small c = all-small (tables_of c.args.tables.now) (count_of c.args.tables.now) c.args.self.now (all-ranged c.args.tables.now) (few-tables c.args.tables.now) c.requires.sums

pub overflow_sub-self : goal.overflow_sub-self
overflow_sub-self c =
    let t = table_of c.table.result.now in
    let it = row-there t.rows c.args.row (c.requires.row t c.table.ensures.table) in
    let some = some-missing (tables_of c.args.tables.now) (count_of c.args.tables.now) c.args.self.now c.args.self.now c.args.place t it.0 c.args.row c.table.ensures.table it.1 c.requires.sums c.requires.none in
    omega (arith, some)

pub returns-clause-sums : goal.returns-clause-sums
returns-clause-sums c =
    let t = table_of c.table.result.now in
    let it = row-there t.rows c.args.row (c.requires.row t c.table.ensures.table) in
    let some = some-missing (tables_of c.args.tables.now) (count_of c.args.tables.now) c.args.self.now c.args.self.now c.args.place t it.0 c.args.row c.table.ensures.table it.1 c.requires.sums c.requires.none in
    sums-on (tables_of c.args.tables.now) (count_of c.args.tables.now) c.args.self.now _ c.args.place t it.0 c.args.row c.table.ensures.table it.1 c.requires.sums c.requires.none
    (subst (λ (w : List ℤ). AreAdded c.args.self.now.totals.items w c.add_each.new.totals.items) (c.weights.ensures it.0 it.1) c.add_each.ensures) (omega (arith, some)) refl
