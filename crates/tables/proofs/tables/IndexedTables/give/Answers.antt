use Rattle.std.proofs.Common.{◌<◌, length, map, refl, arith}
use Rattle.std.proofs.lemmas.Int.{ints}
use Rattle.std.proofs.lemmas.Option.{slice_get_read}
use Rattle.grounding.specs.Views.{numbered_of}
use Rattle.lower_bounds.specs.FairTables.{table_gives}
use Rattle.tables.specs.AllTables.{tables_of}
use Rattle.table_rows.specs.Losses.{indexed_of}
use Rattle.tables.proofs.TablesLemmas.{sum-more, mapped-at}
use Rattle.tables.proofs.tables.IndexedTables.give.Goals as goal

pub loop-table-preserved : goal.loop-table-preserved
loop-table-preserved c =
    let items = c.args.self.now.tables.items in
    let k = c.loop-table.table in
    let within : k < length items = omega (arith, c.loop-table-test.true, c.len-table-end.ensures) in
    let few = c.args.self.now.few in
    let read = slice_get_read items (length items) k c.index.result.now refl within c.index.ensures in
    let literals = map numbered_of c.args.literals.now in
    let more = sum-more (tables_of c.args.self.now) k (indexed_of c.index.result.now) (table_gives c.args.place literals) (mapped-at indexed_of items k c.index.result.now read) in
    let value = c.in_ok-total.ensures.value in
    let range = c.in_ok-total.ensures.range in
    let low = range.least in
    let high = range.most in
    let is = c.loop-table.invariant.is in
    let least = c.loop-table.invariant.least in
    let most = c.loop-table.invariant.most in
    record { is = omega (arith, ints); least = omega (arith, ints); most = omega (arith, ints) }
