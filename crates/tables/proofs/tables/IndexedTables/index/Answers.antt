use Rattle.std.proofs.Common.{◌≡◌, ◌∙◌, ◌++◌, ◌∷◌, [], map, Some, sym, ap, subst}
use Rattle.std.specs.Prelude.{All}
use Rattle.std.proofs.lemmas.List.{map_push}
use Rattle.std.proofs.lemmas.List.Elements.{All-append, All-cons, All-nil}
use Rattle.std.proofs.lemmas.Option.{slice_get-get_or}
use Rattle.lower_bounds.specs.PotentialFunctions.{IsInRange}
use Rattle.lower_bounds.specs.TableFunctions.{Row}
use Rattle.table_rows.specs.Tables.{table_of, weight_count_of}
use Rattle.table_rows.specs.declared.table.Table.{Table}
use Rattle.table_rows.specs.Losses.{indexed_of, indexed_count_of}
use Rattle.table_rows.specs.declared.indexed.IndexedTable.{IndexedTable}
use Rattle.table_rows.proofs.FateLemmas.{taken-more}
use Rattle.tables.proofs.TablesLemmas.{each-at}
use Rattle.tables.proofs.tables.IndexedTables.index.Goals as goal

pub new-requires : goal.new-requires
new-requires c =
    let items = c.args.tables.now in
    let read = slice_get-get_or items c.loop-table.table-index c.table-item.result c.loop-table-test.true ∙ ap (λ t. Some t) (sym c.table-item.is) in
    each-at (λ (t : Table). All (λ (r : Row). All IsInRange r.weights) (table_of t).rows) items c.loop-table.table-index c.table-item.result read c.requires.range

pub loop-table-preserved : goal.loop-table-preserved
loop-table-preserved c =
    let items = c.args.tables.now in
    let k = c.loop-table.table-index in
    let old = c.loop-table.indexed.items in
    let read = slice_get-get_or items k c.table-item.result c.loop-table-test.true ∙ ap (λ t. Some t) (sym c.table-item.is) in
    let P = λ (t : IndexedTable). indexed_count_of t ≡ c.args.count in
    let count = c.in_ok-new.ensures.count ∙ each-at (λ (t : Table). weight_count_of t ≡ c.args.count) items k c.table-item.result read c.requires.counts in
    record {
      tables = ap (map indexed_of) c.in_ok-push.ensures.items ∙ map_push indexed_of old c.in_ok-new.field-0 ∙ (λ i. c.loop-table.invariant.tables i ++ c.in_ok-new.ensures.table i ∷ []) ∙ sym (taken-more table_of items k c.table-item.result read);
      counts = subst (All P) (sym c.in_ok-push.ensures.items) (All-append P old (c.in_ok-new.field-0 ∷ []) c.loop-table.invariant.counts (All-cons P c.in_ok-new.field-0 [] count (All-nil P)));
    }
