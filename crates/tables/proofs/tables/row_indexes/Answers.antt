use Rattle.std.proofs.Common.{◌∙◌, ◌++◌, ◌∷◌, [], map, Some, sym, ap}
use Rattle.std.proofs.lemmas.List.{map_push}
use Rattle.std.proofs.lemmas.Option.{slice_get-get_or}
use Rattle.table_rows.specs.Losses.{indexed_of}
use Rattle.tables.specs.RowIndex.{indexed_in}
use Rattle.table_rows.specs.Tables.{table_of}
use Rattle.table_rows.proofs.FateLemmas.{taken-more}
use Rattle.tables.proofs.tables.row_indexes.Goals as goal

pub loop-indexed-preserved : goal.loop-indexed-preserved
loop-indexed-preserved c =
    let items = c.args.tables.now in
    let k = c.loop-indexed.indexed-index in
    let read = slice_get-get_or items k c.indexed-item.result c.loop-indexed-test.true ∙ ap (λ t. Some t) (sym c.indexed-item.is) in
    let one = c.in_ok-new.ensures ∙ ap table_of c.table.ensures in
    ap (map indexed_in) c.in_ok-push.ensures.items ∙ map_push indexed_in c.loop-indexed.rows.items c.in_ok-new.field-0 ∙ (λ i. c.loop-indexed.invariant i ++ one i ∷ []) ∙ sym (taken-more indexed_of items k c.indexed-item.result read)
