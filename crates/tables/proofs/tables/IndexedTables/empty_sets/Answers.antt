use Rattle.std.proofs.Common.{◌≡◌, ◌∙◌, ◌++◌, ◌∷◌, [], length, map, Some, sym, ap, subst}
use Rattle.std.specs.Prelude.{slice_get}
use Rattle.std.proofs.lemmas.List.{map_push}
use Rattle.std.proofs.lemmas.Option.{slice_get-get_or}
use Rattle.packed_state.specs.Packed.{bits_of}
use Rattle.packed_state.specs.Sets.{set_of}
use Rattle.lower_bounds.specs.TableFunctions.{Table}
use Rattle.table_rows.specs.Tables.{table_of}
use Rattle.table_rows.specs.Losses.{indexed_of}
use Rattle.table_rows.proofs.FateLemmas.{taken-more}
use Rattle.tables.specs.AllTables.{tables_of}
use Rattle.tables.proofs.TablesLemmas.{mapped-at}
use Rattle.tables.proofs.tables.IndexedTables.empty_sets.Goals as goal

pub loop-table-preserved : goal.loop-table-preserved
loop-table-preserved c =
    let items = c.args.self.now.tables.items in
    let k = c.loop-table.table-index in
    let empty = λ (t : Table). set_of (length t.scope) [] in
    let read : slice_get items k ≡ Some c.table-item.result =
    subst (λ l. slice_get l k ≡ Some c.table-item.result) c.tables-table-items.ensures (slice_get-get_or c.tables-table-items.result.now k c.table-item.result c.loop-table-test.true ∙ ap (λ t. Some t) (sym c.table-item.is)) in
    let set : bits_of c.in_ok-empty.field-0 ≡ empty (indexed_of c.table-item.result) =
    c.in_ok-empty.ensures ∙ ap (λ n. set_of n []) (c.width.ensures ∙ ap (λ u. length (table_of u).scope) c.table.ensures) in
    ap (map bits_of) c.in_ok-push.ensures.items ∙ map_push bits_of c.loop-table.sets.items c.in_ok-empty.field-0
    ∙ (λ i. c.loop-table.invariant i ++ set i ∷ [])
    ∙ sym (taken-more empty (tables_of c.args.self.now) k (indexed_of c.table-item.result) (mapped-at indexed_of items k c.table-item.result read))
