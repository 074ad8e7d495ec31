use Rattle.std.proofs.Common.{◌∙◌, ◌<◌, map, Some, sym, ap, subst}
use Rattle.std.specs.Prelude.{All}
use Rattle.std.proofs.lemmas.Option.{slice_get-get_or}
use Rattle.table_rows.specs.Lists.{IsFiledAt}
use Rattle.table_rows.specs.Losses.{indexed_of}
use Rattle.table_rows.specs.Tables.{table_of}
use Rattle.tables.proofs.TablesLemmas.{by-atom-none, by-atom-more, mapped-at, scope-below}
use Rattle.tables.proofs.tables.by_atom.Goals as goal

pub loop-number-init : goal.loop-number-init
loop-number-init c = record { width = c.in_ok-lists.ensures.width; tables = by-atom-none (map indexed_of c.args.tables.now) c.in_ok-lists.lists c.in_ok-lists.ensures.empty }

pub file_at_all-requires : goal.file_at_all-requires
file_at_all-requires c =
    let items = c.args.tables.now in
    let k = c.loop-number.number in
    let read = slice_get-get_or items k c.index-tables-number.result c.loop-number-test.true ∙ ap Some (sym c.index-tables-number.is) in
    let scope = c.scope.ensures ∙ ap (λ u. (table_of u).scope) c.table.ensures in
    subst (λ w. All (λ n. n < w) c.scope.result.now) (sym c.loop-number.invariant.width)
    (subst (All (λ n. n < c.args.width)) (sym scope) (scope-below c.args.width (map indexed_of items) k (indexed_of c.index-tables-number.result) c.requires.scopes (mapped-at indexed_of items k c.index-tables-number.result read)))

pub loop-number-preserved : goal.loop-number-preserved
loop-number-preserved c =
    let items = c.args.tables.now in
    let k = c.loop-number.number in
    let read = slice_get-get_or items k c.index-tables-number.result c.loop-number-test.true ∙ ap Some (sym c.index-tables-number.is) in
    let scope = c.scope.ensures ∙ ap (λ u. (table_of u).scope) c.table.ensures in
    record {
      width = c.in_ok-file_at_all.ensures.width ∙ c.loop-number.invariant.width;
      tables = by-atom-more (map indexed_of items) k (indexed_of c.index-tables-number.result) c.loop-number.lists c.file_at_all.new.self (mapped-at indexed_of items k c.index-tables-number.result read) c.loop-number.invariant.tables
          (subst (λ l. IsFiledAt l k c.loop-number.lists c.file_at_all.new.self) scope c.in_ok-file_at_all.ensures);
    }
