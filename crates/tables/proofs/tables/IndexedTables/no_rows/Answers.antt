use Rattle.std.proofs.Common.{◌≡◌, ◌∙◌, ◌∷◌, ◌++◌, [], length, sym, ap, refl, pos, None, arith}
use Rattle.std.specs.Prelude.{replicate}
use Rattle.std.proofs.lemmas.List.{length-map, replicate_more}
use Rattle.table_rows.specs.Losses.{indexed_of}
use Rattle.tables.specs.AllTables.{tables_of, count_of}
use Rattle.tables.proofs.RowSumsLemmas.{no-sums}
use Rattle.tables.proofs.tables.IndexedTables.no_rows.Goals as goal

pub loop-preserved : goal.loop-preserved
loop-preserved c = c.in_ok-push.ensures.items ∙ ap (λ l. l ++ None ∷ []) c.loop.invariant ∙ replicate_more c.loop.counter None

pub returns : goal.returns
returns c =
    let many = length c.tables-missing.result.now in
    let all : c.loop.counter ≡ many = omega (arith, c.loop-test.false, c.loop.auto.counter-end) in
    no-sums (tables_of c.args.self.now) (count_of c.args.self.now) many _ (c.loop.invariant ∙ ap (λ n. replicate n None) all) refl
    (ap length c.tables-missing.ensures ∙ sym (length-map c.args.self.now.tables.items indexed_of))
    (c.in_ok-totals.ensures.items_if_clones_equal (λ y is. is) ∙ ap (λ n. replicate n (pos 0)) c.weight_count.ensures)
