use Rattle.std.proofs.Common.{◌≡◌, ◌∙◌, ◌<◌, true, List, length, map, sym, ap, subst, arith}
use Rattle.std.specs.Prelude.{All}
use Rattle.std.specs.List.{filter_map}
use Rattle.faults.proofs.Results.{if_ok}
use Rattle.grounding.specs.Views.{numbered_of}
use Rattle.grounding.specs.Changes.{conditional_of}
use Rattle.packed_state.specs.PooledView.{pooled_states}
use Rattle.lower_bounds.specs.FairTables.{touches_scope}
use Rattle.table_rows.specs.Afters.{PlacedChanges, placed_changes}
use Rattle.table_rows.specs.Columns.{LosesInEach}
use Rattle.table_rows.specs.Placed.{PlacedLiteral, placed_of, placed_in}
use Rattle.table_rows.specs.PlacedChanges.{changes_of, FitsWidth}
use Rattle.table_rows.specs.Tables.{table_of}
use Rattle.table_rows.proofs.LossLemmas.{each-loss-is, each-loses-nothing}
use Rattle.table_rows.proofs.PlacedLemmas.{all-within}
use Rattle.table_rows.proofs.PlacingLemmas.{changes-fit, all-plain}
use Rattle.table_rows.proofs.StoreLemmas.{sets-wide}
use Rattle.table_rows.proofs.indexed.IndexedTable.loses_by_each.Goals as goal

pub returns-then-not-touches_scope : goal.returns-then-not-touches_scope
returns-then-not-touches_scope c =
    let table = table_of c.args.self.now.table.now in
    let changes = map conditional_of c.args.changes.now in
    each-loses-nothing (map numbered_of c.args.literals.now) changes table
    (sym (ap (λ s. touches_scope changes (record { scope = s; rows = table.rows })) c.scope-scope.ensures) ∙ sym (c.touches_scope.ensures table.rows) ∙ c.if-not-touches_scope.true)
    c.args.most.now c.fill.new.most c.args.self.now.table.now.count c.requires c.fill.ensures

pub most_lost-requires-clause-fits : goal.most_lost-requires-clause-fits
most_lost-requires-clause-fits c =
    let t = c.args.self.now.table.now in
    let literals = map numbered_of c.args.literals.now in
    let placed : map placed_of c.as_slice.result.now ≡ filter_map (placed_in t.scope.items) literals =
    ap (map placed_of) c.as_slice.ensures.value ∙ c.in_ok-literals.ensures ∙ ap (λ scope. filter_map (placed_in scope) literals) c.scope-scope.ensures in
    let changes : changes_of c.in_ok-changes.changes ≡ placed_changes t.scope.items (map conditional_of c.args.changes.now) =
    c.in_ok-changes.ensures ∙ ap (λ scope. placed_changes scope (map conditional_of c.args.changes.now)) c.scope-scope.ensures in
    record {
      literals = subst (All (λ (l : PlacedLiteral). l.place < length t.scope.items)) (sym placed) (all-within t.scope.items literals);
      changes = subst (FitsWidth (length t.scope.items)) (sym changes) (changes-fit t.scope.items (map conditional_of c.args.changes.now));
    }

pub returns : goal.returns
returns c =
    let t = c.args.self.now.table.now in
    let literals = map numbered_of c.args.literals.now in
    let changes = map conditional_of c.args.changes.now in
    let placed : map placed_of c.as_slice.result.now ≡ filter_map (placed_in t.scope.items) literals =
    ap (map placed_of) c.as_slice.ensures.value ∙ c.in_ok-literals.ensures ∙ ap (λ scope. filter_map (placed_in scope) literals) c.scope-scope.ensures in
    let made : changes_of c.in_ok-changes.changes ≡ placed_changes t.scope.items changes =
    c.in_ok-changes.ensures ∙ ap (λ scope. placed_changes scope changes) c.scope-scope.ensures in
    let touched : touches_scope changes (table_of t) ≡ true =
    sym (ap (λ s. touches_scope changes (record { scope = s; rows = (table_of t).rows })) c.scope-scope.ensures) ∙ sym (c.touches_scope.ensures (table_of t).rows) ∙ c.if-not-touches_scope.false in
    if_ok c.most_lost.result (λ closed lost.
    each-loss-is t.count t.scope.items t.rising (pooled_states t.rows.sets) (sets-wide t.rows.sets (length t.scope.items) t.wide) t.rows.weights.items literals changes (all-plain c.args.changes.now) touched c.most_lost.new.most
    (omega (arith, c.most_lost.auto.most, c.requires)) closed
    (subst (λ (q : (ls : List PlacedLiteral) × PlacedChanges). LosesInEach (record { table = table_of t; sets = pooled_states t.rows.sets; literals = q.0; changes = q.1 }) c.most_lost.new.most closed) (λ i. (placed i, made i)) lost)) c.most_lost.ensures
