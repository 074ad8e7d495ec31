use Rattle.std.proofs.Common.{◌≡◌, ◌∙◌, ◌<◌, [], Bool, List, length, map, sym, ap, subst}
use Rattle.std.specs.Prelude.{All}
use Rattle.std.specs.List.{list_any, list_all, filter_map}
use Rattle.grounding.specs.Views.{numbered_of}
use Rattle.packed_state.specs.PooledView.{pooled_states}
use Rattle.packed_state.proofs.PackedLemmas.{length-set_of}
use Rattle.table_rows.specs.Placed.{PlacedLiteral, placed_of, placed_in, is_so}
use Rattle.table_rows.proofs.AgreeingLemmas.{rows-agree}
use Rattle.table_rows.proofs.PlacedLemmas.{all-within}
use Rattle.table_rows.proofs.StoreLemmas.{sets-wide}
use Rattle.table_rows.proofs.indexed.IndexedTable.some_agrees.Goals as goal

pub some_are_so-requires-clause-width : goal.some_are_so-requires-clause-width
some_are_so-requires-clause-width c = ap length c.in_ok-set.ensures ∙ length-set_of c.width.result [] ∙ c.width.ensures

pub some_are_so-requires-clause-below : goal.some_are_so-requires-clause-below
some_are_so-requires-clause-below c =
    let t = c.args.self.now.table.now in
    let literals = map numbered_of c.args.literals.now in
    let placed : map placed_of c.as_slice.result.now ≡ filter_map (placed_in t.scope.items) literals =
    ap (map placed_of) c.as_slice.ensures.value ∙ c.in_ok-placed.ensures ∙ ap (λ scope. filter_map (placed_in scope) literals) c.scope.ensures in
    subst (All (λ (l : PlacedLiteral). l.place < length t.scope.items)) (sym placed) (all-within t.scope.items literals)

pub returns : goal.returns
returns c =
    let t = c.args.self.now.table.now in
    let literals = map numbered_of c.args.literals.now in
    let placed : map placed_of c.as_slice.result.now ≡ filter_map (placed_in t.scope.items) literals =
    ap (map placed_of) c.as_slice.ensures.value ∙ c.in_ok-placed.ensures ∙ ap (λ scope. filter_map (placed_in scope) literals) c.scope.ensures in
    c.some_are_so.ensures ∙ ap (λ given. list_any (λ (bits : List Bool). list_all (is_so bits) given) (pooled_states t.rows.sets)) placed
    ∙ rows-agree t.scope.items t.rising literals t.count (pooled_states t.rows.sets) t.rows.weights.items (sets-wide t.rows.sets (length t.scope.items) t.wide)
