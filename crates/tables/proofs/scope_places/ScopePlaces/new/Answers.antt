use Rattle.std.proofs.Common.{◌≡◌, ◌∙◌, ◌<◌, ◌≤◌, ◌++◌, ◌∷◌, [], length, map, take, Some, sym, ap, subst, arith}
use Rattle.std.specs.Prelude.{All, slice_get}
use Rattle.std.proofs.lemmas.List.{length-map, length-take-le}
use Rattle.std.proofs.lemmas.Option.{slice_get-get_or}
use Rattle.lower_bounds.specs.TableFunctions.{Table}
use Rattle.table_rows.specs.Losses.{indexed_of}
use Rattle.table_rows.proofs.FateLemmas.{take-at}
use Rattle.table_rows.specs.Tables.{table_of}
use Rattle.tables.specs.ScopePlaces.{scopes_of, AreScopePlaces}
use Rattle.tables.proofs.TablesLemmas.{mapped-at, scope-below}
use Rattle.tables.proofs.scope_places.ScopePlaces.new.Goals.{After-index-tables-number}
use Rattle.tables.proofs.scope_places.ScopePlaces.new.Goals as goal

read : (c : After-index-tables-number) → slice_get (map indexed_of c.args.tables.now) c.loop-number.number ≡ Some (indexed_of c.index-tables-number.result)
read c =
    mapped-at indexed_of c.args.tables.now c.loop-number.number c.index-tables-number.result
    (slice_get-get_or c.args.tables.now c.loop-number.number c.index-tables-number.result c.loop-number-test.true ∙ ap (λ t. Some t) (sym c.index-tables-number.is))

pub push_scope-requires-clause-within : goal.push_scope-requires-clause-within
push_scope-requires-clause-within c =
    let there = read (goal.at.push_scope-requires-clause-within c).After-index-tables-number in
    let scope = c.scope.ensures ∙ ap (λ u. (table_of u).scope) c.table.ensures in
    subst (λ w. All (λ n. n < w) c.scope.result.now) (sym c.loop-number.invariant.width)
    (subst (All (λ n. n < c.args.width)) (sym scope) (scope-below c.args.width (map indexed_of c.args.tables.now) c.loop-number.number (indexed_of c.index-tables-number.result) c.requires.scopes there))

pub loop-number-preserved : goal.loop-number-preserved
loop-number-preserved c =
    let there = read (goal.at.loop-number-preserved c).After-index-tables-number in
    let tables = map indexed_of c.args.tables.now in
    let scopes = scopes_of tables in
    let k = c.loop-number.number in
    let scope = c.scope.ensures ∙ ap (λ u. (table_of u).scope) c.table.ensures in
    let within : k ≤ length scopes = omega (arith, c.loop-number-test.true, length-map tables (λ (t : Table). t.scope), length-map c.args.tables.now indexed_of) in
    record {
      width = c.in_ok-push_scope.ensures.width ∙ c.loop-number.invariant.width;
      places =
          subst (λ l. AreScopePlaces l c.push_scope.new.self) (sym (take-at scopes k (indexed_of c.index-tables-number.result).scope (mapped-at (λ (t : Table). t.scope) tables k (indexed_of c.index-tables-number.result) there)))
          (subst (λ s. AreScopePlaces (take k scopes ++ s ∷ []) c.push_scope.new.self) scope (c.in_ok-push_scope.ensures.places (take k scopes) (sym (length-take-le k scopes within)) c.loop-number.invariant.places));
    }
