-- Closed and what is lost, of a row by its ways.
use Rattle.std.proofs.Common.{◌≡◌, ◌∙◌, ℕ, Bool, true, false, List, ◌++◌, length, map, Option, refl, sym, ap, subst, ℤ, ◌+ℤ◌, neg_ℤ}
use Rattle.std.specs.Prelude.{IsTrue, Contains, is_some}
use Rattle.std.specs.List.{list_all, filter_map}
use Rattle.std.proofs.lemmas.List.{map-append}
use Rattle.std.proofs.lemmas.List.Elements.{filter_map-append}
use Rattle.model.proofs.ListLemmas.{Contains-map, map-Contains, Contains-filter_map, filter_map-Contains}
use Rattle.lower_bounds.specs.TableFunctions.{Row, Table, is_among, row_of, weight_at}
use Rattle.lower_bounds.specs.FairTables.{ConditionalChange, afters_of, losses_from}
use Rattle.lower_bounds.proofs.TableLists.{all-from, all-at}
use Rattle.table_rows.specs.Rows.{are_rising, atoms_at}
use Rattle.table_rows.specs.Afters.{placed_changes, is_plain, left_of, is_open_at, ways, losses_to}
use Rattle.table_rows.proofs.AfterLemmas.{after-way, way-after}

pub same-truth : (a b : Bool) → (a ≡ true → b ≡ true) → (b ≡ true → a ≡ true) → a ≡ b
same-truth true b into from = sym (into refl)
same-truth false true into from = from refl
same-truth false false into from = refl

module _ (t : Table) (rising : IsTrue (are_rising t.scope)) (row : Row) (set : List Bool) (long : length set ≡ length t.scope) (of_set : row.atoms ≡ atoms_at t.scope set)
    (changes : List ConditionalChange) (plain : list_all is_plain changes ≡ true) (free : List ℕ)
    (are : (k : ℕ) → is_among free k ≡ is_open_at (placed_changes t.scope changes).whens set (left_of (placed_changes t.scope changes) set) k) where
  abbrev left : List Bool
  left = left_of (placed_changes t.scope changes) set

  abbrev row_at : List Bool → Option Row
  row_at way = row_of t (atoms_at t.scope way)

  into : (way : List Bool) → Contains (ways left free) way → Contains (afters_of changes t.scope row.atoms) (atoms_at t.scope way)
  into way at = subst (λ atoms. Contains (afters_of changes t.scope atoms) (atoms_at t.scope way)) (sym of_set) (after-way t.scope rising set long changes plain free are way at).0

  from : (after : List ℕ) → Contains (afters_of changes t.scope row.atoms) after → (way : List Bool) × Contains (ways left free) way × (atoms_at t.scope way ≡ after)
  from after at = way-after t.scope rising set long changes plain free are after (subst (λ atoms. Contains (afters_of changes t.scope atoms) after) of_set at)

  pub all-ways : list_all (λ way. is_some (row_at way)) (ways left free) ≡ list_all (λ after. is_some (row_of t after)) (afters_of changes t.scope row.atoms)
  all-ways =
      same-truth (list_all (λ way. is_some (row_at way)) (ways left free)) (list_all (λ after. is_some (row_of t after)) (afters_of changes t.scope row.atoms))
      (λ all. all-from (λ after. is_some (row_of t after)) (afters_of changes t.scope row.atoms) (λ after at.
      let way = from after at in
      subst (λ atoms. is_some (row_of t atoms) ≡ true) way.2 (all-at (λ way. is_some (row_at way)) (ways left free) way.0 all way.1)))
      (λ all. all-from (λ way. is_some (row_at way)) (ways left free) (λ way at. all-at (λ after. is_some (row_of t after)) (afters_of changes t.scope row.atoms) (atoms_at t.scope way) all (into way at)))

  module _ (place : ℕ) where
    abbrev loss : Row → ℤ
    loss after = weight_at place row +ℤ neg_ℤ (weight_at place after)

    pub lost-into : (z : ℤ) → Contains (losses_to t place (weight_at place row) (ways left free)) z → Contains (losses_from place changes t row) z
    lost-into z at =
        let it = map-Contains loss (filter_map row_at (ways left free)) z at in
        let way = filter_map-Contains row_at (ways left free) it.0 it.1 in
        subst (Contains (losses_from place changes t row)) it.2
        (Contains-map loss (filter_map (row_of t) (afters_of changes t.scope row.atoms)) it.0 (Contains-filter_map (row_of t) (afters_of changes t.scope row.atoms) (atoms_at t.scope way.0) it.0 (into way.0 way.1) way.2))

    pub lost-from : (z : ℤ) → Contains (losses_from place changes t row) z → Contains (losses_to t place (weight_at place row) (ways left free)) z
    lost-from z at =
        let it = map-Contains loss (filter_map (row_of t) (afters_of changes t.scope row.atoms)) z at in
        let after = filter_map-Contains (row_of t) (afters_of changes t.scope row.atoms) it.0 it.1 in
        let way = from after.0 after.1 in
        subst (Contains (losses_to t place (weight_at place row) (ways left free))) it.2
        (Contains-map loss (filter_map row_at (ways left free)) it.0 (Contains-filter_map row_at (ways left free) way.0 it.0 way.1 (ap (row_of t) way.2 ∙ after.2)))

-- ---- ways one after another

pub losses-append : (t : Table) (place : ℕ) (weight : ℤ) (xs ys : List (List Bool)) → losses_to t place weight (xs ++ ys) ≡ losses_to t place weight xs ++ losses_to t place weight ys
losses-append t place weight xs ys =
    let row_at = λ (set : List Bool). row_of t (atoms_at t.scope set) in
    let loss = λ (r : Row). weight +ℤ neg_ℤ (weight_at place r) in
    ap (map loss) (filter_map-append row_at xs ys) ∙ map-append loss (filter_map row_at xs) (filter_map row_at ys)
