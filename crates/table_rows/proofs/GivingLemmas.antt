-- What rows that agree give, one after another.
use Rattle.std.proofs.Common.{◌≡◌, ◌∙◌, ℕ, ◌+◌, Bool, true, false, true≢false, ◌||◌, List, [], ◌∷◌, ◌++◌, length, take, map, Option, None, Some, refl, sym, ap, subst, arith, ℤ, pos, neg_ℤ}
use Rattle.std.specs.Prelude.{IsTrue, All, ◌==◌, slice_get, filter, cond, if◌then◌else◌}
use Rattle.std.specs.List.{list_any, list_all, filter_map}
use Rattle.std.proofs.lemmas.Int.{ints}
use Rattle.std.proofs.lemmas.Bool.{eqb-true, false_from_ne_true}
use Rattle.std.proofs.lemmas.List.{map-append, append-nil}
use Rattle.std.proofs.lemmas.List.Elements.{filter-append}
use Rattle.model.specs.NumberedLiterals.{NumberedLiteral}
use Rattle.model.proofs.ListLemmas.{Contains-place, map-Contains, filter-Contains}
use Rattle.lower_bounds.specs.PotentialFunctions.{IsInRange}
use Rattle.lower_bounds.specs.TableFunctions.{Row, Table, is_among, weight_at}
use Rattle.lower_bounds.specs.FairTables.{agrees, agreeing, table_gives}
use Rattle.lower_bounds.proofs.TableLists.{none-passes}
use Rattle.table_rows.specs.Rows.{are_rising, atoms_at}
use Rattle.table_rows.specs.Placed.{PlacedLiteral, placed_in, is_so}
use Rattle.table_rows.specs.Afters.{most_of, raised}
use Rattle.table_rows.specs.Candidates.{AreCandidates}
use Rattle.table_rows.specs.Fates.{IsLoss}
use Rattle.table_rows.specs.Giving.{given_by}
use Rattle.table_rows.proofs.PlacedLemmas.{placed-agree}
use Rattle.table_rows.proofs.MostLemmas.{most-more, greatest-is, or_nothing, most-within}
use Rattle.table_rows.proofs.FateLemmas.{take-at, among-more, row-range}

-- ---- whether some row agrees

-- the literals are true of none of these rows
abbrev pub NoneAreSo : List (List Bool) → List PlacedLiteral → List ℕ → Type 0
NoneAreSo sets literals rows = (row : ℕ) (set : List Bool) → is_among rows row ≡ true → slice_get sets row ≡ Some set → list_all (is_so set) literals ≡ false

module _ (sets : List (List Bool)) (literals : List PlacedLiteral) where
  pub none-yet : NoneAreSo sets literals []
  none-yet row set among at = absurd (true≢false (sym among))

  pub none-next : (rows : List ℕ) (k row : ℕ) (set : List Bool) → slice_get rows k ≡ Some row → slice_get sets row ≡ Some set → list_all (is_so set) literals ≡ false → NoneAreSo sets literals (take k rows)
      → NoneAreSo sets literals (take (k + 1) rows)
  none-next rows k row set at is fails before other others among there =
      elim (is_among (take k rows) other) as (λ b. is_among (take k rows) other ≡ b → (b || row == other) ≡ true → list_all (is_so others) literals ≡ false) [
        | true ↦ λ earlier _. before other others earlier there
        | false ↦ λ _ here.
            let same = eqb-true row other here in
            let it : set ≡ others = some-same (sym is ∙ ap (slice_get sets) same ∙ there) in
            subst (λ s. list_all (is_so s) literals ≡ false) it fails
      ] refl (sym (among-more (take k rows) row other) ∙ sym (ap (λ l. is_among l other) (take-at rows k row at)) ∙ among)
    where
      some-same : {x y : List Bool} → Some x ≡ Some y → x ≡ y
      some-same e = cc

  pub none-at-all : (rows : List ℕ) → AreCandidates sets literals rows → NoneAreSo sets literals rows → list_any (λ set. list_all (is_so set) literals) sets ≡ false
  none-at-all rows are none =
      none-passes (λ set. list_all (is_so set) literals) sets (λ set at.
      let it = Contains-place sets set at in
      false_from_ne_true (list_all (is_so set) literals) (λ holds. true≢false (sym holds ∙ none it.0 set (are.covers it.0 set it.1 holds) it.1)))

-- ---- what they give

module _ (scope : List ℕ) (rising : IsTrue (are_rising scope)) (rows : List Row) (literals : List NumberedLiteral) (place : ℕ) where
  abbrev agreeing_in : List Row → List Row
  agreeing_in given = filter (λ (r : Row). agrees literals scope r.atoms) given

  -- the most that these rows give
  abbrev pub most_given : List Row → Option ℤ
  most_given given = most_of (map (weight_at place) (agreeing_in given))

  pub given-more : (k : ℕ) (r : Row) (set : List Bool) (placed : List PlacedLiteral) (most new : Option ℤ) → placed ≡ filter_map (placed_in scope) literals → slice_get rows k ≡ Some r → r.atoms ≡ atoms_at scope set
      → length set ≡ length scope → most ≡ most_given (take k rows) → new ≡ given_by placed place r set most → new ≡ most_given (take (k + 1) rows)
  given-more k r set placed most new are at atoms long so_far is =
      let agree : list_all (is_so set) placed ≡ agrees literals scope r.atoms = ap (list_all (is_so set)) are ∙ placed-agree scope set rising long literals ∙ ap (agrees literals scope) (sym atoms) in
      is ∙ (λ i. if agree i then Some (raised (so_far i) (weight_at place r)) else so_far i) ∙ with-bit (agrees literals scope r.atoms) refl
      ∙ sym (ap (λ l. most_of (map (weight_at place) l)) (ap agreeing_in (take-at rows k r at) ∙ filter-append (λ (r : Row). agrees literals scope r.atoms) (take k rows) (r ∷ [])))
    where
      with-bit : (b : Bool) → agrees literals scope r.atoms ≡ b
          → (if b then Some (raised (most_given (take k rows)) (weight_at place r)) else most_given (take k rows)) ≡ most_of (map (weight_at place) (agreeing_in (take k rows) ++ agreeing_in (r ∷ [])))
      with-bit true holds =
          sym (ap (λ b. most_of (map (weight_at place) (agreeing_in (take k rows) ++ cond b (r ∷ []) []))) holds
          ∙ ap most_of (map-append (weight_at place) (agreeing_in (take k rows)) (r ∷ []))
          ∙ most-more (map (weight_at place) (agreeing_in (take k rows))) (weight_at place r ∷ []) (weight_at place r) refl)
      with-bit false fails =
          sym (ap (λ b. most_of (map (weight_at place) (agreeing_in (take k rows) ++ cond b (r ∷ []) []))) fails
          ∙ ap (λ l. most_of (map (weight_at place) l)) (append-nil (agreeing_in (take k rows))))

-- a weight of a row, or 0
pub given-range : (table : Table) (literals : List NumberedLiteral) (place : ℕ) → All (λ (r : Row). All IsInRange r.weights) table.rows → IsLoss (table_gives place literals table)
given-range table literals place all =
    subst IsLoss (sym (greatest-is (map (weight_at place) (agreeing literals table)))) (within (most_of (map (weight_at place) (agreeing literals table))) refl)
  where
    within : (o : Option ℤ) → most_of (map (weight_at place) (agreeing literals table)) ≡ o → IsLoss (or_nothing o)
    within None _ = record { least = omega (arith, ints); most = omega (arith, ints) }
    within (Some most) is =
        let range = most-within (neg_ℤ (pos 4294967294)) (pos 4294967294) (map (weight_at place) (agreeing literals table)) most (λ z at.
        let it = map-Contains (weight_at place) (agreeing literals table) z at in
        let among = filter-Contains (λ (r : Row). agrees literals table.scope r.atoms) table.rows it.0 it.1 in
        let number = Contains-place table.rows it.0 among.0 in
        let r = row-range table.rows number.0 place it.0 all number.1 in
        let least = r.least in
        let most = r.most in
        let same = it.2 in
        (omega (arith, ints), omega (arith, ints))) is in
        record { least = range.0; most = range.1 }
