-- Literals by the places of their atoms in a scope: what they say of a set is what the literals say of its atoms.
use Rattle.std.proofs.Common.{◌≡◌, ◌∙◌, ℕ, zero, suc, ◌+◌, ◌<◌, Bool, true, false, true≢false, not, ◌&&◌, ◌||◌, List, [], ◌∷◌, ◌++◌, length, take, map, get_or, Option, None, Some, refl, sym, ap, subst, arith}
use Rattle.std.specs.Prelude.{IsTrue, All, ◌==◌, nat_lt}
use Rattle.std.specs.Bool.{beq}
use Rattle.std.specs.List.{list_all, filter_map, cons_option}
use Rattle.std.specs.Option.{option_map, option_map_or}
use Rattle.std.proofs.lemmas.Bool.{and_parts, or_left, eqb-true, eq-eqb, false_from_ne_true, ltb-true}
use Rattle.std.proofs.lemmas.List.{length-map, get_or-map, map_push, take_more}
use Rattle.std.proofs.lemmas.List.Elements.{filter_map-append, All-cons, All-nil}
use Rattle.packed_state.specs.Sets.{has}
use Rattle.model.specs.NumberedLiterals.{NumberedLiteral}
use Rattle.lower_bounds.specs.TableFunctions.{is_among}
use Rattle.lower_bounds.specs.FairTables.{agrees}
use Rattle.table_rows.specs.declared.placed.PlacedLiteral as code
use Rattle.table_rows.specs.Placed.{PlacedLiteral, placed_of, place_in, placed_in, is_so}
use Rattle.table_rows.specs.Rows.{are_rising, atoms_at}
use Rattle.table_rows.proofs.RowLemmas.{rising-tail}
pub use Rattle.table_rows.proofs.PlacesLemmas.{place-within, no-place, among-got, above-got}

-- ---- one literal after another

pub one-more : {X Y Z : Type 0} (h : Y → Option Z) (f : X → Y) (xs : List X) (i : ℕ) (d : X) (before after : List Z) → i < length xs
    → before ≡ filter_map h (map f (take i xs)) → after ≡ before ++ filter_map h (f (get_or xs i d) ∷ []) → after ≡ filter_map h (map f (take (i + 1) xs))
one-more h f xs i d before after below so_far here =
    here ∙ ap (λ l. l ++ filter_map h (f (get_or xs i d) ∷ [])) so_far
    ∙ sym (ap (λ l. filter_map h (map f l)) (take_more xs i d below)
    ∙ ap (filter_map h) (map_push f (take i xs) (get_or xs i d))
    ∙ filter_map-append h (map f (take i xs)) (f (get_or xs i d) ∷ []))

pub place-below : (width : ℕ) (literals : List code.PlacedLiteral) (i : ℕ) (d : code.PlacedLiteral) → i < length literals
    → All (λ (l : PlacedLiteral). l.place < width) (map placed_of literals) → (get_or literals i d).place < width
place-below width literals i d below all =
    subst (λ (l : PlacedLiteral). l.place < width) (get_or-map placed_of literals i d (placed_of d) below)
    (all i (placed_of d) (omega (arith, below, length-map literals placed_of)))

-- ---- places

placed-within : (scope : List ℕ) (n : NumberedLiteral) (l : PlacedLiteral) → placed_in scope n ≡ Some l → l.place < length scope
placed-within scope n l is =
    elim (place_in scope n.atom) as (λ o. place_in scope n.atom ≡ o → option_map (λ (k : ℕ). record { place = k; value = n.value }) o ≡ Some l → l.place < length scope) [
      | None ↦ λ _ none. absurd (cc)
      | Some k ↦ λ at some.
          let same : record { place = k; value = n.value } ≡ l = cc in
          subst (λ (m : PlacedLiteral). m.place < length scope) same (place-within scope n.atom k at).0
    ] refl is

-- each literal's place is in the scope
pub all-within : (scope : List ℕ) (literals : List NumberedLiteral) → All (λ (l : PlacedLiteral). l.place < length scope) (filter_map (placed_in scope) literals)
all-within scope [] = All-nil (λ (l : PlacedLiteral). l.place < length scope)
all-within scope (n ∷ literals) =
    let P = λ (l : PlacedLiteral). l.place < length scope in
    let rest = all-within scope literals in
    elim (placed_in scope n) as (λ o. placed_in scope n ≡ o → All P (cons_option o (filter_map (placed_in scope) literals))) [
      | None ↦ λ _. rest
      | Some l ↦ λ is. All-cons P l (filter_map (placed_in scope) literals) (placed-within scope n l is) rest
    ] refl

-- ---- atoms of a rising scope

above-each : (n : ℕ) (scope : List ℕ) (bits : List Bool) (m : ℕ) → IsTrue (are_rising (n ∷ scope)) → is_among (atoms_at scope bits) m ≡ true → n < m
above-each n [] bits m rising at = absurd (true≢false (sym at))
above-each n (k ∷ scope) [] m rising at = absurd (true≢false (sym at))
above-each n (k ∷ scope) (true ∷ bits) m rising at =
    let parts = and_parts (nat_lt n k) (are_rising (k ∷ scope)) rising in
    let first = ltb-true n k parts.0 in
    elim (k == m) as (λ b. (k == m) ≡ b → (b || is_among (atoms_at scope bits) m) ≡ true → n < m) [
      | true ↦ λ same _. let is = eqb-true k m same in omega (arith, first, is)
      | false ↦ λ _ later. let rest = above-each k scope bits m parts.1 later in omega (arith, first, rest)
    ] refl at
above-each n (k ∷ scope) (false ∷ bits) m rising at =
    let parts = and_parts (nat_lt n k) (are_rising (k ∷ scope)) rising in
    let first = ltb-true n k parts.0 in
    let rest = above-each k scope bits m parts.1 at in
    omega (arith, first, rest)

-- an atom of the scope is among those of a set where its place is in the set
pub atom-at : (scope : List ℕ) (bits : List Bool) (k : ℕ) → IsTrue (are_rising scope) → k < length scope → length bits ≡ length scope → is_among (atoms_at scope bits) (get_or scope k 0) ≡ has bits k
atom-at [] bits k rising below long = absurd (omega (arith, below))
atom-at (n ∷ scope) [] k rising below long = absurd (omega (arith, long))
atom-at (n ∷ scope) (true ∷ bits) zero rising below long = or_left (n == n) (is_among (atoms_at scope bits) n) (eq-eqb n n refl)
atom-at (n ∷ scope) (false ∷ bits) zero rising below long =
    false_from_ne_true (is_among (atoms_at scope bits) n) (λ there. let above = above-each n scope bits n rising there in absurd (omega (arith, above)))
atom-at (n ∷ scope) (true ∷ bits) (suc k) rising below long =
    let m = get_or scope k 0 in
    let above = above-got n scope k rising (omega (arith, below)) in
    let differ : (n == m) ≡ false = false_from_ne_true (n == m) (λ same. let is = eqb-true n m same in absurd (omega (arith, above, is))) in
    ap (λ b. b || is_among (atoms_at scope bits) m) differ ∙ atom-at scope bits k (rising-tail n scope rising) (omega (arith, below)) (omega (arith, long))
atom-at (n ∷ scope) (false ∷ bits) (suc k) rising below long = atom-at scope bits k (rising-tail n scope rising) (omega (arith, below)) (omega (arith, long))

-- ---- literals

all-filter_map : {X Y : Type 0} (p : Y → Bool) (h : X → Option Y) (xs : List X) → list_all p (filter_map h xs) ≡ list_all (λ x. option_map_or p (h x) true) xs
all-filter_map p h [] = refl
all-filter_map p h (x ∷ xs) =
    let rest = all-filter_map p h xs in
    elim (h x) as (λ o. list_all p (cons_option o (filter_map h xs)) ≡ (option_map_or p o true && list_all (λ y. option_map_or p (h y) true) xs)) [
      | None ↦ rest
      | Some y ↦ ap (λ b. p y && b) rest
    ]

module _ (scope : List ℕ) (bits : List Bool) (rising : IsTrue (are_rising scope)) (long : length bits ≡ length scope) where
  one-agrees : (l : NumberedLiteral) → option_map_or (is_so bits) (placed_in scope l) true ≡ (not (is_among scope l.atom) || beq (is_among (atoms_at scope bits) l.atom) l.value)
  one-agrees l =
      elim (place_in scope l.atom) as (λ o. place_in scope l.atom ≡ o
      → option_map_or (is_so bits) (option_map (λ (k : ℕ). record { place = k; value = l.value }) o) true ≡ (not (is_among scope l.atom) || beq (is_among (atoms_at scope bits) l.atom) l.value)) [
        | None ↦ λ none. sym (ap (λ b. not b || beq (is_among (atoms_at scope bits) l.atom) l.value) (no-place scope l.atom none))
        | Some k ↦ λ some.
            let within = place-within scope l.atom k some in
            let there : is_among scope l.atom ≡ true = subst (λ n. is_among scope n ≡ true) within.1 (among-got scope k within.0) in
            let is : is_among (atoms_at scope bits) l.atom ≡ has bits k = subst (λ n. is_among (atoms_at scope bits) n ≡ has bits k) within.1 (atom-at scope bits k rising within.0 long) in
            sym (λ i. not (there i) || beq (is i) l.value)
      ] refl

  -- a set's atoms agree with literals where those of the scope are true of the set
  pub placed-agree : (literals : List NumberedLiteral) → list_all (is_so bits) (filter_map (placed_in scope) literals) ≡ agrees literals scope (atoms_at scope bits)
  placed-agree literals = all-filter_map (is_so bits) (placed_in scope) literals ∙ (λ i. list_all (λ l. one-agrees l i) literals)
