-- Turning k different places of a set, or not, gives 2^k different sets. So where there are fewer rows, one of these sets is no row.
use Rattle.std.proofs.Common.{◌≡◌, ◌∙◌, ℕ, ◌/◌, ◌*◌, ◌^◌, ◌<◌, ◌≤◌, inl, inr, Bool, true, false, true≢false, not, ◌&&◌, ◌||◌, List, [], ◌∷◌, ◌++◌, length, take, drop, Some, refl, sym, ap, subst, arith, ℤ}
use Rattle.std.specs.Prelude.{IsTrue, Contains, All, ◌==◌, cond, fold, filter, nat_eq, nat_lt, is_some, if◌then◌else◌}
use Rattle.std.specs.Bool.{beq}
use Rattle.std.specs.List.{list_all, find}
use Rattle.std.specs.Cmp.Lexicographic.{pointwise}
use Rattle.std.proofs.Math.Nat.{two-pow-succ, pow-le-pow_right, div-eq_of_lt, lt-div-mul-add}
use Rattle.std.proofs.lemmas.Bool.{and_parts, and_from, eqb-true, eq-eqb, false_from_ne_true, ltb-true, ltb-false, lt-ltb}
use Rattle.std.proofs.lemmas.Nat.{pow_pos}
use Rattle.std.proofs.lemmas.List.Elements.{All-head, All-tail, Contains-append_left, Contains-append_right}
use Rattle.std.proofs.lemmas.List.Filters.{length-filter_both}
use Rattle.packed_state.specs.Sets.{has}
use Rattle.model.proofs.ListLemmas.{Contains-here, Contains-there, Contains-filter}
use Rattle.lower_bounds.specs.TableFunctions.{Row, Table, is_among, row_of}
use Rattle.lower_bounds.proofs.TableLists.{all-at, same-numbers}
use Rattle.lower_bounds.proofs.TableRows.{same-itself}
use Rattle.table_rows.specs.Rows.{are_rising, atoms_at, rows_from}
use Rattle.table_rows.proofs.RowLemmas.{length-rows, same-set}
use Rattle.table_rows.specs.Afters.{AreListed, When, turns, freed, free_places, turned, ways}
use Rattle.table_rows.proofs.AfterLemmas.{turned-here, length-turned, way-kept, way-long}
use Rattle.table_rows.proofs.FateLemmas.{among-more}

-- ---- different places

abbrev pub are_different : List ℕ → Bool
are_different [] = true
are_different (place ∷ places) = not (is_among places place) && are_different places

no-part : (a b : Bool) → (a || b) ≡ false → (a ≡ false) × (b ≡ false)
no-part true b none = absurd (true≢false none)
no-part false b none = (refl, none)

-- one more, which is not among them
different-push : (places : List ℕ) (more : ℕ) → are_different places ≡ true → is_among places more ≡ false → are_different (places ++ more ∷ []) ≡ true
different-push [] more different absent = refl
different-push (place ∷ places) more different absent =
    let parts = and_parts (not (is_among places place)) (are_different places) different in
    let apart = no-part (place == more) (is_among places more) absent in
    let other : (more == place) ≡ false = false_from_ne_true (more == place) (λ is. true≢false (sym (eq-eqb place more (sym (eqb-true more place is))) ∙ apart.0)) in
    and_from (not (is_among (places ++ more ∷ []) place)) (are_different (places ++ more ∷ []))
    (ap not (among-more places more place) ∙ ap (λ b. not (is_among places place || b)) other ∙ ap not (or_none (is_among places place)) ∙ parts.0) (different-push places more parts.1 apart.1)
  where
    or_none : (b : Bool) → (b || false) ≡ b
    or_none true = refl
    or_none false = refl

different-from : (row left : List Bool) (found : List ℕ) (whens : List When) → are_different found ≡ true → are_different (fold (freed row left) found whens) ≡ true
different-from row left found [] different = different
different-from row left found (w ∷ whens) different =
    different-from row left (freed row left found w) whens (elim (is_among found w.place) as (λ b. is_among found w.place ≡ b
    → are_different (if b then found else if turns row left w then found ++ w.place ∷ [] else found) ≡ true) [
      | true ↦ λ _. different
      | false ↦ λ absent. one (turns row left w) absent
    ] refl)
  where
    one : (b : Bool) → is_among found w.place ≡ false → are_different (if b then found ++ w.place ∷ [] else found) ≡ true
    one true absent = different-push found w.place different absent
    one false absent = different

pub free-different : (whens : List When) (row left : List Bool) → are_different (free_places whens row left) ≡ true
free-different whens row left = different-from row left [] whens refl

-- ---- how many ways there are

-- a list that has each of them is as long
pub many-ways : (set : List Bool) (free : List ℕ) (sets : List (List Bool)) → are_different free ≡ true → All (λ k. k < length set) free → ((way : List Bool) → Contains (ways set free) way → Contains sets way)
    → 2 ^ length free ≤ length sets
many-ways set [] sets different below within = let (k, there, _) = within set (Contains-here set []) in omega (arith, there)
many-ways set (place ∷ free) sets different below within =
    let parts = and_parts (not (is_among free place)) (are_different free) different in
    let absent : is_among free place ≡ false = to-false (is_among free place) parts.0 in
    let is_kept = λ (s : List Bool). beq (has s place) (has set place) in
    let is_turned = λ (s : List Bool). not (beq (has s place) (has set place)) in
    let others = All-tail (λ k. k < length set) place free below in
    let turns_here = turned-here set place (All-head (λ k. k < length set) place free below) in
    let kept = many-ways set free (filter is_kept sets) parts.1 others (λ way at. Contains-filter is_kept sets way
    (within way (Contains-append_left (ways set free) (ways (turned set place) free) way at))
    (ap (λ b. beq b (has set place)) (way-kept set free way place at absent) ∙ same-itself (has set place))) in
    let changed = many-ways (turned set place) free (filter is_turned sets) parts.1 (subst (λ n. All (λ k. k < n) free) (sym (length-turned set place)) others) (λ way at. Contains-filter is_turned sets way
    (within way (Contains-append_right (ways set free) (ways (turned set place) free) way at))
    (ap (λ b. not (beq b (has set place))) (way-kept (turned set place) free way place at absent ∙ turns_here) ∙ differs (has set place))) in
    omega (arith, kept, changed, length-filter_both is_kept is_turned (λ s. refl) sets, two-pow-succ (length free))
  where
    to-false : (b : Bool) → not b ≡ true → b ≡ false
    to-false true is = absurd (true≢false (sym is))
    to-false false is = refl

    differs : (b : Bool) → not (beq (not b) b) ≡ true
    differs true = refl
    differs false = refl

-- ---- rows

module _ (count : ℕ) (scope : List ℕ) (rising : IsTrue (are_rising scope)) where
  abbrev table : List (List Bool) → List ℤ → Table
  table sets weights = record { scope = scope; rows = rows_from count scope sets weights }

  abbrev IsWide : List (List Bool) → Type 0
  IsWide sets = (set : List Bool) → Contains sets set → length set ≡ length scope

  -- what has a row is one of the sets
  row-among : (sets : List (List Bool)) (weights : List ℤ) (bits : List Bool) → IsWide sets → length bits ≡ length scope → is_some (row_of (table sets weights) (atoms_at scope bits)) ≡ true → Contains sets bits
  row-among [] weights bits wide long is = absurd (true≢false (sym is))
  row-among (set ∷ sets) weights bits wide long is =
      let row : Row = record { atoms = atoms_at scope set; weights = take count weights } in
      let is_same = λ (atoms : List ℕ). pointwise (λ k number. k == number) atoms (atoms_at scope bits) in
      let others = rows_from count scope sets (drop count weights) in
      elim (is_same (atoms_at scope set)) as (λ b. is_same (atoms_at scope set) ≡ b → is_some (cond b (Some row) (find (λ (r : Row). is_same r.atoms) others)) ≡ true → Contains (set ∷ sets) bits) [
        | true ↦ λ same _. subst (Contains (set ∷ sets)) (same-set scope set bits rising (wide set (Contains-here set sets)) long (same-numbers (atoms_at scope set) (atoms_at scope bits) same)) (Contains-here set sets)
        | false ↦ λ _ later. Contains-there set sets bits (row-among sets (drop count weights) bits (λ s at. wide s (Contains-there set sets s at)) long later)
      ] refl is

  -- fewer rows than ways
  pub one-is-no-row : (sets : List (List Bool)) (weights : List ℤ) (set : List Bool) (free : List ℕ) → IsWide sets → length set ≡ length scope → are_different free ≡ true
      → All (λ k. k < length scope) free → nat_lt (length (rows_from count scope sets weights)) (2 ^ length free) ≡ true
      → list_all (λ way. is_some (row_of (table sets weights) (atoms_at scope way))) (ways set free) ≡ false
  one-is-no-row sets weights set free wide long different below fewer =
      let is_row = λ (way : List Bool). is_some (row_of (table sets weights) (atoms_at scope way)) in
      false_from_ne_true (list_all is_row (ways set free)) (λ all.
      let enough = many-ways set free sets different (subst (λ n. All (λ k. k < n) free) (sym long) below)
      (λ way at. row-among sets weights way wide (way-long set free way at ∙ long) (all-at is_row (ways set free) way all at)) in
      absurd (omega (arith, enough, ltb-true (length (rows_from count scope sets weights)) (2 ^ length free) fewer, length-rows count scope sets weights)))

-- ---- the test

pub outnumbered-at-once : (rows places : ℕ) → rows ≤ 16777216 → 32 ≤ places → nat_lt rows (2 ^ places) ≡ true
outnumbered-at-once rows places few many =
    let power = pow-le-pow_right {n = 2} (omega arith) many in
    lt-ltb rows (2 ^ places) (omega (arith, few, power))

-- places that are listed are enough, or all of them
pub outnumbered-listed : (rows : ℕ) (all found : List ℕ) → AreListed all found → nat_lt rows (2 ^ length found) ≡ true → nat_lt rows (2 ^ length all) ≡ true
outnumbered-listed rows all found are fewer = elim are [
  | inl same ↦ subst (λ (l : List ℕ). nat_lt rows (2 ^ length l) ≡ true) same fewer
  | inr many ↦ let power = pow-le-pow_right {n = 2} (omega arith) many.1 in lt-ltb rows (2 ^ length all) (omega (arith, ltb-true rows (2 ^ length found) fewer, power))
]

pub listed-whole : (rows : ℕ) (all found : List ℕ) → rows ≤ 16777216 → AreListed all found → nat_lt rows (2 ^ length found) ≡ false → found ≡ all
listed-whole rows all found few are enough = elim are [
  | inl same ↦ same
  | inr many ↦ let power = pow-le-pow_right {n = 2} (omega arith) many.0 in absurd (omega (arith, few, power, ltb-false rows (2 ^ length found) enough))
]

-- nothing is left of what is below the power
pub outnumbered-by-shift : (rows places : ℕ) → nat_eq (rows / 2 ^ places) 0 ≡ nat_lt rows (2 ^ places)
outnumbered-by-shift rows places =
    elim (nat_lt rows (2 ^ places)) as (λ b. nat_lt rows (2 ^ places) ≡ b → nat_eq (rows / 2 ^ places) 0 ≡ b) [
      | true ↦ λ below. eq-eqb (rows / 2 ^ places) 0 (div-eq_of_lt (ltb-true rows (2 ^ places) below))
      | false ↦ λ above. false_from_ne_true (nat_eq (rows / 2 ^ places) 0) (λ is.
          let none = ap (λ quotient. quotient * 2 ^ places) (eqb-true (rows / 2 ^ places) 0 is) in
          let most = lt-div-mul-add {a = rows} {b = 2 ^ places} (pow_pos places) in
          absurd (omega (arith, ltb-false rows (2 ^ places) above, none, most)))
    ] refl
