-- Rows in memory, as the rows that they are.
use Rattle.std.proofs.Common.{◌≡◌, ◌∙◌, ℕ, zero, suc, ◌+◌, ◌*◌, ◌<◌, ◌≤◌, Bool, true, false, true≢false, List, [], ◌∷◌, ◌++◌, length, take, drop, get_or, Option, None, Some, refl, sym, ap, subst, arith, ℤ, pos}
use Rattle.std.specs.Prelude.{IsTrue, Contains, MatchOption, MatchBool, IfSome, nat_lt, ◌==◌, cond, is_some, slice_get}
use Rattle.std.specs.List.{find}
use Rattle.std.specs.Cmp.Lexicographic.{pointwise}
use Rattle.std.proofs.lemmas.Bool.{and_parts, and_from, eq-eqb, false_from_ne_true, ltb-true}
use Rattle.std.proofs.Math.Nat.{mul-suc, mul-le-mul_left}
use Rattle.std.proofs.lemmas.List.{length-append, take-append-le, drop-append-le, drop-drop, get_or-take, get_or-drop}
use Rattle.std.proofs.lemmas.Option.{slice_get_within}
use Rattle.packed_state.specs.Store.{AreDistinct}
use Rattle.lower_bounds.specs.TableFunctions.{Row, Table, row_of, weight_at}
use Rattle.lower_bounds.proofs.TableLists.{same-numbers}
use Rattle.table_rows.specs.Rows.{are_rising, atoms_at, rows_from}
use Rattle.table_rows.specs.Tables.{IsInserted}

-- ---- how many there are

pub length-rows : (count : ℕ) (scope : List ℕ) (sets : List (List Bool)) (weights : List ℤ) → length (rows_from count scope sets weights) ≡ length sets
length-rows count scope [] weights = refl
length-rows count scope (bits ∷ sets) weights = ap suc (length-rows count scope sets (drop count weights))

none-of-length : {X : Type 0} (xs : List X) → length xs ≡ 0 → xs ≡ []
none-of-length [] is = refl
none-of-length (x ∷ xs) is = absurd (cc)

take-whole : {X : Type 0} (n : ℕ) (xs : List X) → length xs ≡ n → take n xs ≡ xs
take-whole zero xs is = sym (none-of-length xs is)
take-whole (suc n) [] is = absurd (cc)
take-whole (suc n) (x ∷ xs) is = ap (λ l. x ∷ l) (take-whole n xs (let e = is in cc))

pub length-dropped : {X : Type 0} (n m : ℕ) (xs : List X) → length xs ≡ n + m → length (drop n xs) ≡ m
length-dropped zero m xs is = omega (arith, is)
length-dropped (suc n) m [] is = absurd (omega (arith, is))
length-dropped (suc n) m (x ∷ xs) is = length-dropped n m xs (omega (arith, is))

-- one set more, and its weights, is one row more
pub rows-more : (count : ℕ) (scope : List ℕ) (sets : List (List Bool)) (weights : List ℤ) (bits : List Bool) (more : List ℤ) → length weights ≡ count * length sets → length more ≡ count
    → rows_from count scope (sets ++ bits ∷ []) (weights ++ more) ≡ rows_from count scope sets weights ++ record { atoms = atoms_at scope bits; weights = more } ∷ []
rows-more count scope [] weights bits more long more_long =
    let empty : weights ≡ [] = none-of-length weights (omega (arith, long)) in
    (λ i. record { atoms = atoms_at scope bits; weights = take count (empty i ++ more) } ∷ []) ∙ ap (λ ws. record { atoms = atoms_at scope bits; weights = ws } ∷ []) (take-whole count more more_long)
rows-more count scope (first ∷ sets) weights bits more long more_long =
    let split = mul-suc count (length sets) in
    let enough : count ≤ length weights = omega (arith, long, split) in
    let rest = rows-more count scope sets (drop count weights) bits more (length-dropped count (count * length sets) weights (omega (arith, long, split))) more_long in
    let taken = take-append-le count weights more enough in
    let dropped = drop-append-le count weights more enough in
    (λ i. record { atoms = atoms_at scope first; weights = taken i } ∷ rows_from count scope (sets ++ bits ∷ []) (dropped i))
    ∙ ap (λ rows. record { atoms = atoms_at scope first; weights = take count weights } ∷ rows) rest

-- ---- sets by their atoms

pub head-above : (n : ℕ) (scope : List ℕ) (bits : List Bool) (m : ℕ) (rest : List ℕ) → IsTrue (are_rising (n ∷ scope)) → atoms_at scope bits ≡ m ∷ rest → n < m
head-above n [] bits m rest rising is = absurd (cc)
head-above n (k ∷ scope) [] m rest rising is = absurd (cc)
head-above n (k ∷ scope) (true ∷ bits) m rest rising is =
    let parts = and_parts (nat_lt n k) (are_rising (k ∷ scope)) rising in
    let same : k ≡ m = let e = is in cc in
    omega (arith, ltb-true n k parts.0)
head-above n (k ∷ scope) (false ∷ bits) m rest rising is =
    let parts = and_parts (nat_lt n k) (are_rising (k ∷ scope)) rising in
    let above = head-above k scope bits m rest parts.1 is in
    omega (arith, ltb-true n k parts.0)

pub rising-tail : (n : ℕ) (scope : List ℕ) → IsTrue (are_rising (n ∷ scope)) → IsTrue (are_rising scope)
rising-tail n [] rising = refl
rising-tail n (k ∷ scope) rising = (and_parts (nat_lt n k) (are_rising (k ∷ scope)) rising).1

-- sets of the same atoms are the same
pub same-set : (scope : List ℕ) (xs ys : List Bool) → IsTrue (are_rising scope) → length xs ≡ length scope → length ys ≡ length scope → atoms_at scope xs ≡ atoms_at scope ys → xs ≡ ys
same-set [] [] [] rising long other same = refl
same-set [] (x ∷ xs) ys rising long other same = absurd (cc)
same-set [] [] (y ∷ ys) rising long other same = absurd (cc)
same-set (n ∷ scope) [] ys rising long other same = absurd (cc)
same-set (n ∷ scope) (x ∷ xs) [] rising long other same = absurd (cc)
same-set (n ∷ scope) (true ∷ xs) (true ∷ ys) rising long other same = ap (λ l. true ∷ l) (same-set scope xs ys (rising-tail n scope rising) (let e = long in cc) (let e = other in cc) (let e = same in cc))
same-set (n ∷ scope) (false ∷ xs) (false ∷ ys) rising long other same = ap (λ l. false ∷ l) (same-set scope xs ys (rising-tail n scope rising) (let e = long in cc) (let e = other in cc) same)
same-set (n ∷ scope) (true ∷ xs) (false ∷ ys) rising long other same = let above = head-above n scope ys n (atoms_at scope xs) rising (sym same) in absurd (omega arith)
same-set (n ∷ scope) (false ∷ xs) (true ∷ ys) rising long other same = let above = head-above n scope xs n (atoms_at scope ys) rising same in absurd (omega arith)

pub same-themselves : (xs : List ℕ) → pointwise (λ k number. k == number) xs xs ≡ true
same-themselves [] = refl
same-themselves (x ∷ xs) = and_from (x == x) (pointwise (λ k number. k == number) xs xs) (eq-eqb x x refl) (same-themselves xs)

-- ---- rows by their sets

module _ (count : ℕ) (scope : List ℕ) (rising : IsTrue (are_rising scope)) (bits : List Bool) (long : length bits ≡ length scope) where
  abbrev table : List (List Bool) → List ℤ → Table
  table sets weights = record { scope = scope; rows = rows_from count scope sets weights }

  abbrev IsWide : List (List Bool) → Type 0
  IsWide sets = (set : List Bool) → Contains sets set → length set ≡ length scope

  abbrev is_same : List ℕ → Bool
  is_same atoms = pointwise (λ k number. k == number) atoms (atoms_at scope bits)

  is-set : (set : List Bool) → length set ≡ length scope → is_same (atoms_at scope set) ≡ true → set ≡ bits
  is-set set wide same = same-set scope set bits rising wide long (same-numbers (atoms_at scope set) (atoms_at scope bits) same)

  here : (set : List Bool) (sets : List (List Bool)) → Contains (set ∷ sets) set
  here set sets = (0, omega arith, refl)

  there : (set other : List Bool) (sets : List (List Bool)) → Contains sets set → Contains (other ∷ sets) set
  there set other sets (k, below, is) = (suc k, omega (arith, below), is)

  pub absent : (sets : List (List Bool)) (weights : List ℤ) → IsWide sets → (Contains sets bits → ⊥) → row_of (table sets weights) (atoms_at scope bits) ≡ None
  absent [] weights wide none = refl
  absent (set ∷ sets) weights wide none =
      let rest = absent sets (drop count weights) (λ s at. wide s (there s set sets at)) (λ at. none (there bits set sets at)) in
      let row : Row = record { atoms = atoms_at scope set; weights = take count weights } in
      let differs : is_same (atoms_at scope set) ≡ false = false_from_ne_true (is_same (atoms_at scope set)) (λ same. none (subst (Contains (set ∷ sets)) (is-set set (wide set (here set sets)) same) (here set sets))) in
      ap (λ b. cond b (Some row) (find (λ (r : Row). is_same r.atoms) (rows_from count scope sets (drop count weights)))) differs ∙ rest

  pub found : (sets : List (List Bool)) (weights : List ℤ) (place : ℕ) → IsWide sets → AreDistinct sets → slice_get sets place ≡ Some bits
      → slice_get (rows_from count scope sets weights) place ≡ row_of (table sets weights) (atoms_at scope bits)
  found [] weights place wide distinct at = absurd (cc)
  found (set ∷ sets) weights zero wide distinct at =
      let is : set ≡ bits = cc in
      let row : Row = record { atoms = atoms_at scope set; weights = take count weights } in
      sym (ap (λ b. cond b (Some row) (find (λ (r : Row). is_same r.atoms) (rows_from count scope sets (drop count weights)))) (ap (λ s. is_same (atoms_at scope s)) is ∙ same-themselves (atoms_at scope bits)))
  found (set ∷ sets) weights (suc place) wide distinct at =
      let rest = found sets (drop count weights) place (λ s there_at. wide s (there s set sets there_at)) (λ j k s first second. let e = distinct (suc j) (suc k) s first second in cc) at in
      let row : Row = record { atoms = atoms_at scope set; weights = take count weights } in
      let differs : is_same (atoms_at scope set) ≡ false =
      false_from_ne_true (is_same (atoms_at scope set)) (λ same. let e = distinct 0 (suc place) bits (ap (λ s. Some s) (is-set set (wide set (here set sets)) same)) at in absurd (omega arith)) in
      rest ∙ sym (ap (λ b. cond b (Some row) (find (λ (r : Row). is_same r.atoms) (rows_from count scope sets (drop count weights)))) differs)

  pub present : (sets : List (List Bool)) (weights : List ℤ) → IsWide sets → Contains sets bits → is_some (row_of (table sets weights) (atoms_at scope bits)) ≡ true
  present [] weights wide (k, below, is) = absurd (omega (arith, below))
  present (set ∷ sets) weights wide at =
      let row : Row = record { atoms = atoms_at scope set; weights = take count weights } in
      let others = rows_from count scope sets (drop count weights) in
      elim (is_same (atoms_at scope set)) as (λ b. is_same (atoms_at scope set) ≡ b → is_some (cond b (Some row) (find (λ (r : Row). is_same r.atoms) others)) ≡ true) [
        | true ↦ λ _. refl
        | false ↦ λ differs. present sets (drop count weights) (λ s there_at. wide s (there s set sets there_at)) (later at differs)
      ] refl
    where
      later : Contains (set ∷ sets) bits → is_same (atoms_at scope set) ≡ false → Contains sets bits
      later (zero, below, is) differs = absurd (true≢false (sym (ap (λ s. is_same (atoms_at scope s)) is ∙ same-themselves (atoms_at scope bits)) ∙ differs))
      later (suc k, below, is) differs = (k, omega (arith, below), is)

  -- what is found
  pub finds : (sets : List (List Bool)) (weights : List ℤ) → IsWide sets → AreDistinct sets → (result : Option ℕ)
      → MatchOption result (Contains sets bits → ⊥) (λ place. slice_get sets place ≡ Some bits)
      → MatchOption result (row_of (table sets weights) (atoms_at scope bits) ≡ None) (λ place. slice_get (rows_from count scope sets weights) place ≡ row_of (table sets weights) (atoms_at scope bits))
  finds sets weights wide distinct None none = absent sets weights wide none
  finds sets weights wide distinct (Some place) at = found sets weights place wide distinct at

  -- what is inserted
  pub inserted : (sets new : List (List Bool)) (weights new_weights more : List ℤ) (is_new : Bool) → IsWide sets → length weights ≡ count * length sets → length more ≡ count
      → MatchBool is_new ((Contains sets bits → ⊥) × (new ≡ sets ++ bits ∷ []) × (new_weights ≡ weights ++ more)) (Contains sets bits × (new ≡ sets) × (new_weights ≡ weights))
      → IsInserted (table sets weights) (table new new_weights) (record { atoms = atoms_at scope bits; weights = more }) is_new
  inserted sets new weights new_weights more true wide many long (none, pushed, given) = (
    absent sets weights wide none,
    (λ i. table (pushed i) (given i)) ∙ ap (λ rows. record { scope = scope; rows = rows }) (rows-more count scope sets weights bits more many long),
  )
  inserted sets new weights new_weights more false wide many long (among, same, kept) = (present sets weights wide among, (λ i. table (same i) (kept i)))

pub found-within : (count : ℕ) (scope : List ℕ) (sets : List (List Bool)) (weights : List ℤ) (bits : List Bool) (result : Option ℕ)
    → MatchOption result (Contains sets bits → ⊥) (λ place. slice_get sets place ≡ Some bits) → IfSome result (λ place. place < length (rows_from count scope sets weights))
found-within count scope sets weights bits None none = tt
found-within count scope sets weights bits (Some place) at = let within = slice_get_within sets place bits at in omega (arith, within, length-rows count scope sets weights)

-- ---- how many weights there are

pub many-weights : (count : ℕ) (sets new : List (List Bool)) (weights new_weights more : List ℤ) (bits : List Bool) (is_new : Bool) → length weights ≡ count * length sets → length more ≡ count
    → MatchBool is_new ((Contains sets bits → ⊥) × (new ≡ sets ++ bits ∷ []) × (new_weights ≡ weights ++ more)) (Contains sets bits × (new ≡ sets) × (new_weights ≡ weights))
    → length new_weights ≡ count * length new
many-weights count sets new weights new_weights more bits true many long (none, pushed, given) =
    let one_more : length new ≡ suc (length sets) = omega (arith, ap length pushed, length-append sets (bits ∷ [])) in
    let counted = ap (λ n. count * n) one_more ∙ mul-suc count (length sets) in
    omega (arith, counted, ap length given, length-append weights more, many, long)
many-weights count sets new weights new_weights more bits false many long (among, same, kept) = ap length kept ∙ many ∙ ap (λ s. count * length s) (sym same)

-- ---- one row

pub row-set : (count : ℕ) (scope : List ℕ) (sets : List (List Bool)) (weights : List ℤ) (place : ℕ) (set : List Bool) (r : Row) → slice_get sets place ≡ Some set → slice_get (rows_from count scope sets weights) place ≡ Some r
    → r.atoms ≡ atoms_at scope set
row-set count scope [] weights place set r at row = absurd (cc)
row-set count scope (first ∷ sets) weights zero set r at row =
    let is : first ≡ set = cc in
    let same : record { atoms = atoms_at scope first; weights = take count weights } ≡ r = cc in
    sym (ap (λ (q : Row). q.atoms) same) ∙ ap (atoms_at scope) is
row-set count scope (first ∷ sets) weights (suc place) set r at row = row-set count scope sets (drop count weights) place set r at row

-- the weights of the row at a place, in the list of all
pub row-weight : (count : ℕ) (scope : List ℕ) (sets : List (List Bool)) (weights : List ℤ) (row place : ℕ) (r : Row) → place < count → slice_get (rows_from count scope sets weights) row ≡ Some r
    → get_or weights (count * row + place) (pos 0) ≡ weight_at place r
row-weight count scope [] weights row place r within at = absurd (cc)
row-weight count scope (set ∷ sets) weights zero place r within at =
    let same : record { atoms = atoms_at scope set; weights = take count weights } ≡ r = cc in
    ap (λ k. get_or weights k (pos 0)) (let e : count * 0 + place ≡ place = omega arith in e) ∙ sym (get_or-take count weights place (pos 0) within) ∙ ap (weight_at place) same
row-weight count scope (set ∷ sets) weights (suc row) place r within at =
    let split = mul-suc count row in
    let shifted : count * suc row + place ≡ count + (count * row + place) = omega (arith, split) in
    ap (λ k. get_or weights k (pos 0)) shifted ∙ sym (get_or-drop count weights (count * row + place) (pos 0)) ∙ row-weight count scope sets (drop count weights) row place r within at

pub weight-within : (count row place rows many : ℕ) → row < rows → place < count → many ≡ count * rows → count * row + place < many
weight-within count row place rows many below within is =
    let least : count * suc row ≤ count * rows = mul-le-mul_left count (omega arith) in
    let split = mul-suc count row in
    omega (arith, least, split, is, within)

-- all weights of the row at a place
pub row-weights : (count : ℕ) (scope : List ℕ) (sets : List (List Bool)) (weights : List ℤ) (row : ℕ) (r : Row) → slice_get (rows_from count scope sets weights) row ≡ Some r
    → take count (drop (count * row) weights) ≡ r.weights
row-weights count scope [] weights row r at = absurd (cc)
row-weights count scope (set ∷ sets) weights zero r at =
    let same : record { atoms = atoms_at scope set; weights = take count weights } ≡ r = cc in
    ap (λ k. take count (drop k weights)) (let e : count * 0 ≡ 0 = omega arith in e) ∙ ap (λ (q : Row). q.weights) same
row-weights count scope (set ∷ sets) weights (suc row) r at =
    let split = mul-suc count row in
    let shifted : count * suc row ≡ count + count * row = omega (arith, split) in
    ap (λ k. take count (drop k weights)) shifted ∙ ap (take count) (sym (drop-drop (count * row) count weights)) ∙ row-weights count scope sets (drop count weights) row r at

pub weights-within : (count row rows many : ℕ) → row < rows → many ≡ count * rows → count * row + count ≤ many
weights-within count row rows many below is =
    let least : count * suc row ≤ count * rows = mul-le-mul_left count (omega arith) in
    let split = mul-suc count row in
    omega (arith, least, split, is)
