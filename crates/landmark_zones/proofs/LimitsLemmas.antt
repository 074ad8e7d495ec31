-- The limits of a text: what the remaining elements decide, what a search finds, and how many entries there are.
use Rattle.std.proofs.Common.{◌≡◌, ◌∙◌, ℕ, zero, suc, ◌+◌, ◌-◌, ◌<◌, ◌≤◌, inl, inr, Bool, true, false, ◌||◌, List, [], ◌∷◌, length, map, drop, get_or, Some, refl, sym, ap, arith}
use Rattle.std.specs.Prelude.{◌&&◌, ◌==◌, nat_le, nat_lt, slice_get, Result, Ok, Err, is_ok, MatchResult}
use Rattle.std.specs.List.{list_all}
use Rattle.std.specs.Ordering.{nat_cmp}
use Rattle.std.specs.List.Sorted.{IsBinarySearchResult}
use Rattle.std.proofs.lemmas.Bool.{and_parts, eqb-true, leb-true, eq-eqb, false_from_ne_true, cases_lt}
use Rattle.std.proofs.lemmas.List.{length-drop, length-map, length-take-le, drop_more}
use Rattle.std.proofs.lemmas.List.Sorted.{searched}
use Rattle.std.proofs.lemmas.List.Sums.{sum_by-cons}
use Rattle.std.proofs.lemmas.Option.{slice_get_within, get_or_from_slice_get}
use Rattle.lower_bounds.specs.TableFunctions.{is_among}
use Rattle.lower_bounds.specs.LandmarkFunctions.{Zone}
use Rattle.lower_bounds.specs.LandmarkLines as lines
use Rattle.lower_bounds.specs.LandmarkLines.{rise, literal_count, share_count}
use Rattle.landmark_zones.specs.declared.values.Share.{Share}
use Rattle.landmark_zones.specs.declared.zones.ZoneEnd.{ZoneEnd}
use Rattle.landmark_zones.specs.Landmarks.{share_of}
use Rattle.landmark_zones.specs.Rows.{between, rows_from, are_ends, zones_from, are_zone_ends}
use Rattle.landmark_zones.proofs.RowLemmas.{ends-up}
use Rattle.landmark_zones.proofs.ZoneLemmas.{ends-of, zone-ends-up}

-- one element, and those after it, decide
pub one-decides : {X : Type 0} (p : X → Bool) (xs : List X) (i : ℕ) (x : X) → slice_get xs i ≡ Some x → (b : Bool) → b ≡ p x → list_all p (drop i xs) ≡ b && list_all p (drop (i + 1) xs)
one-decides p xs i x at b same =
    let it : get_or xs i x ≡ x = get_or_from_slice_get xs i x x at in
    let first : p (get_or xs i x) ≡ b = ap p it ∙ sym same in
    ap (list_all p) (drop_more xs i x (slice_get_within xs i x at)) ∙ (λ k. first k && list_all p (drop (i + 1) xs))

-- ---- ascending numbers

-- each is at least the least allowed one
rise-least : (count least : ℕ) (numbers : List ℕ) (j : ℕ) → rise count least numbers ≡ true → j < length numbers → least ≤ get_or numbers j 0
rise-least count least [] j rises within = absurd (omega arith)
rise-least count least (n ∷ numbers) zero rises within =
    leb-true least n (and_parts (nat_le least n) (nat_lt n count) (and_parts (nat_le least n && nat_lt n count) (rise count (n + 1) numbers) rises).0).0
rise-least count least (n ∷ numbers) (suc j) rises within =
    let parts = and_parts (nat_le least n && nat_lt n count) (rise count (n + 1) numbers) rises in
    let first = leb-true least n (and_parts (nat_le least n) (nat_lt n count) parts.0).0 in
    let rest = rise-least count (n + 1) numbers j parts.1 (omega arith) in
    omega arith

pub rise-up : (count least : ℕ) (numbers : List ℕ) → rise count least numbers ≡ true → (i j : ℕ) → i ≤ j → j < length numbers → get_or numbers i 0 ≤ get_or numbers j 0
rise-up count least [] rises i j up within = absurd (omega arith)
rise-up count least (n ∷ numbers) rises zero zero up within = omega arith
rise-up count least (n ∷ numbers) rises zero (suc j) up within =
    let rest = rise-least count (n + 1) numbers j (and_parts (nat_le least n && nat_lt n count) (rise count (n + 1) numbers) rises).1 (omega arith) in
    omega arith
rise-up count least (n ∷ numbers) rises (suc i) zero up within = absurd (omega arith)
rise-up count least (n ∷ numbers) rises (suc i) (suc j) up within =
    rise-up count (n + 1) numbers (and_parts (nat_le least n && nat_lt n count) (rise count (n + 1) numbers) rises).1 i j (omega arith) (omega arith)

-- ---- a search in ascending numbers

among-at : (numbers : List ℕ) (k number : ℕ) → k < length numbers → get_or numbers k 0 ≡ number → is_among numbers number ≡ true
among-at [] k number within is = absurd (omega arith)
among-at (n ∷ numbers) zero number within is = ap (λ b. b || is_among numbers number) (eq-eqb n number is)
among-at (n ∷ numbers) (suc k) number within is =
    elim (n == number) as (λ b. (b || is_among numbers number) ≡ true) [
      | true ↦ refl
      | false ↦ among-at numbers k number (omega arith) is
    ]

among-none : (numbers : List ℕ) (number : ℕ) → ((k : ℕ) → k < length numbers → get_or numbers k 0 ≡ number → ⊥) → is_among numbers number ≡ false
among-none [] number none = refl
among-none (n ∷ numbers) number none =
    let first : (n == number) ≡ false = false_from_ne_true (n == number) (λ is. none 0 (omega arith) (eqb-true n number is)) in
    ap (λ b. b || is_among numbers number) first ∙ among-none numbers number (λ k within is. none (suc k) (omega arith) is)

pub found-rising : (numbers : List ℕ) (number : ℕ) (r : Result ℕ ℕ) → ((i j : ℕ) → i ≤ j → j < length numbers → get_or numbers i 0 ≤ get_or numbers j 0)
    → IsBinarySearchResult (λ y. nat_cmp y number) numbers r → is_ok r ≡ is_among numbers number
found-rising numbers number r up result = by_result r (searched numbers number r result up)
  where
    by_result : (r : Result ℕ ℕ) → MatchResult r (λ i. (i < length numbers) × (get_or numbers i 0 ≡ number))
        (λ i. (i ≤ length numbers) × ((k : ℕ) → k < i → get_or numbers k 0 < number) × ((k : ℕ) → i ≤ k → k < length numbers → number < get_or numbers k 0)) → is_ok r ≡ is_among numbers number
    by_result (Ok i) found = sym (among-at numbers i number found.0 found.1)
    by_result (Err i) apart =
        sym (among-none numbers number (λ k within is. elim (cases_lt k i) [
          | inl before ↦ let less = apart.1 k before in absurd (omega (arith, is))
          | inr after ↦ let more = apart.2 k after within in absurd (omega (arith, is))
        ]))

pub found-among : (count : ℕ) (numbers : List ℕ) (number : ℕ) (r : Result ℕ ℕ) → rise count 0 numbers ≡ true → IsBinarySearchResult (λ y. nat_cmp y number) numbers r → is_ok r ≡ is_among numbers number
found-among count numbers number r rises = found-rising numbers number r (rise-up count 0 numbers rises)

-- ---- the number of entries

length-between : {X : Type 0} (start end : ℕ) (xs : List X) → start ≤ end → end ≤ length xs → length (between start end xs) ≡ end - start
length-between start end xs up within = length-take-le (end - start) (drop start xs) (omega (arith, length-drop start xs))

abbrev literals : Zone → ℕ
literals z = length z.atoms + length z.negated

all-literals : (start : ℕ) (ends : List ZoneEnd) (numbers : List ℕ) → are_zone_ends start ends (length numbers) ≡ true → start + literal_count (zones_from start ends numbers) ≡ length numbers
all-literals start [] numbers are = let is = eqb-true start (length numbers) are in omega arith
all-literals start (end ∷ ends) numbers are =
    let parts = ends-of start end ends (length numbers) are in
    let one = parts.first in
    let two = parts.second in
    let up = zone-ends-up end.negated ends (length numbers) parts.rest in
    let rest = all-literals end.negated ends numbers parts.rest in
    omega (
      arith,
      length-between start end.atoms numbers one (omega arith),
      length-between end.atoms end.negated numbers two up,
      sum_by-cons literals (record { atoms = between start end.atoms numbers; negated = between end.atoms end.negated numbers }) (zones_from end.negated ends numbers),
    )

pub literals-counted : (ends : List ZoneEnd) (numbers : List ℕ) → are_zone_ends 0 ends (length numbers) ≡ true → length numbers ≡ literal_count (zones_from 0 ends numbers)
literals-counted ends numbers are = let all = all-literals 0 ends numbers are in omega arith

all-shares : (start : ℕ) (ends : List ℕ) (shares : List Share) → are_ends start ends (length shares) ≡ true → start + share_count (map (map share_of) (rows_from start ends shares)) ≡ length shares
all-shares start [] shares are = let is = eqb-true start (length shares) are in omega arith
all-shares start (end ∷ ends) shares are =
    let parts = and_parts (nat_le start end) (are_ends end ends (length shares)) are in
    let one = leb-true start end parts.0 in
    let up = ends-up end ends (length shares) parts.1 in
    let rest = all-shares end ends shares parts.1 in
    omega (
      arith,
      length-between start end shares one up,
      length-map (between start end shares) share_of,
      sum_by-cons (λ (row : List lines.Share). length row) (map share_of (between start end shares)) (map (map share_of) (rows_from end ends shares)),
    )

pub shares-counted : (ends : List ℕ) (shares : List Share) → are_ends 0 ends (length shares) ≡ true → length shares ≡ share_count (map (map share_of) (rows_from 0 ends shares))
shares-counted ends shares are = let all = all-shares 0 ends shares are in omega arith
