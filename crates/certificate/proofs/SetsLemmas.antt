-- Ascending numbers, and the sets of them.
use Rattle.std.proofs.Common.{◌≡◌, ◌≢◌, ℕ, zero, suc, ◌+◌, ◌<◌, ◌≤◌, ◌⊎◌, inl, inr, Bool, true, false, cond, List, [], ◌∷◌, refl, sym, ap, ◌∙◌, subst, arith}
use Rattle.std.specs.Prelude.{◌&&◌, ◌||◌, ◌==◌, nat_le, nat_lt, All}
use Rattle.std.proofs.lemmas.List.Elements.{All-cons, All-nil}
use Rattle.std.specs.List.{filter, list_any, range_with_len}
use Rattle.std.proofs.lemmas.Bool.{and_parts, cases_eq, eq-eqb, le-leb, lt-ltb, leb-true, ltb-true, ne_eqb}
use Rattle.packed_state.specs.Sets.{has, set_of}
use Rattle.packed_state.proofs.PackedLemmas.{has-set_of, length-set_of}
use Rattle.certificate_definitions.specs.Certificates.{rise}
use Rattle.certificate.specs.ListedSets.{numbers_of}

-- whether the number is among these
abbrev is_among : List ℕ → ℕ → Bool
is_among numbers k = list_any (λ n. n == k) numbers

-- ---- ranges

-- two tests keep the same of a range if they agree on it
filter_within : (p q : ℕ → Bool) (len from : ℕ) → ((k : ℕ) → from ≤ k → k < from + len → p k ≡ q k) → filter p (range_with_len from len) ≡ filter q (range_with_len from len)
filter_within p q zero from agree = refl
filter_within p q (suc len) from agree =
    let rest = filter_within p q len (from + 1) (λ k above below. agree k (omega (arith, above)) (omega (arith, below))) in
    λ i. cond (agree from (omega arith) (omega arith) i) (from ∷ rest i) (rest i)

none_left : (len from : ℕ) → filter (is_among []) (range_with_len from len) ≡ []
none_left zero from = refl
none_left (suc len) from = none_left len (from + 1)

-- ---- ascending numbers

record Rises (count least n : ℕ) (numbers : List ℕ) : Type 0 where
  above : least ≤ n
  below : n < count
  more : rise count (n + 1) numbers ≡ true

rises : (count least n : ℕ) (numbers : List ℕ) → rise count least (n ∷ numbers) ≡ true → Rises count least n numbers
rises count least n numbers is =
    let (first, more) = and_parts (nat_le least n && nat_lt n count) (rise count (n + 1) numbers) is in
    let (above, below) = and_parts (nat_le least n) (nat_lt n count) first in
    record { above = leb-true least n above; below = ltb-true n count below; more = more }

rise_from : (count least more : ℕ) (numbers : List ℕ) → more ≤ least → rise count least numbers ≡ true → (k : ℕ) → k < more → is_among numbers k ≡ false
rise_from count least more [] enough is k below = refl
rise_from count least more (n ∷ numbers) enough is k below =
    let parts = rises count least n numbers is in
    λ i. ne_eqb n k (λ same. omega (arith, same, below, enough, parts.above)) i || rise_from count (n + 1) more numbers (omega (arith, enough, parts.above)) parts.more k below i

left_of_range : (len from count : ℕ) (numbers : List ℕ) → from + len ≡ count → rise count from numbers ≡ true → filter (is_among numbers) (range_with_len from len) ≡ numbers
left_of_range len from count [] all is = none_left len from
left_of_range zero from count (n ∷ numbers) all is = let parts = rises count from n numbers is in absurd (omega (arith, all, parts.above, parts.below))
left_of_range (suc len) from count (n ∷ numbers) all is =
    by_place (λ more rising. left_of_range len (from + 1) count more (omega (arith, all)) rising) (rises count from n numbers is) (cases_eq n from)
  where
    by_place : ((more : List ℕ) → rise count (from + 1) more ≡ true → filter (is_among more) (range_with_len (from + 1) len) ≡ more) → Rises count from n numbers
        → (n ≡ from) ⊎ (n ≢ from) → filter (is_among (n ∷ numbers)) (range_with_len from (suc len)) ≡ n ∷ numbers
    by_place more parts (inl is_from) =
        let rest : filter (is_among (n ∷ numbers)) (range_with_len (from + 1) len) ≡ numbers =
        filter_within (is_among (n ∷ numbers)) (is_among numbers) len (from + 1) (λ k above below i. ne_eqb n k (λ same. omega (arith, same, is_from, above)) i || is_among numbers k)
        ∙ more numbers (subst (λ n. rise count (n + 1) numbers ≡ true) is_from parts.more) in
        let here : (n == from) ≡ true = eq-eqb n from is_from in
        (λ i. cond (here i || is_among numbers from) (from ∷ filter (is_among (n ∷ numbers)) (range_with_len (from + 1) len)) (filter (is_among (n ∷ numbers)) (range_with_len (from + 1) len)))
        ∙ (λ i. sym is_from i ∷ rest i)
    by_place more parts (inr other) =
        let later : from < n = omega (arith, parts.above, other) in
        let absent : is_among (n ∷ numbers) from ≡ false = λ i. ne_eqb n from other i || rise_from count (n + 1) n numbers (omega arith) parts.more from later i in
        (λ i. cond (absent i) (from ∷ filter (is_among (n ∷ numbers)) (range_with_len (from + 1) len)) (filter (is_among (n ∷ numbers)) (range_with_len (from + 1) len)))
        ∙ more (n ∷ numbers) (λ i. (le-leb (from + 1) n (omega (arith, later)) i && lt-ltb n count parts.below i) && parts.more i)

-- the numbers of the set of ascending numbers are these
pub numbers_back : (width : ℕ) (numbers : List ℕ) → rise width 0 numbers ≡ true → numbers_of (set_of width numbers) ≡ numbers
numbers_back width numbers is =
    ap (λ len. filter (has (set_of width numbers)) (range_with_len 0 len)) (length-set_of width numbers)
    ∙ filter_within (has (set_of width numbers)) (is_among numbers) width 0 (λ k above below. has-set_of width numbers k (omega (arith, below)))
    ∙ left_of_range width 0 width numbers (omega arith) is

-- ascending numbers with the same set are equal lists
pub one_set : (width : ℕ) (a b : List ℕ) → rise width 0 a ≡ true → rise width 0 b ≡ true → set_of width a ≡ set_of width b → a ≡ b
one_set width a b a_rise b_rise same = sym (numbers_back width a a_rise) ∙ ap numbers_of same ∙ numbers_back width b b_rise

-- ascending numbers are below the count
pub rise_below : (count least : ℕ) (numbers : List ℕ) → rise count least numbers ≡ true → All (λ n. n < count) numbers
rise_below count least [] is = All-nil (λ n. n < count)
rise_below count least (n ∷ numbers) is =
    let parts = rises count least n numbers is in
    All-cons (λ n. n < count) n numbers parts.below (rise_below count (n + 1) numbers parts.more)
