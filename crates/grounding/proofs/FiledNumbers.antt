-- How often a number is in a list, lists that rise, and numbers filed in rows.
use Rattle.std.proofs.Common.{◌≡◌, ◌∙◌, ◌≤◌, ◌<◌, ℕ, zero, suc, ◌+◌, ◌==◌, inl, inr, Bool, true, false, List, [], ◌∷◌, ◌++◌, length, length-append, get_or, cond, refl, sym, ap, subst, arith}
use Rattle.std.specs.Prelude.{filter, if◌then◌else◌}
use Rattle.std.specs.List.{All, range_with_len}
use Rattle.std.specs.List.Sorted.{IsPermutation, IsSorted, IsNonDecreasing}
use Rattle.std.specs.Ordering.{nat_cmp}
use Rattle.std.proofs.lemmas.Bool.{cases_eq, cases_lt, eq-eqb, eqb-true}
use Rattle.std.proofs.lemmas.List.{map-id}
use Rattle.std.proofs.lemmas.List.FromFn.{get_or-range_with_len, length-range_with_len, map-range_with_len_more}
use Rattle.std.proofs.lemmas.List.Sums.{length-filter, count_by-le-length}
use Rattle.std.proofs.lemmas.List.Kept.{IsNonDecreasingBy-filter}
use Rattle.std.proofs.lemmas.List.Recursion.{is_sum_by}
use Rattle.std.proofs.lemmas.List.Sorted.{sum_by-IsPermutation, IsNonDecreasingBy-from_sort}
use Rattle.grounding.specs.WatchLists.{once, times, filed_below}

-- ---- how often

one-other : (n x : ℕ) → (x ≡ n → ⊥) → once (x == n) ≡ 0
one-other n x other = elim (x == n) as (λ b. x == n ≡ b → once b ≡ 0) [
  | true ↦ λ is. absurd (other (eqb-true x n is))
  | false ↦ λ _. refl
] refl

one-same : (n : ℕ) → once (n == n) ≡ 1
one-same n = ap once (eq-eqb n n refl)

pub times-append : (n : ℕ) (xs ys : List ℕ) → times n (xs ++ ys) ≡ times n xs + times n ys
times-append n [] ys = omega arith
times-append n (x ∷ xs) ys = omega (arith, times-append n xs ys)

pub times-is : (n : ℕ) (xs ys : List ℕ) → IsPermutation xs ys → times n ys ≡ times n xs
times-is n xs ys moved =
    let sums = is_sum_by (times n) (λ x. once (x == n)) refl (λ x xs. refl) in
    sums ys ∙ sum_by-IsPermutation (λ x. once (x == n)) xs ys moved ∙ sym (sums xs)

-- a filter keeps all of a number, or none
pub times-filter : (p : ℕ → Bool) (n : ℕ) (xs : List ℕ) → times n (filter p xs) ≡ (if p n then times n xs else zero)
times-filter p n [] = elim (p n) as (λ b. zero ≡ (if b then zero else zero)) [
  | true ↦ refl
  | false ↦ refl
]
times-filter p n (x ∷ xs) = elim (cases_eq x n) [
  | inl is ↦
      let here : p x ≡ p n = ap p is in
      by_test (p x) (p n) here (times-filter p n xs)
  | inr other ↦ by_other (p x) (p n) (one-other n x other) (times-filter p n xs)
]
  where
    by_test : (b c : Bool) → b ≡ c → times n (filter p xs) ≡ (if c then times n xs else zero) → times n (cond b (x ∷ filter p xs) (filter p xs)) ≡ (if c then times n (x ∷ xs) else zero)
    by_test true true same before = omega (arith, before)
    by_test false false same before = before
    by_test true false same before = absurd (cc)
    by_test false true same before = absurd (cc)

    by_other : (b c : Bool) → once (x == n) ≡ 0 → times n (filter p xs) ≡ (if c then times n xs else zero) → times n (cond b (x ∷ filter p xs) (filter p xs)) ≡ (if c then times n (x ∷ xs) else zero)
    by_other true true none before = omega (arith, none, before)
    by_other true false none before = omega (arith, none, before)
    by_other false true none before = omega (arith, none, before)
    by_other false false none before = before

-- ---- lists that rise

abbrev Rises : ℕ → List ℕ → Type 0
Rises from [] = Unit {0}
Rises from (x ∷ xs) = (from ≤ x) × Rises x xs

rises : (from : ℕ) (xs : List ℕ) → IsNonDecreasing xs → ((d : ℕ) → 0 < length xs → from ≤ get_or xs 0 d) → Rises from xs
rises from [] up first = tt
rises from (x ∷ xs) up first =
    (first 0 (omega arith), rises x xs (λ i j d le lt. up (suc i) (suc j) d (omega (arith, le)) (omega (arith, lt))) (λ d some. up 0 1 d (omega arith) (omega (arith, some))))

none-below : (n from : ℕ) (xs : List ℕ) → n < from → Rises from xs → times n xs ≡ 0
none-below n from [] below up = refl
none-below n from (x ∷ xs) below up =
    let other = one-other n x (λ is. absurd (omega (arith, below, up.0, is))) in
    omega (arith, other, none-below n x xs (omega (arith, below, up.0)) up.1)

same-rising : (from : ℕ) (xs ys : List ℕ) → Rises from xs → Rises from ys → ((n : ℕ) → times n xs ≡ times n ys) → xs ≡ ys
same-rising from [] [] up rise same = refl
same-rising from [] (y ∷ ys) up rise same = absurd (omega (arith, same y, one-same y))
same-rising from (x ∷ xs) [] up rise same = absurd (omega (arith, same x, one-same x))
same-rising from (x ∷ xs) (y ∷ ys) up rise same = elim (cases_lt x y) [
  | inl less ↦ absurd (omega (arith, same x, one-same x, none-below x y (y ∷ ys) less (omega arith, rise.1)))
  | inr most ↦ elim (cases_lt y x) [
    | inl less ↦ absurd (omega (arith, same y, one-same y, none-below y x (x ∷ xs) less (omega arith, up.1)))
    | inr least ↦
        let is : x ≡ y = omega (arith, most, least) in
        let tails = same-rising x xs ys up.1 (subst (λ z. Rises z ys) (sym is) rise.1)
        (λ n. let first : once (x == n) ≡ once (y == n) = ap (λ z. once (z == n)) is in omega (arith, same n, first)) in
        (λ j. is j ∷ tails j)
  ]
]

-- what a sort makes of a list is the list in order with the same numbers
pub sorted-same : (xs ys zs : List ℕ) → IsPermutation xs ys → IsSorted nat_cmp ys → IsNonDecreasing zs → ((n : ℕ) → times n xs ≡ times n zs) → ys ≡ zs
sorted-same xs ys zs moved sorted up same =
    same-rising 0 ys zs (rises 0 ys (IsNonDecreasingBy-from_sort (λ x. x) ys sorted) (λ d some. omega arith)) (rises 0 zs up (λ d some. omega arith))
    (λ n. times-is n xs ys moved ∙ same n)

pub numbers-rise : (p : ℕ → Bool) (n : ℕ) → IsNonDecreasing (filter p (range_with_len 0 n))
numbers-rise p n = IsNonDecreasingBy-filter (λ x. x) p (range_with_len 0 n)
    (λ i j d le lt. let long = length-range_with_len 0 n in omega (arith, le, lt, long, get_or-range_with_len 0 n i d (omega (arith, le, lt, long)), get_or-range_with_len 0 n j d (omega (arith, lt, long))))

-- ---- rows

-- one number more in one row, by any measure that adds up
module _ (size : List ℕ → ℕ) (none : size [] ≡ 0) (adds : (xs ys : List ℕ) → size (xs ++ ys) ≡ size xs + size ys) (old new : ℕ → List ℕ) (at number : ℕ)
    (rows : (a : ℕ) → new a ≡ (if a == at then old a ++ number ∷ [] else old a)) where
  other-row : (a : ℕ) → (a ≡ at → ⊥) → new a ≡ old a
  other-row a other = rows a ∙ elim (a == at) as (λ b. a == at ≡ b → (if b then old a ++ number ∷ [] else old a) ≡ old a) [
    | true ↦ λ is. absurd (other (eqb-true a at is))
    | false ↦ λ _. refl
  ] refl

  filed-before : (n : ℕ) → n ≤ at → size (filed_below new n) ≡ size (filed_below old n)
  filed-before zero le = refl
  filed-before (suc n) le =
      let row = ap size (other-row n (λ is. absurd (omega (arith, is, le)))) in
      omega (arith, adds (filed_below new n) (new n), adds (filed_below old n) (old n), row, filed-before n (omega (arith, le)))

  pub filed-more : (n : ℕ) → at < n → size (filed_below new n) ≡ size (filed_below old n) + size (number ∷ [])
  filed-more zero lt = absurd (omega (arith, lt))
  filed-more (suc n) lt = elim (cases_eq n at) [
    | inl is ↦
        let here : new n ≡ old n ++ number ∷ [] = rows n ∙ ap (λ b. if b then old n ++ number ∷ [] else old n) (eq-eqb n at is) in
        omega (arith, adds (filed_below new n) (new n), adds (filed_below old n) (old n), ap size here, adds (old n) (number ∷ []), filed-before n (omega (arith, is)))
    | inr other ↦
        let row = ap size (other-row n other) in
        omega (arith, adds (filed_below new n) (new n), adds (filed_below old n) (old n), row, filed-more n (omega (arith, lt, other)))
  ]

pub filed-fewer : (row : ℕ → List ℕ) (n more : ℕ) → length (filed_below row n) ≤ length (filed_below row (n + more))
filed-fewer row n zero = let same : n + 0 ≡ n = omega arith in omega (arith, ap (λ k. length (filed_below row k)) same)
filed-fewer row n (suc more) =
    let next : n + suc more ≡ suc (n + more) = omega arith in
    omega (arith, ap (λ k. length (filed_below row k)) next, length-append (filed_below row (n + more)) (row (n + more)), filed-fewer row n more)

pub filter-none : (p : ℕ → Bool) (xs : List ℕ) → All (λ n. p n ≡ false) xs → filter p xs ≡ []
filter-none p [] all = refl
filter-none p (x ∷ xs) all =
    ap (λ b. cond b (x ∷ filter p xs) (filter p xs)) (all 0 x (omega arith)) ∙ filter-none p xs (λ k d lt. all (suc k) d (omega (arith, lt)))

pub filed-alike : (new old : ℕ → List ℕ) → ((a : ℕ) → new a ≡ old a) → (n : ℕ) → filed_below new n ≡ filed_below old n
filed-alike new old alike zero = refl
filed-alike new old alike (suc n) = (λ j. filed-alike new old alike n j ++ alike n j)

pub range-more : (n : ℕ) → range_with_len 0 (n + 1) ≡ range_with_len 0 n ++ n ∷ []
range-more n =
    sym (map-id (range_with_len 0 (n + 1))) ∙ map-range_with_len_more (λ k. k) 0 n n (omega arith) ∙ ap (λ ks. ks ++ n ∷ []) (map-id (range_with_len 0 n))

pub filter-append : (p : ℕ → Bool) (xs ys : List ℕ) → filter p (xs ++ ys) ≡ filter p xs ++ filter p ys
filter-append p [] ys = refl
filter-append p (x ∷ xs) ys = elim (p x) as (λ b. cond b (x ∷ filter p (xs ++ ys)) (filter p (xs ++ ys)) ≡ cond b (x ∷ filter p xs) (filter p xs) ++ filter p ys) [
  | true ↦ ap (λ l. x ∷ l) (filter-append p xs ys)
  | false ↦ filter-append p xs ys
]

pub length-filter_le : (p : ℕ → Bool) (xs : List ℕ) → length (filter p xs) ≤ length xs
length-filter_le p xs = omega (arith, length-filter p xs, count_by-le-length p xs)
