-- Numbers among those of two lists.
use Rattle.std.proofs.Common.{◌≡◌, ℕ, zero, suc, ◌<◌, ◌⊎◌, inl, inr, true, false, true≢false, List, [], ◌∷◌, ◌++◌, length, get_or, sym, ap, subst, arith, refl}
use Rattle.std.specs.Prelude.{All, ◌==◌, ◌||◌}
use Rattle.std.proofs.lemmas.Bool.{or_cases, or_left, or_right, eqb-true, eq-eqb}
use Rattle.lower_bounds.specs.TableFunctions.{is_among}

pub among-left : (xs ys : List ℕ) (k : ℕ) → is_among xs k ≡ true → is_among (xs ++ ys) k ≡ true
among-left [] ys k is = absurd (true≢false (sym is))
among-left (x ∷ xs) ys k is = elim (or_cases (x == k) (is_among xs k) is) [
  | inl here ↦ or_left (x == k) (is_among (xs ++ ys) k) here
  | inr later ↦ or_right (x == k) (is_among (xs ++ ys) k) (among-left xs ys k later)
]

pub among-right : (xs ys : List ℕ) (k : ℕ) → is_among ys k ≡ true → is_among (xs ++ ys) k ≡ true
among-right [] ys k is = is
among-right (x ∷ xs) ys k is = or_right (x == k) (is_among (xs ++ ys) k) (among-right xs ys k is)

pub among-cases : (xs ys : List ℕ) (k : ℕ) → is_among (xs ++ ys) k ≡ true → (is_among xs k ≡ true) ⊎ (is_among ys k ≡ true)
among-cases [] ys k is = inr is
among-cases (x ∷ xs) ys k is = elim (or_cases (x == k) (is_among (xs ++ ys) k) is) [
  | inl here ↦ inl (or_left (x == k) (is_among xs k) here)
  | inr later ↦ elim (among-cases xs ys k later) [
    | inl first ↦ inl (or_right (x == k) (is_among xs k) first)
    | inr second ↦ inr second
  ]
]

pub among-one : (x k : ℕ) → is_among (x ∷ []) k ≡ true → x ≡ k
among-one x k is = elim (or_cases (x == k) false is) [
  | inl here ↦ eqb-true x k here
  | inr none ↦ absurd (true≢false (sym none))
]

pub among-index : (numbers : List ℕ) (number : ℕ) → is_among numbers number ≡ true → (k : ℕ) × (k < length numbers) × (get_or numbers k 0 ≡ number)
among-index [] number is = absurd (true≢false (sym is))
among-index (n ∷ numbers) number is = elim (or_cases (n == number) (is_among numbers number) is) [
  | inl here ↦ (0, omega arith, eqb-true n number here)
  | inr later ↦ let rest = among-index numbers number later in let below = rest.1 in (suc rest.0, omega arith, rest.2)
]

pub index-among : (numbers : List ℕ) (k : ℕ) → k < length numbers → is_among numbers (get_or numbers k 0) ≡ true
index-among [] k within = absurd (omega arith)
index-among (n ∷ numbers) zero within = ap (λ b. b || is_among numbers n) (eq-eqb n n refl)
index-among (n ∷ numbers) (suc k) within =
    elim (n == get_or numbers k 0) as (λ b. (b || is_among numbers (get_or numbers k 0)) ≡ true) [
      | true ↦ refl
      | false ↦ index-among numbers k (omega arith)
    ]

-- what holds of each number holds of one that is among them
pub among-all : (P : ℕ → Type 0) (numbers : List ℕ) (number : ℕ) → All P numbers → is_among numbers number ≡ true → P number
among-all P numbers number all is = let at = among-index numbers number is in subst P at.2 (all at.0 0 at.1)
