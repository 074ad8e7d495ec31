-- Which of two states comes before, by their bits: the first bit in which they differ decides, and so the first pair of bits that
-- change places and differ.
use Rattle.std.proofs.Common.{◌≡◌, ◌∙◌, ℕ, zero, suc, ◌+◌, ◌<◌, ◌≤◌, ◌⊎◌, inl, inr, Bool, true, false, List, [], ◌∷◌, map, length, get_or, None, Some, refl, sym, ap, subst, arith}
use Rattle.std.specs.Prelude.{cond}
use Rattle.std.specs.Bool.{beq}
use Rattle.std.specs.List.{filter_map, range_with_len, cons_option}
use Rattle.std.specs.FinSet.{contains}
use Rattle.std.proofs.lemmas.Bool.{cases_order, lt-ltb, le-ltb}
use Rattle.model.specs.Task.{Atom}
use Rattle.model.specs.Meaning.{State}
use Rattle.symmetries_definitions.specs.Orbits.{comes_before}
use Rattle.symmetries.specs.SwappedPlaces.{decide, is_earlier}
use Rattle.symmetries.proofs.SwappedBits.{pair_at}

-- the first bit in which the two differ is set in the first of them
abbrev pub is_before : List Bool → List Bool → Bool
is_before (true ∷ xs) (false ∷ ys) = true
is_before (false ∷ xs) (true ∷ ys) = false
is_before (x ∷ xs) (y ∷ ys) = is_before xs ys
is_before _ _ = false

-- the order of states is that of their bits
pub comes_before-bits : (atoms : List Atom) (s t : State) → comes_before atoms s t ≡ is_before (map (contains s) atoms) (map (contains t) atoms)
comes_before-bits [] s t = refl
comes_before-bits (a ∷ atoms) s t = by_bits (contains s a) (contains t a) (comes_before-bits atoms s t)
  where
    by_bits : (x y : Bool) → comes_before atoms s t ≡ is_before (map (contains s) atoms) (map (contains t) atoms)
        → cond (beq x y) (comes_before atoms s t) x ≡ is_before (x ∷ map (contains s) atoms) (y ∷ map (contains t) atoms)
    by_bits true true rest = rest
    by_bits true false rest = refl
    by_bits false true rest = refl
    by_bits false false rest = rest

-- ---- which of two comes before

decide_same : (x y rest : Bool) → x ≡ y → decide x y rest ≡ rest
decide_same true true rest same = refl
decide_same true false rest same = absurd (cc)
decide_same false true rest same = absurd (cc)
decide_same false false rest same = refl

decide_alike : (x y p q : Bool) → (x ≡ y → p ≡ q) → decide x y p ≡ decide x y q
decide_alike true true p q same = same refl
decide_alike true false p q same = refl
decide_alike false true p q same = refl
decide_alike false false p q same = same refl

-- by the bits of `n` numbers, from `k` on
abbrev pub before_from : (ℕ → Bool) → (ℕ → Bool) → ℕ → ℕ → Bool
before_from f g k zero = false
before_from f g k (suc n) = decide (f k) (g k) (before_from f g (k + 1) n)

first_decides : (x y : Bool) (xs ys : List Bool) → is_before (x ∷ xs) (y ∷ ys) ≡ decide x y (is_before xs ys)
first_decides true true xs ys = refl
first_decides true false xs ys = refl
first_decides false true xs ys = refl
first_decides false false xs ys = refl

one_later : (k i : ℕ) → k + suc i ≡ (k + 1) + i
one_later k i = omega arith

pub before-bits : (n k : ℕ) (xs ys : List Bool) (f g : ℕ → Bool) → length xs ≡ n → length ys ≡ n
    → ((i : ℕ) → i < n → get_or xs i false ≡ f (k + i)) → ((i : ℕ) → i < n → get_or ys i false ≡ g (k + i)) → is_before xs ys ≡ before_from f g k n
before-bits zero k [] [] f g long wide mine theirs = refl
before-bits zero k (x ∷ xs) ys f g long wide mine theirs = absurd (omega arith)
before-bits zero k [] (y ∷ ys) f g long wide mine theirs = absurd (omega arith)
before-bits (suc n) k [] ys f g long wide mine theirs = absurd (omega arith)
before-bits (suc n) k (x ∷ xs) [] f g long wide mine theirs = absurd (omega arith)
before-bits (suc n) k (x ∷ xs) (y ∷ ys) f g long wide mine theirs =
    let here : k + 0 ≡ k = omega arith in
    let rest : is_before xs ys ≡ before_from f g (k + 1) n =
    before-bits n (k + 1) xs ys f g (omega arith) (omega arith)
    (λ i below. mine (suc i) (omega arith) ∙ ap f (one_later k i)) (λ i below. theirs (suc i) (omega arith) ∙ ap g (one_later k i)) in
    first_decides x y xs ys
    ∙ (λ i. decide ((mine 0 (omega arith) ∙ ap f here) i) ((theirs 0 (omega arith) ∙ ap g here) i) (rest i))

module _ (place : ℕ → ℕ) (back : (n : ℕ) → place (place n) ≡ n) (f : ℕ → Bool) where
  abbrev pairs_from : ℕ → ℕ → List (ℕ × ℕ)
  pairs_from k n = filter_map (pair_at place) (range_with_len k n)

  pub by_pairs : (n k : ℕ) → ((j : ℕ) → j < k → f (place j) ≡ f j) → before_from (λ i. f (place i)) f k n ≡ is_earlier (filter_map (pair_at place) (range_with_len k n)) f
  by_pairs zero k same = refl
  by_pairs (suc n) k same = by_order (by_pairs n (k + 1)) (cases_order k (place k))
    where
      more : f (place k) ≡ f k → (j : ℕ) → j < k + 1 → f (place j) ≡ f j
      more here j below = by_last (cases_order j k)
        where
          by_last : (j ≡ k) ⊎ ((j < k) ⊎ (k < j)) → f (place j) ≡ f j
          by_last (inl is) = subst (λ m. f (place m) ≡ f m) (sym is) here
          by_last (inr (inl less)) = same j less
          by_last (inr (inr past)) = absurd (omega arith)

      none : place k ≤ k → is_earlier (cons_option (pair_at place k) (pairs_from (k + 1) n)) f ≡ is_earlier (pairs_from (k + 1) n) f
      none low = ap (λ b. is_earlier (cons_option (cond b (Some (k, place k)) None) (pairs_from (k + 1) n)) f) (le-ltb k (place k) low)

      equal_here : (((j : ℕ) → j < k + 1 → f (place j) ≡ f j) → before_from (λ i. f (place i)) f (k + 1) n ≡ is_earlier (pairs_from (k + 1) n) f) → place k ≤ k → f (place k) ≡ f k
          → decide (f (place k)) (f k) (before_from (λ i. f (place i)) f (k + 1) n) ≡ is_earlier (cons_option (pair_at place k) (pairs_from (k + 1) n)) f
      equal_here rest low here = decide_same (f (place k)) (f k) (before_from (λ i. f (place i)) f (k + 1) n) here ∙ rest (more here) ∙ sym (none low)

      by_order : (((j : ℕ) → j < k + 1 → f (place j) ≡ f j) → before_from (λ i. f (place i)) f (k + 1) n ≡ is_earlier (pairs_from (k + 1) n) f) → (k ≡ place k) ⊎ ((k < place k) ⊎ (place k < k))
          → decide (f (place k)) (f k) (before_from (λ i. f (place i)) f (k + 1) n) ≡ is_earlier (cons_option (pair_at place k) (pairs_from (k + 1) n)) f
      by_order rest (inl is) = equal_here rest (omega arith) (ap f (sym is))
      by_order rest (inr (inr below)) = equal_here rest (omega arith) (sym (same (place k) below) ∙ ap f (back k))
      by_order rest (inr (inl above)) =
          decide_alike (f (place k)) (f k) (before_from (λ i. f (place i)) f (k + 1) n) (is_earlier (pairs_from (k + 1) n) f) (λ here. rest (more here))
          ∙ sym (ap (λ b. is_earlier (cons_option (cond b (Some (k, place k)) None) (pairs_from (k + 1) n)) f) (lt-ltb k (place k) above))
