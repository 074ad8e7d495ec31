-- The first index of a list at which a test passes, and its search after indices at which the test fails.
use Rattle.std.proofs.Common.{◌≡◌, ℕ, suc, zero, ◌+◌, ◌<◌, ◌≤◌, Bool, true, false, not, cond, List, [], ◌∷◌, ◌++◌, drop, length, None, Some, refl, sym, ap, ◌∙◌, subst, length-append, arith}
use Rattle.std.specs.Prelude.{if◌then◌else◌, nat_lt}
use Rattle.std.specs.List.{position, position_or_len}
use Rattle.std.proofs.lemmas.Bool.{le-ltb, lt-ltb, ltb-false, ltb-true}
use Rattle.std.proofs.lemmas.List.{drop-append-le, length-drop}

module _ (test : ℕ → Bool) where
  pub first_within : (xs : List ℕ) → position_or_len test xs ≤ length xs
  first_within [] = omega arith
  first_within (x ∷ xs) = by_test (first_within xs) (test x) refl
    where
      by_test : position_or_len test xs ≤ length xs → (b : Bool) → test x ≡ b → cond (not b) (1 + position_or_len test xs) 0 ≤ length (x ∷ xs)
      by_test more true is = omega arith
      by_test more false is = omega (arith, more)

  pub record IsFirst (xs : List ℕ) (k : ℕ) : Type 0 where
    pub is_first : position_or_len test xs ≡ k
    pub within : k < length xs

  pub first_at : (xs : List ℕ) (k : ℕ) → position test xs ≡ Some k → IsFirst xs k
  first_at xs k at = by_test (nat_lt (position_or_len test xs) (length xs)) refl at
    where
      by_test : (b : Bool) → nat_lt (position_or_len test xs) (length xs) ≡ b → cond b (Some (position_or_len test xs)) None ≡ Some k → IsFirst xs k
      by_test true below at =
          let same : position_or_len test xs ≡ k = cc in
          record { is_first = same; within = subst (λ n. n < length xs) same (ltb-true (position_or_len test xs) (length xs) below) }
      by_test false past at = absurd (cc at)

  pub passes_nowhere : (xs : List ℕ) → position test xs ≡ None → length xs ≤ position_or_len test xs
  passes_nowhere xs at = by_test (nat_lt (position_or_len test xs) (length xs)) refl at
    where
      by_test : (b : Bool) → nat_lt (position_or_len test xs) (length xs) ≡ b → cond b (Some (position_or_len test xs)) None ≡ None → length xs ≤ position_or_len test xs
      by_test true below at = absurd (cc at)
      by_test false past at = ltb-false (position_or_len test xs) (length xs) past

  first_after : (n : ℕ) (xs : List ℕ) → n ≤ position_or_len test xs → position_or_len test xs ≡ n + position_or_len test (drop n xs)
  first_after zero xs within = omega arith
  first_after (suc n) [] within = absurd (omega (arith, within))
  first_after (suc n) (x ∷ xs) within = by_test (first_after n xs) (test x) within
    where
      by_test : (n ≤ position_or_len test xs → position_or_len test xs ≡ n + position_or_len test (drop n xs))
          → (b : Bool) → suc n ≤ cond (not b) (1 + position_or_len test xs) 0 → cond (not b) (1 + position_or_len test xs) 0 ≡ suc n + position_or_len test (drop n xs)
      by_test more true within = absurd (omega (arith, within))
      by_test more false within = let rest = more (omega (arith, within)) in omega (arith, rest)

  -- if the first n indices fail, the first one that passes is found after them
  pub found_after : (n : ℕ) (xs : List ℕ) (k : ℕ) → n ≤ position_or_len test xs → position test (drop n xs) ≡ Some k → position test xs ≡ Some (n + k)
  found_after n xs k before at =
      let first = first_at (drop n xs) k at in
      let there : position_or_len test xs ≡ n + k = omega (arith, first_after n xs before, first.is_first) in
      ap (λ b. cond b (Some (position_or_len test xs)) None)
      (lt-ltb (position_or_len test xs) (length xs) (omega (arith, there, first.within, length-drop n xs)))
      ∙ ap (λ k. Some k) there

  -- and if none is found after them, there is none
  pub nowhere_after : (n : ℕ) (xs : List ℕ) → n ≤ position_or_len test xs → position test (drop n xs) ≡ None → position test xs ≡ None
  nowhere_after n xs before at =
      ap (λ b. cond b (Some (position_or_len test xs)) None)
      (le-ltb (position_or_len test xs) (length xs) (omega (arith, first_after n xs before, passes_nowhere (drop n xs) at, length-drop n xs)))

  -- appending elements adds no earlier index
  first_grows : (xs ys : List ℕ) → position_or_len test xs ≤ position_or_len test (xs ++ ys)
  first_grows [] ys = omega arith
  first_grows (x ∷ xs) ys = by_test (first_grows xs ys) (test x)
    where
      by_test : position_or_len test xs ≤ position_or_len test (xs ++ ys)
          → (b : Bool) → cond (not b) (1 + position_or_len test xs) 0 ≤ cond (not b) (1 + position_or_len test (xs ++ ys)) 0
      by_test more true = omega arith
      by_test more false = omega (arith, more)

  -- what is known from an index on remains true after elements are appended
  pub known_still : (start n : ℕ) (xs more ys : List ℕ) (came : Bool) → start ≤ length xs → n ≤ position_or_len test (drop start xs)
      → ys ≡ if came then xs ++ more else xs → (start ≤ length ys) × (n ≤ position_or_len test (drop start ys))
  known_still start n xs more ys true within known grown = (
    subst (λ ys. start ≤ length ys) (sym grown) (omega (arith, within, length-append xs more)),
    subst (λ ys. n ≤ position_or_len test (drop start ys)) (sym grown)
        (subst (λ rest. n ≤ position_or_len test rest) (sym (drop-append-le start xs more within)) (let grows = first_grows (drop start xs) more in omega (arith, known, grows))),
  )
  known_still start n xs more ys false within known grown =
      (subst (λ ys. start ≤ length ys) (sym grown) within, subst (λ ys. n ≤ position_or_len test (drop start ys)) (sym grown) known)
