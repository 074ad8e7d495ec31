-- The pairs of a run: what they do to bits of which it is known where the first pair is that differs.
use Rattle.std.proofs.Common.{◌≡◌, ◌∙◌, ℕ, zero, suc, ◌+◌, ◌<◌, ◌≤◌, ◌⊎◌, inl, inr, Bool, true, false, not, ◌&&◌, List, [], ◌∷◌, ◌++◌, map, refl, sym, ap, arith}
use Rattle.std.specs.Prelude.{slice_set}
use Rattle.std.specs.Bool.{beq}
use Rattle.std.specs.List.{filter, range_with_len}
use Rattle.std.proofs.lemmas.Bool.{cases_eq, cond-true, cond-false}
use Rattle.std.proofs.lemmas.List.{set-get_or}
use Rattle.packed_state.specs.Sets.{has}
use Rattle.symmetries.specs.SwappedPlaces.{decide, is_earlier, with_swapped}
use Rattle.symmetries.specs.declared.run.Run.{Run}
use Rattle.symmetries.specs.Runs.{pair_at, has_at, pairs_from, differs_at}

decide_same : (x y rest : Bool) → beq y x ≡ true → decide x y rest ≡ rest
decide_same true true rest same = refl
decide_same true false rest same = absurd (cc)
decide_same false true rest same = absurd (cc)
decide_same false false rest same = refl

decide_other : (x y rest : Bool) → not (beq y x) ≡ true → decide x y rest ≡ x
decide_other true true rest other = absurd (cc)
decide_other true false rest other = refl
decide_other false true rest other = refl
decide_other false false rest other = absurd (cc)

are_same : (x y : Bool) → beq y x ≡ true → x ≡ y
are_same true true same = refl
are_same true false same = absurd (cc)
are_same false true same = absurd (cc)
are_same false false same = refl

-- where a pair is, and no difference, the bits are the same
alike : (here same : Bool) → here ≡ true → (here && not same) ≡ false → same ≡ true
alike true true is none = refl
alike true false is none = absurd (cc)
alike false same is none = absurd (cc)

-- and where there is a difference, a pair is
pub parts : (here same : Bool) → (here && not same) ≡ true → (here ≡ true) × (not same ≡ true)
parts true true some = absurd (cc)
parts true false some = (refl, refl)
parts false same some = absurd (cc)

module _ (run : Run) where
  pub taken : (k n : ℕ) → has_at run k ≡ true → pairs_from run k (suc n) ≡ pair_at run k ∷ pairs_from run (k + 1) n
  unfolding pairs_from
  taken k n is =
      ap (map (pair_at run)) (cond-true (has_at run k) (k ∷ filter (has_at run) (range_with_len (k + 1) n)) (filter (has_at run) (range_with_len (k + 1) n)) is)

  pub left : (k n : ℕ) → has_at run k ≡ false → pairs_from run k (suc n) ≡ pairs_from run (k + 1) n
  unfolding pairs_from
  left k n is =
      ap (map (pair_at run)) (cond-false (has_at run k) (k ∷ filter (has_at run) (range_with_len (k + 1) n)) (filter (has_at run) (range_with_len (k + 1) n)) is)

  pub none : (k : ℕ) → pairs_from run k 0 ≡ []
  unfolding pairs_from
  none k = refl

  -- ---- which comes before

  module _ (bits : List Bool) where
    abbrev lower : ℕ → Bool
    lower k = has bits (run.lower + k)

    abbrev upper : ℕ → Bool
    upper k = has bits (run.upper + k)

    -- the pair at a place, whose bits are the same if it is there
    skip : (k n : ℕ) (more : List (ℕ × ℕ)) → differs_at run bits k ≡ false → is_earlier (pairs_from run k (suc n) ++ more) (has bits) ≡ is_earlier (pairs_from run (k + 1) n ++ more) (has bits)
    skip k n more same = by_test (has_at run k) refl
      where
        by_test : (b : Bool) → has_at run k ≡ b → is_earlier (pairs_from run k (suc n) ++ more) (has bits) ≡ is_earlier (pairs_from run (k + 1) n ++ more) (has bits)
        by_test true is =
            ap (λ l. is_earlier (l ++ more) (has bits)) (taken k n is)
            ∙ decide_same (upper k) (lower k) (is_earlier (pairs_from run (k + 1) n ++ more) (has bits)) (alike (has_at run k) (beq (lower k) (upper k)) is same)
        by_test false is = ap (λ l. is_earlier (l ++ more) (has bits)) (left k n is)

    pub all_skipped : (n k : ℕ) (more : List (ℕ × ℕ)) → ((i : ℕ) → differs_at run bits i ≡ false) → is_earlier (pairs_from run k n ++ more) (has bits) ≡ is_earlier more (has bits)
    all_skipped zero k more same = ap (λ l. is_earlier (l ++ more) (has bits)) (none k)
    all_skipped (suc n) k more same = skip k n more (same k) ∙ all_skipped n (k + 1) more same

    pub first_decides : (n k t : ℕ) (more : List (ℕ × ℕ)) → k ≤ t → t < k + n → differs_at run bits t ≡ true → ((i : ℕ) → i < t → differs_at run bits i ≡ false)
        → is_earlier (pairs_from run k n ++ more) (has bits) ≡ upper t
    first_decides zero k t more above below differ same = absurd (omega arith)
    first_decides (suc n) k t more above below differ same = by_place (cases_eq k t) (λ further. first_decides n (k + 1) t more further (omega (arith, below)) differ same)
      where
        by_place : (k ≡ t) ⊎ (k ≡ t → ⊥) → (k + 1 ≤ t → is_earlier (pairs_from run (k + 1) n ++ more) (has bits) ≡ upper t)
            → is_earlier (pairs_from run k (suc n) ++ more) (has bits) ≡ upper t
        by_place (inl is) later =
            let here = parts (has_at run k) (beq (lower k) (upper k)) (ap (differs_at run bits) is ∙ differ) in
            ap (λ l. is_earlier (l ++ more) (has bits)) (taken k n here.0)
            ∙ decide_other (upper k) (lower k) (is_earlier (pairs_from run (k + 1) n ++ more) (has bits)) here.1
            ∙ ap upper is
        by_place (inr other) later = skip k n more (same k (omega (arith, above, other))) ∙ later (omega (arith, above, other))

  -- ---- what they become

  abbrev pub swapped : List Bool → ℕ → List Bool
  swapped bits k = slice_set (slice_set bits (run.lower + k) (has bits (run.upper + k))) (run.upper + k) (has bits (run.lower + k))

  stays : (bits : List Bool) (k : ℕ) → has bits (run.upper + k) ≡ has bits (run.lower + k) → swapped bits k ≡ bits
  stays bits k same =
      ap (λ b. slice_set (slice_set bits (run.lower + k) b) (run.upper + k) (has bits (run.lower + k))) same
      ∙ ap (λ (l : List Bool). slice_set l (run.upper + k) (has bits (run.lower + k))) (set-get_or bits (run.lower + k) false)
      ∙ ap (slice_set bits (run.upper + k)) (sym same)
      ∙ set-get_or bits (run.upper + k) false

  module _ (bits : List Bool) where
    kept : (k n : ℕ) → differs_at run bits k ≡ false → with_swapped (pairs_from run k (suc n)) bits ≡ with_swapped (pairs_from run (k + 1) n) bits
    kept k n same = by_test (has_at run k) refl
      where
        by_test : (b : Bool) → has_at run k ≡ b → with_swapped (pairs_from run k (suc n)) bits ≡ with_swapped (pairs_from run (k + 1) n) bits
        by_test true is =
            ap (λ l. with_swapped l bits) (taken k n is)
            ∙ ap (with_swapped (pairs_from run (k + 1) n)) (stays bits k (are_same (has bits (run.upper + k)) (has bits (run.lower + k)) (alike (has_at run k) (beq (has bits (run.lower + k)) (has bits (run.upper + k))) is same)))
        by_test false is = ap (λ l. with_swapped l bits) (left k n is)

    pub none_kept : (k : ℕ) → with_swapped (pairs_from run k 0) bits ≡ bits
    none_kept k = ap (λ l. with_swapped l bits) (none k)

    -- no pair at a place from this one on differs
    pub all_kept : (n k : ℕ) → ((i : ℕ) → k ≤ i → differs_at run bits i ≡ false) → with_swapped (pairs_from run k n) bits ≡ bits
    all_kept zero k same = none_kept k
    all_kept (suc n) k same = kept k n (same k (omega arith)) ∙ all_kept n (k + 1) (λ i further. same i (omega (arith, further)))

    -- the first that does is at this place
    pub first_swapped : (n k t m : ℕ) → k ≤ t → (t + 1) + m ≡ k + n → differs_at run bits t ≡ true → ((i : ℕ) → k ≤ i → i < t → differs_at run bits i ≡ false)
        → with_swapped (pairs_from run k n) bits ≡ with_swapped (pairs_from run (t + 1) m) (swapped bits t)
    first_swapped zero k t m above whole differ same = absurd (omega (arith, above, whole))
    first_swapped (suc n) k t m above whole differ same =
        by_place (cases_eq k t) (λ further. first_swapped n (k + 1) t m further (omega (arith, whole)) differ (λ i at. same i (omega (arith, at))))
      where
        by_place : (k ≡ t) ⊎ (k ≡ t → ⊥) → (k + 1 ≤ t → with_swapped (pairs_from run (k + 1) n) bits ≡ with_swapped (pairs_from run (t + 1) m) (swapped bits t))
            → with_swapped (pairs_from run k (suc n)) bits ≡ with_swapped (pairs_from run (t + 1) m) (swapped bits t)
        by_place (inl is) later =
            let here = parts (has_at run k) (beq (has bits (run.lower + k)) (has bits (run.upper + k))) (ap (differs_at run bits) is ∙ differ) in
            let as_many : n ≡ m = omega (arith, whole, is) in
            ap (λ l. with_swapped l bits) (taken k n here.0)
            ∙ (λ i. with_swapped (pairs_from run (is i + 1) (as_many i)) (swapped bits (is i)))
        by_place (inr other) later = kept k n (same k (omega arith) (omega (arith, above, other))) ∙ later (omega (arith, above, other))
