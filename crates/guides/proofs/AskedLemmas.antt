-- The instances that are tested, one after another.
use Rattle.std.proofs.Common.{◌≡◌, ◌≢◌, ◌∙◌, ℕ, ◌+◌, ◌<◌, ◌≤◌, inl, inr, Bool, true, false, List, [], ◌∷◌, ◌++◌, Some, sym, ap, arith}
use Rattle.std.specs.Prelude.{◌||◌, ◌==◌, slice_get}
use Rattle.std.proofs.lemmas.Bool.{cases_lt, ne_eqb}
use Rattle.model.specs.Task.{Instance}
use Rattle.lower_bounds.specs.TableFunctions.{is_among}
use Rattle.lower_bounds.proofs.TableLists.{among-here}
use Rattle.landmarks.proofs.AmongLemmas.{among-right}

-- the number at the end is among them
among-new : (xs : List ℕ) (n : ℕ) → is_among (xs ++ n ∷ []) n ≡ true
among-new xs n = among-right xs (n ∷ []) n (among-here n [])

-- and of others those that were before
among-old : (xs : List ℕ) (n k : ℕ) → n ≢ k → is_among (xs ++ n ∷ []) k ≡ is_among xs k
among-old [] n k other = ap (λ b. b || false) (ne_eqb n k other)
among-old (x ∷ xs) n k other = ap (λ b. (x == k) || b) (among-old xs n k other)

module _ (kept : List Instance) (said : Instance → Bool) (old : List ℕ) (number : ℕ) (asked : (k : ℕ) (i : Instance) → k < number → slice_get kept k ≡ Some i → is_among old k ≡ said i)
    (later : (k : ℕ) → number ≤ k → is_among old k ≡ false) where
  -- where it is one of them
  pub asked-with : ((i : Instance) → slice_get kept number ≡ Some i → said i ≡ true) → (k : ℕ) (i : Instance) → k < number + 1 → slice_get kept k ≡ Some i → is_among (old ++ number ∷ []) k ≡ said i
  asked-with is k i below at = elim (cases_lt k number) [
    | inl earlier ↦ among-old old number k (λ same. absurd (omega (arith, same, earlier))) ∙ asked k i earlier at
    | inr past ↦
        let here : k ≡ number = omega (arith, past, below) in
        ap (is_among (old ++ number ∷ [])) here ∙ among-new old number ∙ sym (is i (ap (slice_get kept) (sym here) ∙ at))
  ]

  pub later-with : (k : ℕ) → number + 1 ≤ k → is_among (old ++ number ∷ []) k ≡ false
  later-with k past = among-old old number k (λ same. absurd (omega (arith, same, past))) ∙ later k (omega (arith, past))

  -- and where it is none
  pub asked-without : ((i : Instance) → slice_get kept number ≡ Some i → said i ≡ false) → (k : ℕ) (i : Instance) → k < number + 1 → slice_get kept k ≡ Some i → is_among old k ≡ said i
  asked-without isnt k i below at = elim (cases_lt k number) [
    | inl earlier ↦ asked k i earlier at
    | inr past ↦
        let here : k ≡ number = omega (arith, past, below) in
        later k past ∙ sym (isnt i (ap (slice_get kept) (sym here) ∙ at))
  ]

  pub later-without : (k : ℕ) → number + 1 ≤ k → is_among old k ≡ false
  later-without k past = later k (omega (arith, past))
