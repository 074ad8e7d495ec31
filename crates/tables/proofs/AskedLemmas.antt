-- Numbers among those of a list that gets one more.
use Rattle.std.proofs.Common.{◌≡◌, ◌≢◌, ◌∙◌, ℕ, ◌+◌, ◌<◌, ◌≤◌, true, false, List, [], ◌∷◌, ◌++◌, Bool, refl, ap, sym, subst, arith}
use Rattle.std.specs.Prelude.{◌||◌, ◌==◌}
use Rattle.std.proofs.lemmas.Bool.{ne_eqb, or_right}
use Rattle.lower_bounds.specs.TableFunctions.{is_among}
use Rattle.lower_bounds.proofs.TableLists.{among-here}

-- the new one is among them
pub among-new : (xs : List ℕ) (n : ℕ) → is_among (xs ++ n ∷ []) n ≡ true
among-new [] n = among-here n []
among-new (x ∷ xs) n = or_right (x == n) (is_among (xs ++ n ∷ []) n) (among-new xs n)

-- and of others those that were
pub among-old : (xs : List ℕ) (n k : ℕ) → n ≢ k → is_among (xs ++ n ∷ []) k ≡ is_among xs k
among-old [] n k other = ap (λ b. b || false) (ne_eqb n k other)
among-old (x ∷ xs) n k other = ap (λ b. (x == k) || b) (among-old xs n k other)
