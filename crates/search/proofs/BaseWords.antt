-- The list in which values are kept.
use Rattle.std.proofs.Common.{◌≡◌, ◌≢◌, ℕ, zero, suc, ◌<◌, ◌≤◌, List, [], ◌∷◌, ◌++◌, length, set, get_or, refl, ap, ◌∙◌, arith}
use Rattle.search.specs.declared.bases.Bases.{Bases}
use Rattle.search.specs.OnDemand.{noted_at, IsNoted}

-- the number that is read past the end may as well stand there
pub get_or-pushed : (xs : List ℕ) (d k : ℕ) → get_or (xs ++ d ∷ []) k d ≡ get_or xs k d
get_or-pushed [] d zero = refl
get_or-pushed [] d (suc k) = refl
get_or-pushed (x ∷ xs) d zero = refl
get_or-pushed (x ∷ xs) d (suc k) = get_or-pushed xs d k

get_or-past : (xs : List ℕ) (d k : ℕ) → length xs ≤ k → get_or xs k d ≡ d
get_or-past [] d k past = refl
get_or-past (x ∷ xs) d zero past = absurd (omega arith)
get_or-past (x ∷ xs) d (suc k) past = get_or-past xs d k (omega arith)

get_or-put : (xs : List ℕ) (d i y : ℕ) → i < length xs → get_or (set xs i y) i d ≡ y
get_or-put [] d i y within = absurd (omega arith)
get_or-put (x ∷ xs) d zero y within = refl
get_or-put (x ∷ xs) d (suc i) y within = get_or-put xs d i y (omega arith)

get_or-left : (xs : List ℕ) (d i y k : ℕ) → k ≢ i → get_or (set xs i y) k d ≡ get_or xs k d
get_or-left [] d i y k other = refl
get_or-left (x ∷ xs) d zero y zero other = absurd (other refl)
get_or-left (x ∷ xs) d zero y (suc k) other = refl
get_or-left (x ∷ xs) d (suc i) y zero other = refl
get_or-left (x ∷ xs) d (suc i) y (suc k) other = get_or-left xs d i y k (λ is. other (ap suc is))

-- a value is set, over values that may have grown
pub noted_set : (old grown new : Bases) (place value : ℕ) → ((k : ℕ) → noted_at grown k ≡ noted_at old k) → place < length grown.values.items → new.values.items ≡ set grown.values.items place value
    → IsNoted old new place value
noted_set old grown new place value same within values = record {
  here = ap (λ (vs : List ℕ). get_or vs place 0) values ∙ get_or-put grown.values.items 0 place value within;
  others = λ k other. ap (λ (vs : List ℕ). get_or vs k 0) values ∙ get_or-left grown.values.items 0 place value k other ∙ same k;
}

-- past the last value 0 is kept
pub noted_past : (bases : Bases) (place value : ℕ) → value ≡ 0 → length bases.values.items ≤ place → IsNoted bases bases place value
noted_past bases place value is past = record { here = omega (arith, get_or-past bases.values.items 0 place past, is); others = λ _ _. refl }

pub none_noted : (bases : Bases) → bases.values.items ≡ [] → (place : ℕ) → noted_at bases place ≡ 0
none_noted bases none place = ap (λ (vs : List ℕ). get_or vs place 0) none

pub noted_same : (old new : Bases) (place : ℕ) → new.values.items ≡ old.values.items → noted_at new place ≡ noted_at old place
noted_same old new place values = ap (λ (vs : List ℕ). get_or vs place 0) values

pub values_grown : (old new : Bases) (place : ℕ) → new.values.items ≡ old.values.items ++ 0 ∷ [] → noted_at new place ≡ noted_at old place
values_grown old new place values = ap (λ (vs : List ℕ). get_or vs place 0) values ∙ get_or-pushed old.values.items 0 place
