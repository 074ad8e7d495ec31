-- What is at a place of a list after an element joins it at its end or takes another's place.
use Rattle.std.proofs.Common.{◌≡◌, ℕ, zero, suc, ◌<◌, ◌≢◌, List, [], ◌∷◌, ◌++◌, length, set, get_or, Some, refl, ap, arith}
use Rattle.std.specs.Prelude.{slice_get}

pub get-push_new : {X : Type 0} (xs : List X) (y : X) → slice_get (xs ++ y ∷ []) (length xs) ≡ Some y
get-push_new [] y = refl
get-push_new (z ∷ xs) y = get-push_new xs y

pub get-push_other : {X : Type 0} (xs : List X) (y : X) (k : ℕ) → k ≢ length xs → slice_get (xs ++ y ∷ []) k ≡ slice_get xs k
get-push_other [] y zero other = absurd (other refl)
get-push_other [] y (suc k) other = refl
get-push_other (z ∷ xs) y zero other = refl
get-push_other (z ∷ xs) y (suc k) other = get-push_other xs y k (λ e. other (ap suc e))

pub get-set_here : {X : Type 0} (xs : List X) (i : ℕ) (y x : X) → slice_get xs i ≡ Some x → slice_get (set xs i y) i ≡ Some y
get-set_here [] i y x at = absurd (cc)
get-set_here (z ∷ xs) zero y x at = refl
get-set_here (z ∷ xs) (suc i) y x at = get-set_here xs i y x at

pub get-set_other : {X : Type 0} (xs : List X) (i : ℕ) (y : X) (k : ℕ) → k ≢ i → slice_get (set xs i y) k ≡ slice_get xs k
get-set_other [] i y k other = refl
get-set_other (z ∷ xs) zero y zero other = absurd (other refl)
get-set_other (z ∷ xs) zero y (suc k) other = refl
get-set_other (z ∷ xs) (suc i) y zero other = refl
get-set_other (z ∷ xs) (suc i) y (suc k) other = get-set_other xs i y k (λ e. other (ap suc e))

pub get_exists : {X : Type 0} (xs : List X) (k : ℕ) → k < length xs → (x : X) × (slice_get xs k ≡ Some x)
get_exists [] k within = absurd (omega arith)
get_exists (z ∷ xs) zero within = (z, refl)
get_exists (z ∷ xs) (suc k) within = get_exists xs k (omega arith)

pub get_there : {X : Type 0} (xs : List X) (k : ℕ) (d : X) → k < length xs → slice_get xs k ≡ Some (get_or xs k d)
get_there [] k d within = absurd (omega arith)
get_there (z ∷ xs) zero d within = refl
get_there (z ∷ xs) (suc k) d within = get_there xs k d (omega arith)
