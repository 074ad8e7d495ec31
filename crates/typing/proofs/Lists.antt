-- Indices and elements of lists derived from other lists.
use Rattle.std.proofs.Common.{◌≡◌, ℕ, ◌+◌, ◌≤◌, ◌<◌, Bool, true, false, not, cond, ◌||◌, List, [], ◌∷◌, map, length, refl, ap, sym, ◌∙◌, arith, nat_lt, None, Some, zero, suc, take, drop, get_or, ◌++◌}
use Rattle.std.proofs.lemmas.List.{length-map, map_push, map_more}
use Rattle.std.specs.List.{list_any, position, position_or_len}
use Rattle.std.proofs.lemmas.Bool.Decides.{nat_tests}
pub use Rattle.task.proofs.Lists.{position_or_len-map, list_any-map, any_same, filter_range_more, kept_so, kept_not, position-map, list_all-map}

-- one more of a list of the same
pub same_more : {X Z : Type 0} (z : Z) (xs : List X) (i : ℕ) → i < length xs → map (λ _. z) (take (i + 1) xs) ≡ map (λ _. z) (take i xs) ++ z ∷ []
same_more z [] i l = absurd (omega (arith, l))
same_more z (x ∷ xs) i l = map_more (λ _. z) (x ∷ xs) i x l

-- some element passes if the first that does is within the list
pub list_any-position : {X : Type 0} (p : X → Bool) (xs : List X) → list_any p xs ≡ nat_lt (position_or_len p xs) (length xs)
list_any-position p [] = refl
list_any-position p (x ∷ xs) = by (p x) (list_any-position p xs)
  where
    by : (b : Bool) → list_any p xs ≡ nat_lt (position_or_len p xs) (length xs) → (b || list_any p xs) ≡ nat_lt (cond (not b) (1 + position_or_len p xs) 0) (length (x ∷ xs))
    by true e = grind (arith, nat_tests)
    by false e = e ∙ (grind (arith, nat_tests))

pub position_or_len-le : {X : Type 0} (p : X → Bool) (xs : List X) → position_or_len p xs ≤ length xs
position_or_len-le p [] = omega arith
position_or_len-le p (x ∷ xs) = by (p x) (position_or_len-le p xs)
  where
    by : (b : Bool) → position_or_len p xs ≤ length xs → cond (not b) (1 + position_or_len p xs) 0 ≤ length (x ∷ xs)
    by true e = omega arith
    by false e = omega arith

-- the result of a search for an index
pub position-found : {X : Type 0} (p : X → Bool) (xs : List X) (i : ℕ) → Some i ≡ position p xs → (i ≡ position_or_len p xs) × (list_any p xs ≡ true)
position-found p xs i e = by (nat_lt (position_or_len p xs) (length xs)) e (list_any-position p xs)
  where
    by : (b : Bool) → Some i ≡ cond b (Some (position_or_len p xs)) None → list_any p xs ≡ b → (i ≡ position_or_len p xs) × (list_any p xs ≡ true)
    by true e is = (cc, is)
    by false e is = absurd (cc)

pub position-missing : {X : Type 0} (p : X → Bool) (xs : List X) → None ≡ position p xs → (length xs ≡ position_or_len p xs) × (list_any p xs ≡ false)
position-missing p xs e = by (nat_lt (position_or_len p xs) (length xs)) refl e (list_any-position p xs)
  where
    by : (b : Bool) → nat_lt (position_or_len p xs) (length xs) ≡ b → None ≡ cond b (Some (position_or_len p xs)) None → list_any p xs ≡ b → (length xs ≡ position_or_len p xs) × (list_any p xs ≡ false)
    by true t e is = absurd (cc)
    by false t e is = (let low = position_or_len-le p xs in grind (arith, nat_tests), is)

-- the element after this many
pub one_after-at : {X Y : Type 0} (f : X → Y) (xs : List X) (n : ℕ) (x : X) → n < length xs → x ≡ get_or xs n x → take 1 (drop n (map f xs)) ≡ f x ∷ []
one_after-at f [] n x l e = absurd (omega (arith, l))
one_after-at f (y ∷ ys) zero x l e = ap (λ z. f z ∷ []) (sym e)
one_after-at f (y ∷ ys) (suc n) x l e = one_after-at f ys n x (omega (arith, l)) e

-- the first elements of a list that grows
pub take-push : {X : Type 0} (n : ℕ) (xs : List X) (x : X) → length (take n xs) < n → take n (xs ++ x ∷ []) ≡ take n xs ++ x ∷ []
take-push zero xs x h = absurd (omega (arith, h))
take-push (suc n) [] x h = ap (λ ys. x ∷ ys) (take-nil n)
  where
    take-nil : {X : Type 0} (n : ℕ) → take {A = X} n [] ≡ []
    take-nil zero = refl
    take-nil (suc n) = refl
take-push (suc n) (y ∷ ys) x h = ap (λ zs. y ∷ zs) (take-push n ys x (omega (arith, h)))

pub take-full : {X : Type 0} (n : ℕ) (xs : List X) (x : X) → n ≤ length (take n xs) → take n (xs ++ x ∷ []) ≡ take n xs
take-full zero xs x h = refl
take-full (suc n) [] x h = absurd (omega (arith, h))
take-full (suc n) (y ∷ ys) x h = ap (λ zs. y ∷ zs) (take-full n ys x (omega (arith, h)))

-- a list of the first few elements, as its source grows by one
pub kept_push : {X O N : Type 0} (F : X → N) (view : O → N) (n : ℕ) (xs : List X) (i : ℕ) (d : X) → i < length xs → (items : List O) (o : O) → view o ≡ F (get_or xs i d)
    → map view items ≡ take n (map F (take i xs)) → length items < n → map view (items ++ o ∷ []) ≡ take n (map F (take (i + 1) xs))
kept_push F view n xs i d l items o same kept low =
    map_push view items o ∙ ap (λ r. map view items ++ r ∷ []) same ∙ ap (λ zs. zs ++ F (get_or xs i d) ∷ []) kept
    ∙ sym (take-push n (map F (take i xs)) (F (get_or xs i d)) (omega (arith, ap length kept, length-map items view))) ∙ ap (take n) (sym (map_more F xs i d l))

pub kept_full : {X O N : Type 0} (F : X → N) (view : O → N) (n : ℕ) (xs : List X) (i : ℕ) → i < length xs → (items : List O)
    → map view items ≡ take n (map F (take i xs)) → n ≤ length items → map view items ≡ take n (map F (take (i + 1) xs))
kept_full F view n [] i l items kept high = absurd (omega (arith, l))
kept_full F view n (y ∷ ys) i l items kept high =
    kept ∙ sym (take-full n (map F (take i (y ∷ ys))) (F (get_or (y ∷ ys) i y)) (omega (arith, ap length kept, length-map items view))) ∙ ap (take n) (sym (map_more F (y ∷ ys) i y l))
