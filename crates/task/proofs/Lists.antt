-- Indices and elements of lists derived from other lists.
use Rattle.std.proofs.Common.{◌≡◌, ℕ, ◌+◌, Bool, false, true, not, cond, ◌||◌, ◌&&◌, List, [], ◌∷◌, map, length, refl, ap, sym, ◌∙◌, arith, nat_eq, nat_lt, None, Some, ◌++◌}
use Rattle.std.proofs.lemmas.List.{length-map, map_push, map-id, append-nil}
use Rattle.std.specs.Prelude.{filter}
use Rattle.std.specs.List.{list_all, list_any, position, position_or_len, range_with_len}
use Rattle.std.proofs.lemmas.List.FromFn.{filter_of_map_range_with_len_more}
use Rattle.std.proofs.lemmas.Bool.Decides.{nat_tests}

pub position_or_len-map : {X Y : Type 0} (p : Y → Bool) (f : X → Y) (xs : List X) → position_or_len p (map f xs) ≡ position_or_len (λ x. p (f x)) xs
position_or_len-map p f [] = refl
position_or_len-map p f (x ∷ xs) = ap (λ n. cond (not (p (f x))) (1 + n) 0) (position_or_len-map p f xs)

pub list_any-map : {X Y : Type 0} (p : Y → Bool) (f : X → Y) (xs : List X) → list_any p (map f xs) ≡ list_any (λ x. p (f x)) xs
list_any-map p f [] = refl
list_any-map p f (x ∷ xs) = ap (λ b. p (f x) || b) (list_any-map p f xs)

-- whether a number is that of an element, in both directions
pub any_same : {X : Type 0} (number : X → ℕ) (n : ℕ) (xs : List X) → list_any (λ x. nat_eq (number x) n) xs ≡ list_any (nat_eq n) (map number xs)
any_same number n [] = refl
any_same number n (x ∷ xs) = let turned : nat_eq (number x) n ≡ nat_eq n (number x) = grind (arith, nat_tests) in (λ i. turned i || any_same number n xs i)

-- a range that grows by one
pub filter_range_more : (p : ℕ → Bool) (n : ℕ) → filter p (range_with_len 0 (n + 1)) ≡ filter p (range_with_len 0 n) ++ cond (p n) (n ∷ []) []
filter_range_more p n =
    ap (filter p) (sym (map-id (range_with_len 0 (n + 1)))) ∙ filter_of_map_range_with_len_more p (λ k. k) 0 n n (omega arith)
    ∙ ap (λ ks. filter p ks ++ cond (p n) (n ∷ []) []) (map-id (range_with_len 0 n))

-- what is kept of a range that grows by one
pub kept_so : {X : Type 0} (number : X → ℕ) (p : ℕ → Bool) (n : ℕ) (items : List X) (x : X) → number x ≡ n → p n ≡ true → map number items ≡ filter p (range_with_len 0 n)
    → map number (items ++ x ∷ []) ≡ filter p (range_with_len 0 (n + 1))
kept_so number p n items x is so kept =
    map_push number items x ∙ (λ i. kept i ++ is i ∷ []) ∙ ap (λ b. filter p (range_with_len 0 n) ++ cond b (n ∷ []) []) (sym so) ∙ sym (filter_range_more p n)

pub kept_not : {X : Type 0} (number : X → ℕ) (p : ℕ → Bool) (n : ℕ) (items : List X) → p n ≡ false → map number items ≡ filter p (range_with_len 0 n) → map number items ≡ filter p (range_with_len 0 (n + 1))
kept_not number p n items not_so kept =
    kept ∙ sym (append-nil (filter p (range_with_len 0 n))) ∙ ap (λ b. filter p (range_with_len 0 n) ++ cond b (n ∷ []) []) (sym not_so) ∙ sym (filter_range_more p n)

-- a search in a list of names
pub position-map : {X Y : Type 0} (p : Y → Bool) (f : X → Y) (xs : List X) → position (λ x. p (f x)) xs ≡ position p (map f xs)
position-map p f xs =
    (λ i. cond (nat_lt (sym (position_or_len-map p f xs) i) (sym (length-map xs f) i)) (Some (sym (position_or_len-map p f xs) i)) None)

pub list_all-map : {X Y : Type 0} (p : Y → Bool) (f : X → Y) (xs : List X) → list_all p (map f xs) ≡ list_all (λ x. p (f x)) xs
list_all-map p f [] = refl
list_all-map p f (x ∷ xs) = ap (λ b. p (f x) && b) (list_all-map p f xs)

-- two lists that are nothing together
pub nil_left : {X : Type 0} (xs ys : List X) → xs ++ ys ≡ [] → xs ≡ []
nil_left [] ys e = refl
nil_left (x ∷ xs) ys e = absurd (cc)

pub nil_right : {X : Type 0} (xs ys : List X) → xs ++ ys ≡ [] → ys ≡ []
nil_right [] ys e = e
nil_right (x ∷ xs) ys e = absurd (cc)
