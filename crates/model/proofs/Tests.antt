-- Lists all of whose elements pass a test, element by element.
use Rattle.std.specs.Prelude.{◌≡◌, ℕ, ◌+◌, ◌≤◌, ◌<◌, Bool, true, false, ◌&&◌, List, [], ◌∷◌, length, map, take, slice_get, Some, refl}
use Rattle.std.proofs.Common.{zero, suc, sym, ◌∙◌, ap, subst, get_or, true≢false}
use Rattle.std.specs.Cmp.{first_so, second_so}
use Rattle.std.specs.List.{list_all}
use Rattle.std.proofs.lemmas.Option.{none-some, same_Some}
use Rattle.std.proofs.lemmas.List.{take_all}
use Rattle.std.proofs.lemmas.List.Folds.{list_all_more, list_all_at}

module _ {X : Type 0} (p : X → Bool) where
  passes_or_not : (b c : Bool) → (b ≡ false → c ≡ false) → c ≡ true → b ≡ true
  passes_or_not true c f e = refl
  passes_or_not false c f e = absurd (true≢false (sym e ∙ f refl))

  -- an element of a list all of whose elements pass
  pub passes_index : (xs : List X) (i : ℕ) (d : X) → i < length xs → list_all p xs ≡ true → p (get_or xs i d) ≡ true
  passes_index xs i d lt all = passes_or_not (p (get_or xs i d)) (list_all p xs) (list_all_at p xs i d lt) all

  pub passes_at : (xs : List X) (i : ℕ) (x : X) → i < length xs → x ≡ get_or xs i x → list_all p xs ≡ true → p x ≡ true
  passes_at xs i x lt at all = subst (λ y. p y ≡ true) (sym at) (passes_index xs i x lt all)

  -- one more element that passes
  pub passes_more : (xs : List X) (i : ℕ) (x : X) → i < length xs → x ≡ get_or xs i x → list_all p (take i xs) ≡ true → p x ≡ true → list_all p (take (i + 1) xs) ≡ true
  passes_more xs i x lt at before here =
      list_all_more p xs i x lt ∙ (λ j. before j && subst (λ y. p y ≡ true) at here j)

  pub passes_more_index : (xs : List X) (i : ℕ) (d : X) → i < length xs → list_all p (take i xs) ≡ true → p (get_or xs i d) ≡ true → list_all p (take (i + 1) xs) ≡ true
  passes_more_index xs i d lt before here = list_all_more p xs i d lt ∙ (λ j. before j && here j)

  -- one element that does not pass
  pub passes_not_index : (xs : List X) (i : ℕ) (d : X) → i < length xs → p (get_or xs i d) ≡ false → false ≡ list_all p xs
  passes_not_index xs i d lt here = sym (list_all_at p xs i d lt here)

  pub passes_not : (xs : List X) (i : ℕ) (x : X) → i < length xs → x ≡ get_or xs i x → p x ≡ false → false ≡ list_all p xs
  passes_not xs i x lt at here = sym (list_all_at p xs i x lt (subst (λ y. p y ≡ false) at here))

  -- all elements have passed
  pub passes_whole : (xs : List X) (i : ℕ) → length xs ≤ i → list_all p (take i xs) ≡ true → true ≡ list_all p xs
  passes_whole xs i past before = sym before ∙ ap (list_all p) (take_all i xs past)

pub passes_map : {X Y : Type 0} (p : Y → Bool) (f : X → Y) (xs : List X) → list_all p (map f xs) ≡ list_all (λ x. p (f x)) xs
passes_map p f [] = refl
passes_map p f (x ∷ xs) = ap (λ b. p (f x) && b) (passes_map p f xs)

-- a weaker test
pub passes_weaker : {X : Type 0} (p q : X → Bool) → ((x : X) → p x ≡ true → q x ≡ true) → (xs : List X) → list_all p xs ≡ true → list_all q xs ≡ true
passes_weaker p q weaker [] all = refl
passes_weaker p q weaker (x ∷ xs) all =
    λ i. weaker x (first_so (p x) (list_all p xs) all) i && passes_weaker p q weaker xs (second_so (p x) (list_all p xs) all) i

-- an element found by a look-up
pub passes_got : {X : Type 0} (p : X → Bool) (xs : List X) (k : ℕ) (x : X) → slice_get xs k ≡ Some x → list_all p xs ≡ true → p x ≡ true
passes_got p [] k x got all = absurd (none-some x got)
passes_got p (y ∷ xs) zero x got all = ap p (sym (same_Some y x got)) ∙ first_so (p y) (list_all p xs) all
passes_got p (y ∷ xs) (suc k) x got all = passes_got p xs k x got (second_so (p y) (list_all p xs) all)
