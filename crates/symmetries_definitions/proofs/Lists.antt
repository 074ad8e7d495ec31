-- Tests passed by all elements of a list, and by some.
use Rattle.std.proofs.Common.{◌≡◌, ◌∙◌, inl, inr, Bool, true, false, not, ◌&&◌, ◌||◌, List, [], ◌∷◌, map, Some, refl, sym, ap, subst}
use Rattle.std.specs.Prelude.{Contains, cond}
use Rattle.std.specs.List.{list_all, list_any, flat_map, find}
use Rattle.std.proofs.lemmas.Bool.{and_parts, and_from, or_cases, or_left, or_right}
use Rattle.std.proofs.lemmas.List.Folds.{list_any-append}
use Rattle.model.proofs.ListLemmas.{Contains-here, Contains-there, Contains-cases, Contains-none}

-- two equivalent tests
pub tests_alike : (b c : Bool) → (b ≡ true → c ≡ true) → (c ≡ true → b ≡ true) → b ≡ c
tests_alike true c forth back = sym (forth refl)
tests_alike false true forth back = back refl
tests_alike false false forth back = refl

pub all-at : {X : Type 0} (p : X → Bool) (xs : List X) (x : X) → list_all p xs ≡ true → Contains xs x → p x ≡ true
all-at p [] x all at = absurd (Contains-none x at)
all-at p (first ∷ xs) x all at =
    let parts = and_parts (p first) (list_all p xs) all in
    elim (Contains-cases first xs x at) [
      | inl is ↦ subst (λ y. p y ≡ true) is parts.0
      | inr later ↦ all-at p xs x parts.1 later
    ]

pub all-from : {X : Type 0} (p : X → Bool) (xs : List X) → ((x : X) → Contains xs x → p x ≡ true) → list_all p xs ≡ true
all-from p [] each = refl
all-from p (x ∷ xs) each = and_from (p x) (list_all p xs) (each x (Contains-here x xs)) (all-from p xs (λ y at. each y (Contains-there x xs y at)))

pub any-at : {X : Type 0} (p : X → Bool) (xs : List X) (x : X) → Contains xs x → p x ≡ true → list_any p xs ≡ true
any-at p [] x at passes = absurd (Contains-none x at)
any-at p (first ∷ xs) x at passes =
    elim (Contains-cases first xs x at) [
      | inl is ↦ or_left (p first) (list_any p xs) (ap p is ∙ passes)
      | inr later ↦ or_right (p first) (list_any p xs) (any-at p xs x later passes)
    ]

pub any-found : {X : Type 0} (p : X → Bool) (xs : List X) → list_any p xs ≡ true → (x : X) × Contains xs x × (p x ≡ true)
any-found p [] is = absurd (cc)
any-found p (x ∷ xs) is =
    elim (or_cases (p x) (list_any p xs) is) [
      | inl here ↦ (x, Contains-here x xs, here)
      | inr later ↦ let rest = any-found p xs later in (rest.0, Contains-there x xs rest.0 rest.1, rest.2)
    ]

pub any-map : {X Y : Type 0} (p : Y → Bool) (h : X → Y) (xs : List X) → list_any p (map h xs) ≡ list_any (λ x. p (h x)) xs
any-map p h [] = refl
any-map p h (x ∷ xs) = ap (λ b. p (h x) || b) (any-map p h xs)

pub any-flat_map : {X Y : Type 0} (p : Y → Bool) (f : X → List Y) (xs : List X) → list_any p (flat_map f xs) ≡ list_any (λ x. list_any p (f x)) xs
any-flat_map p f [] = refl
any-flat_map p f (x ∷ xs) = list_any-append p (f x) (flat_map f xs) ∙ ap (λ b. list_any p (f x) || b) (any-flat_map p f xs)

pub any-alike : {X : Type 0} (p q : X → Bool) → ((x : X) → p x ≡ q x) → (xs : List X) → list_any p xs ≡ list_any q xs
any-alike p q same xs = ap (λ (r : _ → Bool). list_any r xs) (λ i x. same x i)

one_fails : (b c : Bool) → (b && not c) ≡ not (not b || c)
one_fails true c = refl
one_fails false c = refl

-- all pass if none fails
pub all-none_fails : {X : Type 0} (p : X → Bool) (xs : List X) → list_all p xs ≡ not (list_any (λ x. not (p x)) xs)
all-none_fails p [] = refl
all-none_fails p (x ∷ xs) = ap (λ b. p x && b) (all-none_fails p xs) ∙ one_fails (p x) (list_any (λ y. not (p y)) xs)

-- the result of a search is in the list, and passes
pub found-at : {X : Type 0} (p : X → Bool) (xs : List X) (x : X) → find p xs ≡ Some x → Contains xs x × (p x ≡ true)
found-at p [] x is = absurd (cc)
found-at p (y ∷ xs) x is =
    elim (p y) as (λ t. p y ≡ t → cond t (Some y) (find p xs) ≡ Some x → Contains (y ∷ xs) x × (p x ≡ true)) [
      | true ↦ λ passes here. let same : y ≡ x = cc in (subst (λ z. Contains (y ∷ xs) z) same (Contains-here y xs), ap p (sym same) ∙ passes)
      | false ↦ λ _ later. let rest = found-at p xs x later in (Contains-there y xs x rest.0, rest.1)
    ] refl is
