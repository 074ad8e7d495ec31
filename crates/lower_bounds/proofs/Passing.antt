-- Tests passed by some element of a list.
use Rattle.std.proofs.Common.{◌≡◌, Bool, true, false, true≢false, ◌||◌, inl, inr, List, [], ◌∷◌, Option, None, Some, refl, sym, ap}
use Rattle.std.specs.List.{list_any, list_all, filter_map, cons_option}
use Rattle.std.specs.Option.{option_map_or}
use Rattle.std.proofs.lemmas.Bool.{and_parts, or_cases, or_left, or_right}

pub any-filter_map : {X Y : Type 0} (p : Y → Bool) (h : X → Option Y) (xs : List X) → list_any p (filter_map h xs) ≡ list_any (λ x. option_map_or p (h x) false) xs
any-filter_map p h [] = refl
any-filter_map p h (x ∷ xs) =
    let rest = any-filter_map p h xs in
    elim (h x) as (λ o. list_any p (cons_option o (filter_map h xs)) ≡ (option_map_or p o false || list_any (λ x. option_map_or p (h x) false) xs)) [
      | None ↦ rest
      | Some y ↦ ap (λ b. p y || b) rest
    ]

-- an element that passes one test also passes the other
pub any-weaker : {X : Type 0} (p q : X → Bool) → ((x : X) → p x ≡ true → q x ≡ true) → (xs : List X) → list_any p xs ≡ true → list_any q xs ≡ true
any-weaker p q passes [] none = absurd (true≢false (sym none))
any-weaker p q passes (x ∷ xs) some =
    elim (or_cases (p x) (list_any p xs) some) [
      | inl here ↦ or_left (q x) (list_any q xs) (passes x here)
      | inr later ↦ or_right (q x) (list_any q xs) (any-weaker p q passes xs later)
    ]

-- for two tests
pub any-either : {X : Type 0} (p q r : X → Bool) → ((x : X) → p x ≡ true → (q x || r x) ≡ true) → (xs : List X) → list_any p xs ≡ true → (list_any q xs || list_any r xs) ≡ true
any-either p q r passes [] none = absurd (true≢false (sym none))
any-either p q r passes (x ∷ xs) some =
    elim (or_cases (p x) (list_any p xs) some) [
      | inl here ↦ elim (or_cases (q x) (r x) (passes x here)) [
        | inl left ↦ or_left (q x || list_any q xs) (r x || list_any r xs) (or_left (q x) (list_any q xs) left)
        | inr right ↦ or_right (q x || list_any q xs) (r x || list_any r xs) (or_left (r x) (list_any r xs) right)
      ]
      | inr later ↦ elim (or_cases (list_any q xs) (list_any r xs) (any-either p q r passes xs later)) [
        | inl left ↦ or_left (q x || list_any q xs) (r x || list_any r xs) (or_right (q x) (list_any q xs) left)
        | inr right ↦ or_right (q x || list_any q xs) (r x || list_any r xs) (or_right (r x) (list_any r xs) right)
      ]
    ]

-- if all pass one test and some pass another, some pass both
pub all-any : {X : Type 0} (p q : X → Bool) (xs : List X) → list_all p xs ≡ true → list_any q xs ≡ true → (x : X) × (p x ≡ true) × (q x ≡ true)
all-any p q [] all none = absurd (true≢false (sym none))
all-any p q (x ∷ xs) all some =
    let parts = and_parts (p x) (list_all p xs) all in
    elim (or_cases (q x) (list_any q xs) some) [
      | inl here ↦ (x, parts.0, here)
      | inr later ↦ all-any p q xs parts.1 later
    ]
