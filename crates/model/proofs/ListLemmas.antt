-- The elements of lists made by `map`, `flat_map`, `filter_map` and ranges.
use Rattle.std.proofs.Common.{◌≡◌, ℕ, zero, suc, add-one, ◌+◌, ◌<◌, ◌≤◌, ◌⊎◌, inl, inr, Bool, true, false, true≢false, List, [], ◌∷◌, length, map, drop, Option, None, Some, refl, sym, ap, ◌∙◌, subst, arith}
use Rattle.std.specs.Prelude.{Contains, cond, filter, slice_get}
use Rattle.std.specs.List.{flat_map, filter_map, range_with_len, cons_option}
use Rattle.std.proofs.lemmas.Bool.{cases_eq}
use Rattle.std.proofs.lemmas.Option.{slice_get_within, slice_get_read, get_or_from_slice_get}
use Rattle.std.proofs.lemmas.List.Elements.{Contains-append_left, Contains-append_right, Contains-append_cases}

pub Contains-here : {X : Type 0} (x : X) (xs : List X) → Contains (x ∷ xs) x
Contains-here x xs = (0, omega arith, refl)

pub Contains-there : {X : Type 0} (x : X) (xs : List X) (y : X) → Contains xs y → Contains (x ∷ xs) y
Contains-there x xs y at = (suc at.0, omega (arith, at.1), at.2)

pub Contains-cases : {X : Type 0} (x : X) (xs : List X) (y : X) → Contains (x ∷ xs) y → (x ≡ y) ⊎ Contains xs y
Contains-cases x xs y (zero, below, is) = inl is
Contains-cases x xs y (suc k, below, is) = inr (k, omega (arith, below), is)

pub Contains-none : {X : Type 0} (y : X) → Contains [] y → ⊥
Contains-none y at = absurd (omega (arith, at.1))

pub Contains-got : {X : Type 0} (xs : List X) (i : ℕ) (x : X) → slice_get xs i ≡ Some x → Contains xs x
Contains-got xs i x at = (i, slice_get_within xs i x at, get_or_from_slice_get xs i x x at)

pub Contains-place : {X : Type 0} (xs : List X) (x : X) → Contains xs x → (i : ℕ) × (slice_get xs i ≡ Some x)
Contains-place xs x at = (at.0, slice_get_read xs (length xs) at.0 x refl at.1 (sym at.2))

pub Contains-map : {X Y : Type 0} (f : X → Y) (xs : List X) (x : X) → Contains xs x → Contains (map f xs) (f x)
Contains-map f [] x at = absurd (Contains-none x at)
Contains-map f (first ∷ xs) x at =
    elim (Contains-cases first xs x at) [
      | inl is ↦ subst (λ y. Contains (f first ∷ map f xs) y) (ap f is) (Contains-here (f first) (map f xs))
      | inr later ↦ Contains-there (f first) (map f xs) (f x) (Contains-map f xs x later)
    ]

pub map-Contains : {X Y : Type 0} (f : X → Y) (xs : List X) (y : Y) → Contains (map f xs) y → (x : X) × Contains xs x × (f x ≡ y)
map-Contains f [] y at = absurd (Contains-none y at)
map-Contains f (first ∷ xs) y at =
    elim (Contains-cases (f first) (map f xs) y at) [
      | inl is ↦ (first, Contains-here first xs, is)
      | inr later ↦ let rest = map-Contains f xs y later in (rest.0, Contains-there first xs rest.0 rest.1, rest.2)
    ]

pub Contains-flat_map : {X Y : Type 0} (f : X → List Y) (xs : List X) (x : X) (y : Y) → Contains xs x → Contains (f x) y → Contains (flat_map f xs) y
Contains-flat_map f [] x y at among = absurd (Contains-none x at)
Contains-flat_map f (first ∷ xs) x y at among =
    elim (Contains-cases first xs x at) [
      | inl is ↦ Contains-append_left (f first) (flat_map f xs) y (subst (λ z. Contains (f z) y) (sym is) among)
      | inr later ↦ Contains-append_right (f first) (flat_map f xs) y (Contains-flat_map f xs x y later among)
    ]

pub flat_map-Contains : {X Y : Type 0} (f : X → List Y) (xs : List X) (y : Y) → Contains (flat_map f xs) y → (x : X) × Contains xs x × Contains (f x) y
flat_map-Contains f [] y at = absurd (Contains-none y at)
flat_map-Contains f (first ∷ xs) y at =
    elim (Contains-append_cases (f first) (flat_map f xs) y at) [
      | inl among ↦ (first, Contains-here first xs, among)
      | inr later ↦ let rest = flat_map-Contains f xs y later in (rest.0, Contains-there first xs rest.0 rest.1, rest.2)
    ]

Contains-cons_option : {Y : Type 0} (o : Option Y) (ys : List Y) (y : Y) → Contains ys y → Contains (cons_option o ys) y
Contains-cons_option None ys y at = at
Contains-cons_option (Some z) ys y at = Contains-there z ys y at

pub Contains-filter_map : {X Y : Type 0} (h : X → Option Y) (xs : List X) (x : X) (y : Y) → Contains xs x → h x ≡ Some y → Contains (filter_map h xs) y
Contains-filter_map h [] x y at gives = absurd (Contains-none x at)
Contains-filter_map h (first ∷ xs) x y at gives =
    elim (Contains-cases first xs x at) [
      | inl is ↦ subst (λ o. Contains (cons_option o (filter_map h xs)) y) (sym (ap h is ∙ gives)) (Contains-here y (filter_map h xs))
      | inr later ↦ Contains-cons_option (h first) (filter_map h xs) y (Contains-filter_map h xs x y later gives)
    ]

pub filter_map-Contains : {X Y : Type 0} (h : X → Option Y) (xs : List X) (y : Y) → Contains (filter_map h xs) y → (x : X) × Contains xs x × (h x ≡ Some y)
filter_map-Contains h [] y at = absurd (Contains-none y at)
filter_map-Contains {X} {Y} h (first ∷ xs) y at =
    elim (h first) as (λ o. h first ≡ o → Contains (cons_option o (filter_map h xs)) y → (x : X) × Contains (first ∷ xs) x × (h x ≡ Some y)) [
      | None ↦ λ _ later. let rest = filter_map-Contains h xs y later in (rest.0, Contains-there first xs rest.0 rest.1, rest.2)
      | Some z ↦ λ gives among.
          elim (Contains-cases z (filter_map h xs) y among) [
            | inl is ↦ (first, Contains-here first xs, gives ∙ ap Some is)
            | inr later ↦ let rest = filter_map-Contains h xs y later in (rest.0, Contains-there first xs rest.0 rest.1, rest.2)
          ]
    ] refl at

pub Contains-filter : {X : Type 0} (p : X → Bool) (xs : List X) (x : X) → Contains xs x → p x ≡ true → Contains (filter p xs) x
Contains-filter p [] x at passes = absurd (Contains-none x at)
Contains-filter p (y ∷ xs) x at passes =
    elim (p y) as (λ t. p y ≡ t → Contains (cond t (y ∷ filter p xs) (filter p xs)) x) [
      | true ↦ λ _. elim (Contains-cases y xs x at) [
        | inl is ↦ subst (λ z. Contains (y ∷ filter p xs) z) is (Contains-here y (filter p xs))
        | inr later ↦ Contains-there y (filter p xs) x (Contains-filter p xs x later passes)
      ]
      | false ↦ λ fails. elim (Contains-cases y xs x at) [
        | inl is ↦ absurd (true≢false (sym passes ∙ ap p (sym is) ∙ fails))
        | inr later ↦ Contains-filter p xs x later passes
      ]
    ] refl

pub filter-Contains : {X : Type 0} (p : X → Bool) (xs : List X) (x : X) → Contains (filter p xs) x → Contains xs x × (p x ≡ true)
filter-Contains p [] x at = absurd (Contains-none x at)
filter-Contains p (y ∷ xs) x at =
    elim (p y) as (λ t. p y ≡ t → Contains (cond t (y ∷ filter p xs) (filter p xs)) x → Contains (y ∷ xs) x × (p x ≡ true)) [
      | true ↦ λ passes among. elim (Contains-cases y (filter p xs) x among) [
        | inl is ↦ (subst (λ z. Contains (y ∷ xs) z) is (Contains-here y xs), subst (λ z. p z ≡ true) is passes)
        | inr later ↦ let rest = filter-Contains p xs x later in (Contains-there y xs x rest.0, rest.1)
      ]
      | false ↦ λ _ later. let rest = filter-Contains p xs x later in (Contains-there y xs x rest.0, rest.1)
    ] refl at

pub Contains-range : (from n k : ℕ) → from ≤ k → k < from + n → Contains (range_with_len from n) k
Contains-range from zero k least below = absurd (omega arith)
Contains-range from (suc n) k least below =
    elim (cases_eq from k) [
      | inl is ↦ subst (λ j. Contains (range_with_len from (suc n)) j) is (Contains-here from (range_with_len (from + 1) n))
      | inr other ↦ Contains-there from (range_with_len (from + 1) n) k (Contains-range (from + 1) n k (omega arith) (omega arith))
    ]

pub range-Contains : (from n k : ℕ) → Contains (range_with_len from n) k → (from ≤ k) × (k < from + n)
range-Contains from zero k at = absurd (Contains-none k at)
range-Contains from (suc n) k at =
    elim (Contains-cases from (range_with_len (from + 1) n) k at) [
      | inl is ↦ (omega arith, omega arith)
      | inr later ↦ let rest = range-Contains (from + 1) n k later in (omega (arith, rest.0), omega (arith, rest.1))
    ]

-- the rest from an element on, and past the last one
pub drop-here : {X : Type 0} (xs : List X) (k : ℕ) (x : X) → slice_get xs k ≡ Some x → drop k xs ≡ x ∷ drop (k + 1) xs
drop-here [] k x at = absurd (cc)
drop-here (y ∷ xs) zero x at = let same : y ≡ x = cc in ap (λ z. z ∷ xs) same
drop-here (y ∷ xs) (suc k) x at = drop-here xs k x at ∙ ap (λ n. x ∷ drop n xs) (add-one k) ∙ ap (λ n. x ∷ drop n (y ∷ xs)) (sym (add-one (suc k)))

pub drop-absent : {X : Type 0} (xs : List X) (k : ℕ) → slice_get xs k ≡ None → drop k xs ≡ []
drop-absent [] zero at = refl
drop-absent [] (suc k) at = refl
drop-absent (y ∷ xs) zero at = absurd (cc)
drop-absent (y ∷ xs) (suc k) at = drop-absent xs k at
