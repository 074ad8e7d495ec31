-- The greatest of numbers that come one after another.
use Rattle.std.proofs.Common.{◌≡◌, ◌∙◌, inl, inr, List, [], ◌∷◌, ◌++◌, Option, Some, refl, sym, ap, subst, arith, ℤ, pos, ◌≤ℤ◌}
use Rattle.std.specs.Prelude.{Contains, fold}
use Rattle.std.specs.Int.{int_max}
use Rattle.std.specs.Option.{option_map_or}
use Rattle.std.proofs.lemmas.Int.{ints, clamps, fold-int_max_bounds, fold-int_max_reached}
use Rattle.std.proofs.lemmas.List.Elements.{All-contains}
use Rattle.model.proofs.ListLemmas.{Contains-here, Contains-there, Contains-none, Contains-cases}
use Rattle.lower_bounds.specs.FairPotentials.{greatest}
use Rattle.table_rows.specs.Afters.{most_of, raised}

max-assoc : (a b c : ℤ) → int_max (int_max a b) c ≡ int_max a (int_max b c)
max-assoc a b c = omega (arith, ints, clamps)

fold-from : (a b : ℤ) (xs : List ℤ) → fold int_max (int_max a b) xs ≡ int_max a (fold int_max b xs)
fold-from a b [] = refl
fold-from a b (x ∷ xs) = ap (λ z. fold int_max z xs) (max-assoc a b x) ∙ fold-from a (int_max b x) xs

fold-more : (a : ℤ) (xs : List ℤ) (y : ℤ) (ys : List ℤ) → fold int_max a (xs ++ y ∷ ys) ≡ int_max (fold int_max a xs) (fold int_max y ys)
fold-more a [] y ys = fold-from a y ys
fold-more a (x ∷ xs) y ys = fold-more (int_max a x) xs y ys

-- more numbers, of which this is the greatest
pub most-more : (xs ys : List ℤ) (most : ℤ) → most_of ys ≡ Some most → most_of (xs ++ ys) ≡ Some (raised (most_of xs) most)
most-more [] ys most is = is
most-more (x ∷ xs) [] most is = absurd (cc)
most-more (x ∷ xs) (y ∷ ys) most is =
    let same : fold int_max y ys ≡ most = let e = is in cc in
    ap Some (fold-more x xs y ys ∙ ap (int_max (fold int_max x xs)) same)

some_most : (x y : ℤ) → x ≡ y → Some x ≡ Some y
some_most x y is = ap Some is

-- the greatest of a list is one of it, and no number of it is greater
reached : (x : ℤ) (xs : List ℤ) → Contains (x ∷ xs) (fold int_max x xs)
reached x xs = elim (fold-int_max_reached x xs (fold int_max x xs) refl) [
  | inl is ↦ subst (Contains (x ∷ xs)) (sym is) (Contains-here x xs)
  | inr later ↦ Contains-there x xs (fold int_max x xs) later
]

above : (x : ℤ) (xs : List ℤ) (z : ℤ) → Contains (x ∷ xs) z → z ≤ℤ fold int_max x xs
above x xs z at =
    let bounds = fold-int_max_bounds x xs (fold int_max x xs) refl in
    elim (Contains-cases x xs z at) [
      | inl is ↦ subst (λ y. y ≤ℤ fold int_max x xs) is bounds.0
      | inr later ↦ All-contains (λ y. y ≤ℤ fold int_max x xs) xs z bounds.1 later
    ]

-- lists of the same numbers have the same greatest one
pub most-alike : (xs ys : List ℤ) → ((z : ℤ) → Contains xs z → Contains ys z) → ((z : ℤ) → Contains ys z → Contains xs z) → most_of xs ≡ most_of ys
most-alike [] [] into from = refl
most-alike [] (y ∷ ys) into from = absurd (Contains-none y (from y (Contains-here y ys)))
most-alike (x ∷ xs) [] into from = absurd (Contains-none x (into x (Contains-here x xs)))
most-alike (x ∷ xs) (y ∷ ys) into from =
    let low = above y ys (fold int_max x xs) (into (fold int_max x xs) (reached x xs)) in
    let high = above x xs (fold int_max y ys) (from (fold int_max y ys) (reached y ys)) in
    some_most (fold int_max x xs) (fold int_max y ys) (omega (arith, ints))

abbrev pub or_nothing : Option ℤ → ℤ
or_nothing o = option_map_or (λ (z : ℤ). z) o (pos 0)

pub greatest-is : (xs : List ℤ) → greatest xs ≡ or_nothing (most_of xs)
greatest-is [] = refl
greatest-is (x ∷ xs) = refl

-- the greatest lies where all lie
pub most-within : (low high : ℤ) (xs : List ℤ) (most : ℤ) → ((z : ℤ) → Contains xs z → (low ≤ℤ z) × (z ≤ℤ high)) → most_of xs ≡ Some most → (low ≤ℤ most) × (most ≤ℤ high)
most-within low high [] most each is = absurd (cc)
most-within low high (x ∷ xs) most each is =
    let same : fold int_max x xs ≡ most = let e = is in cc in
    subst (λ z. (low ≤ℤ z) × (z ≤ℤ high)) same (each (fold int_max x xs) (reached x xs))
