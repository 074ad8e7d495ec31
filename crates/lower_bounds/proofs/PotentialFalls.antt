-- Upper bounds of how much a score falls from one packed state to another, and of the score in goal states. Stated for numbered
-- literals and changes of any task.
use Rattle.std.proofs.Common.{◌≡◌, ℕ, ◌+◌, ◌<◌, ◌≤◌, inl, inr, Bool, true, false, List, [], ◌∷◌, length, get_or, refl, ap, subst, arith, ℤ, pos, negsuc, ◌+ℤ◌, ◌≤ℤ◌}
use Rattle.std.specs.Prelude.{Contains, if◌then◌else◌, map, fold}
use Rattle.std.specs.Int.{int_max}
use Rattle.std.proofs.lemmas.Int.{ints, clamps, fold-int_max_bounds}
use Rattle.std.proofs.lemmas.List.Elements.{All-contains}
use Rattle.model.specs.NumberedLiterals.{NumberedLiteral, NumberedChange}
use Rattle.model.proofs.ListLemmas.{Contains-none, Contains-cases, Contains-map, Contains-filter}
use Rattle.lower_bounds.specs.PotentialFunctions.{PotentialFunction, weight, sum_below, given, score, or_zero, value}
use Rattle.lower_bounds.specs.FairPotentials.{says, touches, Pair, is_pair, pairs, loss, greatest, worst, loses, loses_at_most, goal_gives, goal_gives_at_most}
use Rattle.lower_bounds.proofs.Sums.{sum-least, sum-least_both}

-- ---- one atom

pub greatest-most : (xs : List ℤ) (x : ℤ) → Contains xs x → x ≤ℤ greatest xs
greatest-most [] x at = absurd (Contains-none x at)
greatest-most (first ∷ xs) x at =
    let bounds = fold-int_max_bounds first xs (fold int_max first xs) refl in
    elim (Contains-cases first xs x at) [
      | inl is ↦ subst (λ y. y ≤ℤ fold int_max first xs) is bounds.0
      | inr later ↦ All-contains (λ y. y ≤ℤ fold int_max first xs) xs x bounds.1 later
    ]

abbrev pub every_pair : List Pair
every_pair = record { before = false; after = false } ∷ record { before = false; after = true } ∷ record { before = true; after = false } ∷ record { before = true; after = true } ∷ []

in_every_pair : (before after : Bool) → Contains every_pair (record { before = before; after = after })
in_every_pair false false = (0, omega arith, refl)
in_every_pair false true = (1, omega arith, refl)
in_every_pair true false = (2, omega arith, refl)
in_every_pair true true = (3, omega arith, refl)

-- a pair loses no more than the worst
loss-most : (literals : List NumberedLiteral) (changes : List NumberedChange) (w : ℤ) (number : ℕ) (before after : Bool)
    → is_pair literals changes number (record { before = before; after = after }) ≡ true → loss w (record { before = before; after = after }) ≤ℤ worst literals changes w number
loss-most literals changes w number before after is =
    let pair : Pair = record { before = before; after = after } in
    greatest-most (map (loss w) (pairs literals changes number)) (loss w pair)
    (Contains-map (loss w) (pairs literals changes number) pair (Contains-filter (is_pair literals changes number) every_pair pair (in_every_pair before after) is))

-- the contribution before is at most that after plus the possible loss
given-falls : (w most : ℤ) (touched before after : Bool) → (touched ≡ true → loss w (record { before = before; after = after }) ≤ℤ most) → (touched ≡ false → before ≡ after)
    → (if before then w else pos 0) ≤ℤ ((if after then w else pos 0) +ℤ (if touched then most else pos 0))
given-falls w most true true true loses stays = let h = loses refl in omega (arith, ints)
given-falls w most true true false loses stays = let h = loses refl in omega (arith, ints)
given-falls w most true false true loses stays = let h = loses refl in omega (arith, ints)
given-falls w most true false false loses stays = let h = loses refl in omega (arith, ints)
given-falls w most false true true loses stays = omega (arith, ints)
given-falls w most false true false loses stays = let e = stays refl in absurd (cc)
given-falls w most false false true loses stays = let e = stays refl in absurd (cc)
given-falls w most false false false loses stays = omega (arith, ints)

given-ends : (w : ℤ) (says_false says_true bit : Bool) → (says_false ≡ true → bit ≡ false) → (says_true ≡ true → bit ≡ true)
    → (if bit then w else pos 0) ≤ℤ (if says_false then pos 0 else if says_true then w else int_max (pos 0) w)
given-ends w true t true is_no is_yes = let e = is_no refl in absurd (cc)
given-ends w true t false is_no is_yes = omega (arith, ints)
given-ends w false true true is_no is_yes = omega (arith, ints)
given-ends w false true false is_no is_yes = let e = is_yes refl in absurd (cc)
given-ends w false false true is_no is_yes = omega (arith, ints, clamps)
given-ends w false false false is_no is_yes = omega (arith, ints, clamps)

-- ---- scores

abbrev pub bit : List Bool → ℕ → Bool
bit bits number = get_or bits number false

-- a score falls by no more than the literals and changes can make it lose
pub score-falls : (p : PotentialFunction) (bits next : List Bool) (literals : List NumberedLiteral) (changes : List NumberedChange) (count : ℕ)
    → length bits ≡ count → length next ≡ count
    → ((n : ℕ) → n < count → is_pair literals changes n (record { before = bit bits n; after = bit next n }) ≡ true)
    → ((n : ℕ) → n < count → touches changes n ≡ false → bit bits n ≡ bit next n)
    → score p bits ≤ℤ (score p next +ℤ loses_at_most count p.weights literals changes)
score-falls p bits next literals changes count long next_long is_pair untouched =
    let most = sum-least_both count (given p.weights bits) (given p.weights next) (loses literals changes p.weights) (λ n below.
    given-falls (weight p.weights n) (worst literals changes (weight p.weights n) n) (touches changes n) (bit bits n) (bit next n)
    (λ touched. loss-most literals changes (weight p.weights n) n (bit bits n) (bit next n) (is_pair n below)) (untouched n below)) in
    let before = ap (λ l. sum_below l (given p.weights bits)) long in
    let after = ap (λ l. sum_below l (given p.weights next)) next_long in
    omega (arith, ints)

-- and in states that satisfy the literals it is no more than the constant and their contribution
pub score-ends : (p : PotentialFunction) (bits : List Bool) (literals : List NumberedLiteral) (count : ℕ) → length bits ≡ count
    → ((n : ℕ) (value : Bool) → n < count → says literals n value ≡ true → bit bits n ≡ value)
    → score p bits ≤ℤ (p.constant +ℤ goal_gives_at_most count p.weights literals)
score-ends p bits literals count long agrees =
    let most = sum-least count (given p.weights bits) (goal_gives literals p.weights) (λ n below.
    given-ends (weight p.weights n) (says literals n false) (says literals n true) (bit bits n) (agrees n false below) (agrees n true below)) in
    let all = ap (λ l. sum_below l (given p.weights bits)) long in
    omega (arith, ints)

-- ---- values

pub or_zero-most : (z : ℤ) (n : ℕ) → z ≤ℤ pos n → or_zero z ≤ n
or_zero-most (pos m) n h = omega (arith, ints)
or_zero-most (negsuc m) n h = omega arith

pub or_zero-least : (z : ℤ) → z ≤ℤ pos (or_zero z)
or_zero-least (pos m) = omega (arith, ints)
or_zero-least (negsuc m) = omega (arith, ints)

pub value-falls : (p : PotentialFunction) (bits next : List Bool) (cost : ℕ) → score p bits ≤ℤ (score p next +ℤ pos cost) → value p bits ≤ value p next + cost
value-falls p bits next cost falls =
    let after = or_zero-least (score p next) in
    or_zero-most (score p bits) (value p next + cost) (omega (arith, ints))

pub value-ends : (p : PotentialFunction) (bits : List Bool) → score p bits ≤ℤ pos 0 → value p bits ≡ 0
value-ends p bits ends = let h = or_zero-most (score p bits) 0 ends in omega arith
