-- Sums over the numbers below one.
use Rattle.std.proofs.Common.{◌≡◌, ◌≢◌, ℕ, zero, suc, ◌+◌, ◌*◌, ◌<◌, ◌≤◌, inl, inr, refl, ap, arith, ℤ, pos, ◌+ℤ◌, neg_ℤ, ◌≤ℤ◌}
use Rattle.std.proofs.lemmas.Bool.{cases_eq, cases_lt}
use Rattle.std.proofs.lemmas.Int.{ints}
use Rattle.lower_bounds.specs.PotentialFunctions.{sum_below, IsInRange}

pub sum-next : (n : ℕ) (f : ℕ → ℤ) → sum_below (n + 1) f ≡ (sum_below n f +ℤ f n)
sum-next n f = let e : n + 1 ≡ suc n = omega arith in ap (λ m. sum_below m f) e

pub sum-zero : (n : ℕ) → sum_below n (λ k. pos 0) ≡ pos 0
sum-zero zero = refl
sum-zero (suc n) = let rest = sum-zero n in omega (arith, ints)

-- equal parts give equal sums
pub sum-alike : (n : ℕ) (f g : ℕ → ℤ) → ((k : ℕ) → k < n → f k ≡ g k) → sum_below n f ≡ sum_below n g
sum-alike zero f g each = refl
sum-alike (suc n) f g each =
    let rest = sum-alike n f g (λ k below. each k (omega arith)) in
    let last = each n (omega arith) in
    cc

pub sum-least : (n : ℕ) (f g : ℕ → ℤ) → ((k : ℕ) → k < n → f k ≤ℤ g k) → sum_below n f ≤ℤ sum_below n g
sum-least zero f g each = omega (arith, ints)
sum-least (suc n) f g each =
    let rest = sum-least n f g (λ k below. each k (omega arith)) in
    let last = each n (omega arith) in
    omega (arith, ints)

pub sum-least_both : (n : ℕ) (f g h : ℕ → ℤ) → ((k : ℕ) → k < n → f k ≤ℤ (g k +ℤ h k)) → sum_below n f ≤ℤ (sum_below n g +ℤ sum_below n h)
sum-least_both zero f g h each = omega (arith, ints)
sum-least_both (suc n) f g h each =
    let rest = sum-least_both n f g h (λ k below. each k (omega arith)) in
    let last = each n (omega arith) in
    omega (arith, ints)

-- parts that are 0 from a number on add nothing
pub sum-past : (n m : ℕ) (f : ℕ → ℤ) → n ≤ m → ((k : ℕ) → n ≤ k → f k ≡ pos 0) → sum_below m f ≡ sum_below n f
sum-past n zero f within none = ap (λ k. sum_below k f) (let e : zero ≡ n = omega arith in e)
sum-past n (suc m) f within none =
    elim (cases_lt n (suc m)) [
      | inl below ↦
          let rest = sum-past n m f (omega arith) none in
          let last = none m (omega arith) in
          omega (arith, ints)
      | inr not_below ↦ ap (λ k. sum_below k f) (let e : suc m ≡ n = omega arith in e)
    ]

-- two sums that differ in a single part
pub sum-changed : (n : ℕ) (f g : ℕ → ℤ) (place : ℕ) → place < n → ((k : ℕ) → k < n → k ≢ place → f k ≡ g k) → (sum_below n f +ℤ g place) ≡ (sum_below n g +ℤ f place)
sum-changed zero f g place below each = absurd (omega arith)
sum-changed (suc n) f g place below each =
    elim (cases_eq n place) [
      | inl is ↦
          let rest = sum-alike n f g (λ k least. each k (omega arith) (λ e. absurd (omega arith))) in
          let here = ap f is in
          let there = ap g is in
          omega (arith, ints)
      | inr other ↦
          let rest = sum-changed n f g place (omega arith) (λ k least. each k (omega arith)) in
          let last = each n (omega arith) other in
          omega (arith, ints)
    ]

-- a sum of numbers in range
pub sum-range : (n : ℕ) (f : ℕ → ℤ) → ((k : ℕ) → k < n → IsInRange (f k)) → (neg_ℤ (pos (2147483647 * n)) ≤ℤ sum_below n f) × (sum_below n f ≤ℤ pos (2147483647 * n))
sum-range zero f each = (omega (arith, ints), omega (arith, ints))
sum-range (suc n) f each =
    let rest = sum-range n f (λ k below. each k (omega arith)) in
    let last = each n (omega arith) in
    let least = last.least in
    let most = last.most in
    let low = rest.0 in
    let high = rest.1 in
    (omega (arith, ints), omega (arith, ints))
