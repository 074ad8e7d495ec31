-- Constants, weights and their contributions are in range, and so are their sums.
use Rattle.std.proofs.Common.{◌≡◌, ℕ, zero, suc, ◌*◌, ◌≤◌, inl, inr, Bool, true, false, List, [], ◌∷◌, get_or, ap, arith, ℤ, pos, ◌+ℤ◌, ◌≤ℤ◌}
use Rattle.std.specs.Prelude.{if◌then◌else◌, All}
use Rattle.std.proofs.lemmas.Bool.{cases_eq}
use Rattle.std.proofs.lemmas.Int.{ints}
use Rattle.lower_bounds.specs.PotentialFunctions.{weight, sum_below, given, IsInRange}

pub zero-range : IsInRange (pos 0)
zero-range = record { least = omega (arith, ints); most = omega (arith, ints) }

pub weight-range : (weights : List ℤ) (n : ℕ) → All IsInRange weights → IsInRange (weight weights n)
weight-range [] n all = zero-range
weight-range (w ∷ weights) zero all = all 0 (pos 0) (omega arith)
weight-range (w ∷ weights) (suc n) all = weight-range weights n (λ k d below. all (suc k) d (omega arith))

pub given-range : (weights : List ℤ) (bits : List Bool) (n : ℕ) → All IsInRange weights → IsInRange (given weights bits n)
given-range weights bits n all = of_bit (get_or bits n false)
  where
    of_bit : (bit : Bool) → IsInRange (if bit then weight weights n else pos 0)
    of_bit true = weight-range weights n all
    of_bit false = zero-range

-- the difference of two sums of numbers in range
pub sum-between : (n m : ℕ) (f : ℕ → ℤ) → ((k : ℕ) → IsInRange (f k)) → n ≤ m
    → ((sum_below m f +ℤ pos (2147483647 * n)) ≤ℤ (sum_below n f +ℤ pos (2147483647 * m))) × ((sum_below n f +ℤ pos (2147483647 * n)) ≤ℤ (sum_below m f +ℤ pos (2147483647 * m)))
sum-between n zero f each within =
    let is : n ≡ 0 = omega arith in
    let same = ap (λ k. sum_below k f) is in
    (omega (arith, ints), omega (arith, ints))
sum-between n (suc m) f each within =
    elim (cases_eq n (suc m)) [
      | inl is ↦
          let same = ap (λ k. sum_below k f) is in
          (omega (arith, ints), omega (arith, ints))
      | inr other ↦
          let rest = sum-between n m f each (omega arith) in
          let last = each m in
          let least = last.least in
          let most = last.most in
          let low = rest.0 in
          let high = rest.1 in
          (omega (arith, ints), omega (arith, ints))
    ]
