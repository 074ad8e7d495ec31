-- A score updated atom by atom.
use Rattle.std.proofs.Common.{◌≡◌, ℕ, ◌+◌, ◌*◌, ◌≤◌, Bool, List, length, arith, ℤ, pos, ◌+ℤ◌, neg_ℤ, ◌≤ℤ◌}
use Rattle.std.specs.Prelude.{All}
use Rattle.std.proofs.lemmas.Int.{ints}
use Rattle.lower_bounds.specs.PotentialFunctions.{sum_below, given, IsInRange}
use Rattle.lower_bounds.proofs.Sums.{sum-range}
use Rattle.lower_bounds.proofs.Ranges.{given-range, sum-between}

-- the intermediate score is in the range of a score
pub midway-range : (constant : ℤ) (weights : List ℤ) (before after : List Bool) (n : ℕ) (total : ℤ) → IsInRange constant → All IsInRange weights → n ≤ length before
    → total ≡ ((constant +ℤ sum_below (length before) (given weights before)) +ℤ (sum_below n (given weights after) +ℤ neg_ℤ (sum_below n (given weights before))))
    → (neg_ℤ (pos (2147483647 * (length before + 1))) ≤ℤ total) × (total ≤ℤ pos (2147483647 * (length before + 1)))
midway-range constant weights before after n total of_constant all within is =
    let rest = sum-between n (length before) (given weights before) (λ k. given-range weights before k all) within in
    let first = sum-range n (given weights after) (λ k _. given-range weights after k all) in
    let least = of_constant.least in
    let most = of_constant.most in
    let low = rest.0 in
    let high = rest.1 in
    let first_low = first.0 in
    let first_high = first.1 in
    (omega (arith, ints), omega (arith, ints))
