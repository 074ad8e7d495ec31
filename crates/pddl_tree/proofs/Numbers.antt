-- Numbers by their digits.
use Rattle.std.proofs.Common.{◌≡◌, ℕ, zero, suc, ◌+◌, ◌-◌, ◌*◌, ◌<◌, ◌≤◌, List, [], ◌∷◌, map, drop, fold, length, slice_index_or, None, arith}
use Rattle.std.proofs.lemmas.Bool.Decides.{nat_tests}
use Rattle.std.specs.Char.{to_ascii_lowercase}
use Rattle.model.specs.Limits.{max_number}
use Rattle.pddl_tree.specs.Token.{small}

-- a number with one more digit
abbrev pub with_digit : ℕ → ℕ → ℕ
with_digit n digit = n * 10 + (digit - 48)

-- more digits never make a number smaller
no_smaller : (digits : List ℕ) (n : ℕ) → n ≤ fold with_digit n digits
no_smaller [] n = omega arith
no_smaller (digit ∷ digits) n = let h = no_smaller digits (with_digit n digit) in omega (arith, h)

large : (n : ℕ) → max_number < n → None ≡ small n
large n h = grind (arith, nat_tests)

-- a number that is too large after one digit more is so after all digits
pub too_large : (bytes : List ℕ) (i n digit whole : ℕ) → i < length bytes → digit ≡ to_ascii_lowercase (slice_index_or bytes i 0) - 48 → max_number < n * 10 + digit → fold with_digit n (map to_ascii_lowercase (drop i bytes)) ≡ whole
    → None ≡ small whole
too_large [] i n digit whole h is over same = absurd (omega (arith, h))
too_large (byte ∷ bytes) zero n digit whole h is over same =
    let more = no_smaller (map to_ascii_lowercase bytes) (with_digit n (to_ascii_lowercase byte)) in
    large whole (omega (arith, is, over, more, same))
too_large (byte ∷ bytes) (suc i) n digit whole h is over same = too_large bytes i n digit whole (omega (arith, h)) is over same
