-- The words of a packed state, as the score uses them.
use Rattle.std.specs.Prelude.{ℕ, ◌+◌, ◌==◌, if◌then◌else◌, ℤ, pos, neg_ℤ, List}
use Rattle.std.specs.Int.{bit_at}
use Rattle.lower_bounds.specs.PotentialFunctions.{weight, sum_below}

-- The gain of this bit's atom, if the bit is set in `changed`: its weight if the bit is set in `after`, otherwise the negated
-- weight.
abbrev pub gained_at : List ℤ → ℕ → ℕ → ℕ → ℕ → ℤ
gained_at weights first changed after bit =
    if bit_at changed bit == 1 then (if bit_at after bit == 1 then weight weights (first + bit) else neg_ℤ (weight weights (first + bit))) else pos 0

-- the gain of the atoms in one word, whose lowest bit stands for atom `first`
unfoldable pub gained_in_word : List ℤ → ℕ → ℕ → ℕ → ℤ
gained_in_word weights first changed after = sum_below 64 (gained_at weights first changed after)
