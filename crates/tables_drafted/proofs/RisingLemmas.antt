-- Whether numbers ascend, by the first of them and the others.
use Rattle.std.proofs.Common.{◌≡◌, ◌∙◌, ◌-◌, ◌≤◌, ℕ, true, false, List, [], ◌∷◌, length, take, drop, get_or, refl, sym, ap, arith}
use Rattle.std.specs.Prelude.{Bool, nat_lt, slice_get, ◌&&◌}
use Rattle.std.specs.Option.{option_map_or}
use Rattle.std.proofs.lemmas.List.{take_all}
use Rattle.table_rows.specs.Rows.{are_rising}

-- the number is below the first of the others, if there is one
abbrev is_below : ℕ → List ℕ → Bool
is_below number others = option_map_or (λ first. nat_lt number first) (slice_get others 0) true

-- all but the first, as in the code
abbrev others_of : List ℕ → List ℕ
others_of numbers = take (length numbers - 1) (drop 1 numbers)

by_first : (first : ℕ) (others : List ℕ) → are_rising (first ∷ others) ≡ is_below first others && are_rising others
by_first first [] = refl
by_first first (next ∷ others) = refl

by_both : (numbers : List ℕ) → 1 ≤ length numbers → are_rising numbers ≡ is_below (get_or numbers 0 0) (others_of numbers) && are_rising (others_of numbers)
by_both [] some = absurd (omega (arith, some))
by_both (first ∷ others) some =
    let rest : take (length (first ∷ others) - 1) others ≡ others = take_all (length (first ∷ others) - 1) others (omega arith) in
    by_first first others ∙ (λ i. is_below first (sym rest i) && are_rising (sym rest i))

pub rising_on : (numbers : List ℕ) → 1 ≤ length numbers → is_below (get_or numbers 0 0) (others_of numbers) ≡ true → are_rising (others_of numbers) ≡ are_rising numbers
rising_on numbers some below = sym (by_both numbers some ∙ ap (λ b. b && are_rising (others_of numbers)) below)

pub rising_not : (numbers : List ℕ) → 1 ≤ length numbers → is_below (get_or numbers 0 0) (others_of numbers) ≡ false → are_rising numbers ≡ false
rising_not numbers some below = by_both numbers some ∙ ap (λ b. b && are_rising (others_of numbers)) below
