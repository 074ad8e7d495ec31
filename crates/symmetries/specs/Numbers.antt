-- The numbers of atoms that an exchange swaps.
use Rattle.std.specs.Prelude.{ℕ, nat_lt, List, length, map, filter, slice_get, Option, None}
use Rattle.std.specs.List.{range_with_len}
use Rattle.std.specs.Option.{option_map_or}
use Rattle.model.specs.Task.{Atom}
use Rattle.model.specs.NumberedAtoms.{number_of}
use Rattle.symmetries_definitions.specs.Exchanges.{image_of_atom}

-- the number of the image of the atom with this number, if there is one
abbrev pub image_number : List Atom → (ℕ → ℕ) → ℕ → Option ℕ
image_number atoms to n = option_map_or (λ (a : Atom). number_of atoms (image_of_atom to a)) (slice_get atoms n) None

-- a number, with that of the image
abbrev pub pair_from : List Atom → (ℕ → ℕ) → ℕ → ℕ × ℕ
pair_from atoms to n = (n, option_map_or (λ m. m) (image_number atoms to n) n)

-- the first `n` numbers that are below that of their image
abbrev pub exchanged_below : List Atom → (ℕ → ℕ) → ℕ → List (ℕ × ℕ)
exchanged_below atoms to count = filter (λ (pair : ℕ × ℕ). nat_lt pair.0 pair.1) (map (pair_from atoms to) (range_with_len 0 count))

-- The pairs of swapped numbers, the lower one first in each, in ascending order.
abbrev pub exchanged_numbers : List Atom → (ℕ → ℕ) → List (ℕ × ℕ)
exchanged_numbers atoms to = exchanged_below atoms to (length atoms)
