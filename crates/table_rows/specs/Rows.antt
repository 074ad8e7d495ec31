-- Rows of a table in memory: a bit for each atom of the scope, and all weights in one list.
use Rattle.std.specs.Prelude.{ℕ, nat_lt, ◌==◌, Bool, true, ◌&&◌, ℤ, List, [], ◌∷◌, Option, take, drop, if◌then◌else◌}
use Rattle.std.specs.List.{position}
use Rattle.lower_bounds.specs.TableFunctions.{Row}

-- each number is above the one before it
abbrev pub are_rising : List ℕ → Bool
are_rising [] = true
are_rising (n ∷ []) = true
are_rising (n ∷ m ∷ rest) = nat_lt n m && are_rising (m ∷ rest)

-- the atoms of the scope whose bits are set, index by index
abbrev pub atoms_at : List ℕ → List Bool → List ℕ
atoms_at [] bits = []
atoms_at (n ∷ scope) [] = []
atoms_at (n ∷ scope) (bit ∷ bits) = if bit then n ∷ atoms_at scope bits else atoms_at scope bits

-- the index of an atom in the scope, if it is there
abbrev pub place_in : List ℕ → ℕ → Option ℕ
place_in scope number = position (λ n. n == number) scope

-- the rows with these sets, each with the next `count` weights
abbrev pub rows_from : ℕ → List ℕ → List (List Bool) → List ℤ → List Row
rows_from count scope [] weights = []
rows_from count scope (bits ∷ sets) weights = record { atoms = atoms_at scope bits; weights = take count weights } ∷ rows_from count scope sets (drop count weights)
