-- What changes do to packed states: the numbers of the atoms that become false, and of those that become true.
use Rattle.std.specs.Prelude.{ℕ, Bool, List, [], ◌∷◌, slice_set, if◌then◌else◌, Option, None}
use Rattle.std.specs.List.{filter_map}
use Rattle.model.specs.Task.{Atom}
use Rattle.model.specs.Meaning.{GroundLiteral, adds, deletes}
use Rattle.model.specs.NumberedAtoms.{number_of}

-- the number of the literal's atom, if the literal sets it to this value and it has a number
abbrev pub number_changed : List Atom → Bool → GroundLiteral → Option ℕ
number_changed atoms value (adds a) = if value then number_of atoms a else None
number_changed atoms value (deletes a) = if value then None else number_of atoms a

abbrev pub numbers_changed : List Atom → Bool → List GroundLiteral → List ℕ
numbers_changed atoms value literals = filter_map (number_changed atoms value) literals

-- the bits, with those of these numbers set to this value
abbrev pub with_bits : Bool → List Bool → List ℕ → List Bool
with_bits value bits [] = bits
with_bits value bits (number ∷ rest) = with_bits value (slice_set bits number value) rest
