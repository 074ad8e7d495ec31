-- Sets of atoms by their indices in a scope.
use Rattle.std.specs.Prelude.{◌≡◌, ℕ, Bool, true, false, List, map, Option, None, Some}
use Rattle.std.specs.List.{list_all}
use Rattle.packed_state.specs.declared.packed.Packed.{Packed}
use Rattle.packed_state.specs.Packed.{bits_of}
use Rattle.lower_bounds.specs.TableFunctions.{is_among}

-- the set has the indices of the atoms, or one is not in the scope
abbrev pub IsSetOf : List ℕ → List ℕ → Option Packed → Type 0
IsSetOf scope atoms None = list_all (is_among scope) atoms ≡ false
IsSetOf scope atoms (Some set) = (list_all (is_among scope) atoms ≡ true) × (bits_of set ≡ map (is_among atoms) scope)
