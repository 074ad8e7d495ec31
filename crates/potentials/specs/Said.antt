-- What literals say of an atom, as represented in the code.
use Rattle.std.specs.Prelude.{◌≡◌, ℕ, true, false, List}
use Rattle.model.specs.NumberedLiterals.{NumberedLiteral}
use Rattle.lower_bounds.specs.FairPotentials.{says}
use Rattle.potentials.specs.declared.said.Said.{Said}

-- what these literals say of the atom with this number
pub record IsSaid (literals : List NumberedLiteral) (number : ℕ) (s : Said) : Type 0 where
  pub is_false : s.is_false ≡ says literals number false
  pub is_true : s.is_true ≡ says literals number true
