-- What the literals of a goal say of each numbered atom, as represented in the code.
use Rattle.std.specs.Prelude.{◌≡◌, ℕ, ◌<◌, false, List, length, get_or}
use Rattle.model.specs.NumberedLiterals.{NumberedLiteral}
use Rattle.potentials.specs.declared.said.Said.{Said}
use Rattle.potentials.specs.declared.goals.GoalAtoms.{GoalAtoms}
use Rattle.potentials.specs.Said.{IsSaid}

-- what is said of the atom with this number; nothing past the last
abbrev pub said_of : GoalAtoms → ℕ → Said
said_of g number = get_or g.said.items number (record { is_false = false; is_true = false })

-- what these literals say of each atom numbered below the count
pub record AreSaid (literals : List NumberedLiteral) (count : ℕ) (g : GoalAtoms) : Type 0 where
  pub width : length g.said.items ≡ count
  pub each : (number : ℕ) → number < count → IsSaid literals number (said_of g number)
