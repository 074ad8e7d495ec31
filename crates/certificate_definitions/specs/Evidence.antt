-- What the state lines of a certificate rest on.
use Rattle.std.specs.Prelude.{ℕ}
use Rattle.model.specs.Claims as claims

-- what one cut or dead end rests on
pub data Basis : Type 0 where
  -- the values of all states: for a cut the greatest of them, for a dead end the value for dead ends
  of_all : Basis
  -- the landmark value with this number, from 0, in version 4
  landmark : ℕ → Basis

-- the role of a state in a certificate's listing, as `Mark`, with what it rests on
pub data LineMark : Type 0 where
  expanded : LineMark
  -- it is not expanded: by this basis the remaining cost is at least this
  cut : Basis → ℕ → LineMark
  -- by this basis no list of actions leads from it to the goal
  dead : Basis → LineMark

-- the role alone
abbrev pub bare : LineMark → claims.Mark
bare expanded = claims.expanded
bare (cut basis rest) = claims.cut rest
bare (dead basis) = claims.dead
