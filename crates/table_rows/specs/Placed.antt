-- Literals of a scope's atoms, by place.
use Rattle.std.specs.Prelude.{ℕ, Bool, List, Option}
use Rattle.std.specs.Bool.{beq}
use Rattle.std.specs.Option.{option_map}
use Rattle.packed_state.specs.Sets.{has}
pub use Rattle.table_rows.specs.Rows.{place_in}
use Rattle.model.specs.NumberedLiterals.{NumberedLiteral}
use Rattle.table_rows.specs.declared.placed.PlacedLiteral as code

-- the atom at this place of the scope is true, or false
pub record PlacedLiteral : Type 0 where
  pub place : ℕ
  pub value : Bool

abbrev pub placed_of : code.PlacedLiteral → PlacedLiteral
placed_of l = record { place = l.place; value = l.value }

-- the literal by place, if its atom is in the scope
abbrev pub placed_in : List ℕ → NumberedLiteral → Option PlacedLiteral
placed_in scope l = option_map (λ (k : ℕ). record { place = k; value = l.value }) (place_in scope l.atom)

-- the literal is true of the set
abbrev pub is_so : List Bool → PlacedLiteral → Bool
is_so set l = beq (has set l.place) l.value
