-- An instance's changes of a scope's atoms, as the code keeps them.
use Rattle.std.specs.Prelude.{◌≡◌, ℕ, ◌<◌, All, length, map}
use Rattle.packed_state.specs.Packed.{mask_bits_of}
use Rattle.table_rows.specs.declared.afters.When as code_of_when
use Rattle.table_rows.specs.declared.afters.PlacedChanges as code_of_changes
use Rattle.table_rows.specs.Placed.{PlacedLiteral, placed_of}
use Rattle.table_rows.specs.Afters.{When, PlacedChanges}

abbrev pub when_of : code_of_when.When → When
when_of w = record { place = w.place; value = w.value; condition = map placed_of w.condition.items }

abbrev pub changes_of : code_of_changes.PlacedChanges → PlacedChanges
changes_of c = record { deletes = mask_bits_of c.deletes; adds = mask_bits_of c.adds; whens = map when_of c.whens.items }

-- its places are below the width
pub record FitsWhen (width : ℕ) (w : When) : Type 0 where
  pub place : w.place < width
  pub condition : All (λ (l : PlacedLiteral). l.place < width) w.condition

pub record FitsWidth (width : ℕ) (c : PlacedChanges) : Type 0 where
  pub deletes : width ≡ length c.deletes
  pub adds : width ≡ length c.adds
  pub whens : All (FitsWhen width) c.whens
