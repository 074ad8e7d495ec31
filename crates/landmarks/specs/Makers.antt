-- Instances by the literals that they make true.
use Rattle.std.specs.Prelude.{◌≡◌, ℕ, ◌⊎◌, Bool, true, false, List, Contains, length}
use Rattle.model.specs.Task.{Atom, Task}
use Rattle.model.specs.ConditionalChanges.{ConditionalChange, conditional_of_number}
use Rattle.lower_bounds.specs.TableFunctions.{is_among}
use Rattle.landmarks.specs.declared.makers.Makers.{Makers}
use Rattle.table_rows.specs.Lists.{list_at, place_count}

-- the instances with a change that makes the literal of this atom with this truth value true
abbrev pub row_for : Makers → ℕ → Bool → List ℕ
row_for m atom true = list_at m.adding atom
row_for m atom false = list_at m.deleting atom

-- the number is appended to the rows of the literals that these changes make true, and to no other
pub record AreFiled (number : ℕ) (changes : List ConditionalChange) (old new : Makers) : Type 0 where
  pub adding : place_count new.adding ≡ place_count old.adding
  pub deleting : place_count new.deleting ≡ place_count old.deleting
  pub kept : (atom : ℕ) (value : Bool) (k : ℕ) → is_among (row_for old atom value) k ≡ true → is_among (row_for new atom value) k ≡ true
  pub filed : (c : ConditionalChange) → Contains changes c → is_among (row_for new c.change.atom c.change.value) number ≡ true
  pub only : (atom : ℕ) (value : Bool) (k : ℕ) → is_among (row_for new atom value) k ≡ true → (is_among (row_for old atom value) k ≡ true) ⊎ (k ≡ number)

-- Each of these instances is in the row of each literal that a change of it makes true, and no other instance is in a row.
pub record AreMakers (task : Task) (atoms : List Atom) (asked : List ℕ) (m : Makers) : Type 0 where
  pub covers : (number : ℕ) → is_among asked number ≡ true → (c : ConditionalChange) → Contains (conditional_of_number task atoms number) c
      → is_among (row_for m c.change.atom c.change.value) number ≡ true
  pub within : (atom : ℕ) (value : Bool) (number : ℕ) → is_among (row_for m atom value) number ≡ true → is_among asked number ≡ true
