-- Projections of a state to the scopes of tables.
use Rattle.std.specs.Prelude.{◌≡◌, ℕ, Bool, true, false, List, [], Some, length, map, slice_get, slice_index_or}
use Rattle.packed_state.specs.Packed.{bits_of}
use Rattle.packed_state.specs.Sets.{has}
use Rattle.lower_bounds.specs.TableFunctions.{Table, row_in}
use Rattle.tables.specs.declared.projections.Projections.{Projections}

-- the projection to this table's scope
abbrev pub set_at : Projections → ℕ → List Bool
set_at p k = slice_index_or (map bits_of p.sets.items) k []

-- each projection has the indices in the scope of the atoms that are true in the state
pub record AreProjections (tables : List Table) (p : Projections) : Type 0 where
  pub long : length p.sets.items ≡ length tables
  pub touched : length (bits_of p.touched) ≡ length tables
  pub wide : (k : ℕ) (t : Table) → slice_get tables k ≡ Some t → length (set_at p k) ≡ length t.scope
  pub each : (k place number : ℕ) (t : Table) → slice_get tables k ≡ Some t → slice_get t.scope place ≡ Some number → has (set_at p k) place ≡ has (bits_of p.state) number

-- touched tables stay touched, and both states have the same row of each that is not
pub record AreMoved (tables : List Table) (old new : Projections) : Type 0 where
  pub kept : (k : ℕ) → has (bits_of old.touched) k ≡ true → has (bits_of new.touched) k ≡ true
  pub alike : (k : ℕ) (t : Table) → slice_get tables k ≡ Some t → has (bits_of new.touched) k ≡ false → row_in (bits_of old.state) t ≡ row_in (bits_of new.state) t
