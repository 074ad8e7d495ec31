-- Lists of states with a key for each class of them.
use Rattle.std.specs.Prelude.{◌≡◌, ℕ, ◌+◌, ◌<◌, Bool, List, length, slice_get, Some, Contains}
use Rattle.packed_state.specs.Store.{AreDistinct}

-- Each key has the place of the current state of its class. A listed state is the current one of its class, or it is superseded, and its
-- place is beside it.
pub record AreListedByKeys (key_of : List Bool → List Bool) (width : ℕ) (states keys : List (List Bool)) (current : List ℕ) (superseded : List (List Bool)) (places : List ℕ) : Type 0 where
  pub wide : (place : ℕ) (s : List Bool) → slice_get states place ≡ Some s → length s ≡ width
  pub distinct : AreDistinct states
  pub counted : length keys + length superseded ≡ length states
  -- the keys and the current states
  pub each : length current ≡ length keys
  pub within : (class place : ℕ) → slice_get current class ≡ Some place → place < length states
  pub keyed : (class place : ℕ) (key s : List Bool) → slice_get keys class ≡ Some key → slice_get current class ≡ Some place → slice_get states place ≡ Some s → key_of s ≡ key
  pub known : (place : ℕ) (s : List Bool) → slice_get states place ≡ Some s → ¬ Contains keys (key_of s) → ⊥
  pub found : (place other class : ℕ) (s : List Bool) → slice_get states place ≡ Some s → ¬ Contains superseded s → slice_get keys class ≡ Some (key_of s) → slice_get current class ≡ Some other
      → other ≡ place
  -- the superseded ones
  pub all_placed : length places ≡ length superseded
  pub past_within : (past place : ℕ) → slice_get places past ≡ Some place → place < length states
  pub past_is : (past place : ℕ) (s other : List Bool) → slice_get superseded past ≡ Some s → slice_get places past ≡ Some place → slice_get states place ≡ Some other → other ≡ s
  pub apart : (past class place : ℕ) → slice_get places past ≡ Some place → slice_get current class ≡ Some place → ⊥
