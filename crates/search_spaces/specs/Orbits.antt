-- The listed states and the keys of their classes, in the terms of the definitions.
use Rattle.std.specs.Prelude.{◌≡◌, ℕ, Bool, List, length, slice_get, Some, Contains}
use Rattle.packed_state.specs.Packed.{bits_of}
use Rattle.packed_state.specs.PooledView.{pooled_width, pooled_states}
use Rattle.search.specs.declared.listing.Place.{Place}
use Rattle.search.specs.declared.listing.Place.TheVariants.{New, Listed, Alike}
use Rattle.symmetries_definitions.specs.Orbits.{packed_representative}
use Rattle.symmetries.specs.declared.representatives.Representatives.{Representatives}
use Rattle.symmetries.specs.Representatives.{task_of, atoms_of, exchanges_of}
use Rattle.search_spaces.specs.declared.orbits.Orbits.{Orbits}
use Rattle.search_spaces.specs.States.{states_width, states_of}
use Rattle.search_spaces.specs.RecentStates.{recent_width, AreNotedByKeys}
use Rattle.search_spaces.specs.ListedByKeys.{AreListedByKeys}

-- the key of a state: its representative
abbrev pub key_by : Representatives → List Bool → List Bool
key_by r = packed_representative (task_of r) (atoms_of r) (exchanges_of r)

-- in the order of their places
abbrev pub states_in : Orbits → List (List Bool)
states_in orbits = states_of orbits.states

-- the state at this place is the current one of some class
abbrev pub is_current_of : Orbits → ℕ → Type 0
is_current_of orbits place = (class : ℕ) × (slice_get orbits.current.items class ≡ Some place)

pub record IsLinked (orbits : Orbits) : Type 0 where
  pub key_width : length (bits_of orbits.key) ≡ length (atoms_of orbits.representatives.now)
  pub rows_width : states_width orbits.states ≡ length (atoms_of orbits.representatives.now)
  pub keys_width : pooled_width orbits.keys ≡ length (atoms_of orbits.representatives.now)
  pub superseded_width : pooled_width orbits.superseded ≡ length (atoms_of orbits.representatives.now)
  pub listed : AreListedByKeys (key_by orbits.representatives.now) (length (atoms_of orbits.representatives.now)) (states_in orbits) (pooled_states orbits.keys) orbits.current.items
      (pooled_states orbits.superseded) orbits.places.items
  pub noted_width : recent_width orbits.recent ≡ length (atoms_of orbits.representatives.now)
  pub noted : AreNotedByKeys (key_by orbits.representatives.now) (pooled_states orbits.keys) orbits.recent

-- where a state of a class that has a key is
abbrev pub IsPlacedIn : Orbits → List Bool → Place → Type 0
IsPlacedIn orbits s (New place) = ⊥
IsPlacedIn orbits s (Listed place) = slice_get (states_in orbits) place ≡ Some s
IsPlacedIn orbits s (Alike place) =
    (¬ Contains (states_in orbits) s) × ((other : List Bool) × (slice_get (states_in orbits) place ≡ Some other) × (key_by orbits.representatives.now other ≡ key_by orbits.representatives.now s))
    × is_current_of orbits place
