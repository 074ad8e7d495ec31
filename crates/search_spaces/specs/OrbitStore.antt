-- A store of states by their representatives as contracts see it.
use Rattle.std.specs.Prelude.{ℕ, Bool, List, length}
use Rattle.symmetries.specs.Representatives.{atoms_of}
use Rattle.search_spaces.specs.declared.orbit_store.OrbitStore.{OrbitStore}
use Rattle.search_spaces.specs.Orbits.{key_by, states_in, is_current_of}

abbrev pub orbit_width : OrbitStore → ℕ
orbit_width store = length (atoms_of store.orbits.representatives.now)

-- in the order of their places
abbrev pub orbit_states : OrbitStore → List (List Bool)
orbit_states store = states_in store.orbits

abbrev pub orbit_class : OrbitStore → List Bool → List Bool
orbit_class store = key_by store.orbits.representatives.now

abbrev pub is_orbit_current : OrbitStore → ℕ → Type 0
is_orbit_current store = is_current_of store.orbits
