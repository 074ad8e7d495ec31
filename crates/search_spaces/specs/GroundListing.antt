-- The listing of a search of a ground task as contracts see it.
use Rattle.std.specs.Prelude.{ℕ, Bool, List, ⊤}
use Rattle.packed_state.specs.Store.{AreDistinct}
use Rattle.packed_state.specs.PooledView.{pooled_width, pooled_states}
use Rattle.search_spaces.specs.declared.ground_listing.GroundListing.{GroundListing}
use Rattle.search_spaces.specs.declared.ground_listing.GroundListing.TheVariants as listing
use Rattle.search_spaces.specs.OrbitStore.{orbit_width, orbit_states, orbit_class, is_orbit_current}

abbrev pub listed_width : GroundListing → ℕ
listed_width (listing.Alone own) = pooled_width own.0
listed_width (listing.Orbits store) = orbit_width store

-- in the order of their places
abbrev pub listed_states : GroundListing → List (List Bool)
listed_states (listing.Alone own) = pooled_states own.0
listed_states (listing.Orbits store) = orbit_states store

-- the key of a state's class
abbrev pub listed_class : GroundListing → List Bool → List Bool
listed_class (listing.Alone own) = λ bits. bits
listed_class (listing.Orbits store) = orbit_class store

-- the state at this place is the current one of its class
abbrev pub is_current_in : GroundListing → ℕ → Type 0
is_current_in (listing.Alone own) place = ⊤
is_current_in (listing.Orbits store) place = is_orbit_current store place

pub are_listed_once : (l : GroundListing) → AreDistinct (listed_states l)
are_listed_once (listing.Alone own) = own.0.pooled.stored.distinct
are_listed_once (listing.Orbits store) = store.linked.listed.distinct
