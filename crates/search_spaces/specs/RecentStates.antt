-- The cache of recent states as contracts see it.
use Rattle.std.specs.Prelude.{◌≡◌, ℕ, Bool, List, slice_get, Some}
use Rattle.search_spaces.specs.States.{states_width, states_of}
use Rattle.search_spaces.specs.declared.recent.RecentStates.{RecentStates}

abbrev pub recent_width : RecentStates → ℕ
recent_width recent = states_width recent.states

-- the state is at some place, and the class beside it
abbrev pub IsNoted : RecentStates → List Bool → ℕ → Type 0
IsNoted recent s class = (place : ℕ) × (slice_get (states_of recent.states) place ≡ Some s) × (slice_get recent.classes.items place ≡ Some (Some class))

-- the key at the number of a state's class is the key of the state
abbrev pub AreNotedByKeys : (List Bool → List Bool) → List (List Bool) → RecentStates → Type 0
AreNotedByKeys key_of keys recent = (s : List Bool) (class : ℕ) → IsNoted recent s class → slice_get keys class ≡ Some (key_of s)
