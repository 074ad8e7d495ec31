-- States in one vector of words as contracts see them.
use Rattle.std.specs.Prelude.{ℕ, ◌+◌, ◌≤◌, Bool, List, vec_len, vec_capacity}
use Rattle.packed_state.specs.Store.{sets_in}
use Rattle.packed_state.specs.Pool.{rows_in}
use Rattle.search_spaces.specs.declared.rows.States.{States}

abbrev pub states_width : States → ℕ
states_width states = states.width

-- in the order of their places
abbrev pub states_of : States → List (List Bool)
states_of states = sets_in states.width (rows_in states.stride states.words.items states.count)

-- one more state can be appended without new memory
abbrev pub HasRoom : States → Type 0
HasRoom states = vec_len states.words + states.stride ≤ vec_capacity states.words
