-- A plain store as contracts see it.
use Rattle.std.specs.Prelude.{ℕ, Bool, List, map, vec_items}
use Rattle.packed_state.specs.declared.plain.PlainStore.{PlainStore}
use Rattle.packed_state.specs.Store.{sets_in}

abbrev pub plain_width : PlainStore → ℕ
plain_width store = store.width

-- in the order of their places
abbrev pub plain_states : PlainStore → List (List Bool)
plain_states store = sets_in store.width (map vec_items store.rows.keys)
