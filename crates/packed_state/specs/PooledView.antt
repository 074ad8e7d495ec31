-- A pooled store as contracts see it.
use Rattle.std.specs.Prelude.{ℕ, Bool, List}
use Rattle.packed_state.specs.declared.pooled.PooledStore.{PooledStore}
use Rattle.packed_state.specs.Store.{sets_in}
use Rattle.packed_state.specs.PooledStore.{rows_of}

abbrev pub pooled_width : PooledStore → ℕ
pooled_width store = store.width

-- in the order of their places
abbrev pub pooled_states : PooledStore → List (List Bool)
pooled_states store = sets_in store.width (rows_of store.pool)
