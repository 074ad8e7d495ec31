-- A pool as contracts see it.
use Rattle.std.specs.Prelude.{ℕ, ◌+◌, ◌*◌, ◌<◌, ◌≤◌, List}
use Rattle.packed_state.specs.declared.pool.Pool.{Pool}
use Rattle.packed_state.specs.Store.{AreStored}
use Rattle.packed_state.specs.Pool.{rows_in, AreLinked}

-- the words of its states, in the order of their places
abbrev pub rows_of : Pool → List (List ℕ)
rows_of pool = rows_in pool.stride pool.words.items pool.table.count

abbrev pub IsLinked : Pool → Type 0
IsLinked pool = AreLinked pool.stride pool.words.items pool.table.count pool.table.entries.items pool.keys.items

-- a pool of states of this width
pub record IsPoolOf (width : ℕ) (pool : Pool) : Type 0 where
  pub enough : width ≤ 64 * pool.stride
  pub no_more : 64 * pool.stride < width + 64
  pub linked : IsLinked pool
  pub stored : AreStored width (rows_of pool)
