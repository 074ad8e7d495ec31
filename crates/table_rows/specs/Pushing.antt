-- Appending a row in memory.
use Rattle.std.specs.Prelude.{◌≡◌, Bool, ℤ, List, [], ◌∷◌, ◌++◌, Contains, MatchBool}
use Rattle.packed_state.specs.PooledView.{pooled_states}
use Rattle.table_rows.specs.declared.rows.Rows.{Rows}

-- both are unchanged
pub record AreSameRows (old new : Rows) : Type 0 where
  pub sets : pooled_states new.sets ≡ pooled_states old.sets
  pub weights : new.weights.items ≡ old.weights.items

-- the set and its weights are appended if the set is new; else all is unchanged
abbrev pub ArePushed : (old new : Rows) → List Bool → List ℤ → Bool → Type 0
ArePushed old new set weights is_new =
    MatchBool is_new
    ((¬ Contains (pooled_states old.sets) set) × (pooled_states new.sets ≡ pooled_states old.sets ++ set ∷ []) × (new.weights.items ≡ old.weights.items ++ weights))
    (Contains (pooled_states old.sets) set × AreSameRows old new)
