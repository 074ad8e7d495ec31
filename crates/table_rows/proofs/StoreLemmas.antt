-- The sets and the weights of a table in memory.
use Rattle.std.proofs.Common.{◌≡◌, ◌∙◌, ℕ, ◌*◌, ◌≤◌, Bool, true, false, List, [], ◌∷◌, ◌++◌, length, sym, ap, arith, ℤ}
use Rattle.std.specs.Prelude.{Contains, IfOk, OnErr, MatchBool, Result, Ok, Err}
use Rattle.std.proofs.lemmas.List.{length-map}
use Rattle.model.proofs.ListLemmas.{map-Contains, Contains-got}
use Rattle.packed_state.specs.declared.pooled.PooledStore.{PooledStore}
use Rattle.packed_state.specs.PooledStore.{rows_of}
use Rattle.packed_state.specs.PooledView.{pooled_width, pooled_states}
use Rattle.packed_state.specs.Store.{sets_in, IsPlaced}
use Rattle.packed_state.specs.Words.{bits_in}
use Rattle.packed_state.proofs.PackedLemmas.{length-bits}
use Rattle.table_rows.specs.declared.rows.Rows.{Rows}
use Rattle.table_rows.specs.Pushing.{AreSameRows, ArePushed}
use Rattle.table_rows.proofs.RowLemmas.{many-weights}

pub sets-wide : (store : PooledStore) (width : ℕ) → pooled_width store ≡ width → (set : List Bool) → Contains (pooled_states store) set → length set ≡ width
unfolding sets_in
sets-wide store width is set at =
    let it = map-Contains (bits_in store.width) (rows_of store.pool) set at in
    sym (ap length it.2) ∙ length-bits store.width it.0 ∙ is

pub few-sets : (store : PooledStore) → length (pooled_states store) ≤ 16777216
unfolding sets_in
few-sets store = let few = store.pooled.stored.few in omega (arith, few, length-map (rows_of store.pool) (bits_in store.width))

-- a set that is not new was there before
pub was-there : {X : Type 0} (old new : List X) (x : X) (place : ℕ) (is_new : Bool) → is_new ≡ false → IsPlaced old new x place is_new → Contains old x × (new ≡ old)
was-there old new x place true is placed = absurd (cc)
was-there old new x place false is (at, kept) = (Contains-got old place x at, kept)

-- what a push says of the lists
pub as-lists : (old new : Rows) (set : List Bool) (weights : List ℤ) (is_new : Bool) → ArePushed old new set weights is_new
    → MatchBool is_new ((Contains (pooled_states old.sets) set → ⊥) × (pooled_states new.sets ≡ pooled_states old.sets ++ set ∷ []) × (new.weights.items ≡ old.weights.items ++ weights))
    (Contains (pooled_states old.sets) set × (pooled_states new.sets ≡ pooled_states old.sets) × (new.weights.items ≡ old.weights.items))
as-lists old new set weights true pushed = pushed
as-lists old new set weights false (among, same) = (among, same.sets, same.weights)

-- after it there are still as many weights to a row
pub still-many : {E : Type 0} (count : ℕ) (old new : Rows) (set : List Bool) (weights : List ℤ) (result : Result Bool E) → length old.weights.items ≡ count * length (pooled_states old.sets) → length weights ≡ count
    → IfOk result (ArePushed old new set weights) → OnErr result (AreSameRows old new) → length new.weights.items ≡ count * length (pooled_states new.sets)
still-many count old new set weights (Ok is_new) many long pushed same =
    many-weights count (pooled_states old.sets) (pooled_states new.sets) old.weights.items new.weights.items weights set is_new many long (as-lists old new set weights is_new pushed)
still-many count old new set weights (Err e) many long pushed same = ap length same.weights ∙ many ∙ ap (λ sets. count * length sets) (sym same.sets)
