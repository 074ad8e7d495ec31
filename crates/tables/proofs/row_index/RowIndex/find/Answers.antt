use Rattle.std.proofs.Common.{Some, length, subst}
use Rattle.std.specs.Prelude.{◌≡◌, IfSome, slice_get}
use Rattle.packed_state.specs.PooledView.{pooled_states}
use Rattle.packed_state.specs.Packed.{bits_of}
use Rattle.tables.specs.Keys.{HasKey}
use Rattle.tables.specs.RowIndex.{keys_in}
use Rattle.tables.proofs.KeysLemmas.{key-set}
use Rattle.table_rows.proofs.RowLemmas.{finds, found-within}
use Rattle.table_rows.proofs.StoreLemmas.{sets-wide}
use Rattle.tables.proofs.row_index.RowIndex.find.Goals as goal
use Rattle.tables.proofs.row_index.RowIndex.find.Goals.{In-Some}

at : (c : In-Some) → slice_get (pooled_states c.args.self.now.table.now.rows.sets) c.in-Some.row ≡ Some (bits_of c.args.set.now)
at c =
    let t = c.args.self.now.table.now in
    let has : HasKey (keys_in c.args.self.now) c.words.result.now c.in-Some.row = subst (λ o. IfSome o (HasKey (keys_in c.args.self.now) c.words.result.now)) c.in-Some.is c.find_words.ensures in
    key-set (length t.scope.items) (pooled_states t.rows.sets) (keys_in c.args.self.now) c.words.result.now (bits_of c.args.set.now) c.in-Some.row c.args.self.now.keyed c.requires c.words.ensures.bits has

pub returns-in-Some-clause-there : goal.returns-in-Some-clause-there
returns-in-Some-clause-there c =
    let t = c.args.self.now.table.now in
    found-within t.count t.scope.items (pooled_states t.rows.sets) t.rows.weights.items (bits_of c.args.set.now) (Some c.in-Some.row) (at (goal.at.returns-in-Some-clause-there c).In-Some)

pub returns-in-Some-clause-row : goal.returns-in-Some-clause-row
returns-in-Some-clause-row c =
    let t = c.args.self.now.table.now in
    finds t.count t.scope.items t.rising (bits_of c.args.set.now) c.requires (pooled_states t.rows.sets) t.rows.weights.items (sets-wide t.rows.sets (length t.scope.items) t.wide) t.rows.sets.pooled.stored.distinct
    (Some c.in-Some.row) (at (goal.at.returns-in-Some-clause-row c).In-Some)
