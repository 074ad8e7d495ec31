use Rattle.std.proofs.Common.{arith}
use Rattle.packed_state.specs.PooledView.{pooled_states}
use Rattle.packed_state.specs.Packed.{bits_of}
use Rattle.table_rows.proofs.RowLemmas.{length-rows, row-set}
use Rattle.table_rows.proofs.table.Table.get.Goals as goal

pub get-requires-clause-there : goal.get-requires-clause-there
get-requires-clause-there c =
    let t = c.args.self.now in
    omega (arith, c.requires.there, length-rows t.count t.scope.items (pooled_states t.rows.sets) t.rows.weights.items)

pub returns-clause-atoms : goal.returns-clause-atoms
returns-clause-atoms c =
    let t = c.args.self.now in
    λ r at. row-set t.count t.scope.items (pooled_states t.rows.sets) t.rows.weights.items c.args.row (bits_of c.get.new.into) r c.get.ensures.set at
