use Rattle.std.proofs.Common.{arith}
use Rattle.packed_state.specs.Packed.{bits_of}
use Rattle.packed_state.specs.PooledStore.{rows_of}
use Rattle.packed_state.proofs.StoreLemmas.{length-sets, placed_state}
use Rattle.packed_state.proofs.pooled.PooledStoreStateStore.insert_copy_if_new.Goals as goal

pub put-requires-clause-room : goal.put-requires-clause-room
put-requires-clause-room c =
    let s = c.args.self.now in
    omega (arith, c.requires.room, length-sets s.width (rows_of s.pool))

pub returns-clause-ok : goal.returns-clause-ok
returns-clause-ok c =
    let s = c.args.self.now in
    placed_state s.width _ c.put.new.self.width (rows_of s.pool) (rows_of c.put.new.self.pool) c.words.result.now (bits_of c.args.state.now)
    c.requires.width c.put.ensures.width s.pooled.stored c.words.ensures.packed c.words.ensures.bits c.put.result c.put.ensures.ok
