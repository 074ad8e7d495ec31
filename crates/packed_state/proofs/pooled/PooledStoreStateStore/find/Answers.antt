use Rattle.std.proofs.Common.{Some, None}
use Rattle.packed_state.specs.Packed.{bits_of}
use Rattle.packed_state.specs.PooledStore.{rows_of}
use Rattle.packed_state.proofs.StoreLemmas.{found_state}
use Rattle.packed_state.proofs.pooled.PooledStoreStateStore.find.Goals as goal

pub returns-in-Ok : goal.returns-in-Ok
returns-in-Ok c =
    let s = c.args.self.now in
    found_state s.width _ (rows_of s.pool) c.words.result.now (bits_of c.args.state.now) c.requires s.pooled.stored c.words.ensures.packed c.words.ensures.bits (Some c.in-Ok.place) c.in-Ok.ensures

pub returns-in-Err : goal.returns-in-Err
returns-in-Err c =
    let s = c.args.self.now in
    found_state s.width _ (rows_of s.pool) c.words.result.now (bits_of c.args.state.now) c.requires s.pooled.stored c.words.ensures.packed c.words.ensures.bits None c.in-Err.ensures.0
