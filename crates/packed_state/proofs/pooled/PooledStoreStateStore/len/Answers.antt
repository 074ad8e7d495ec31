use Rattle.std.proofs.Common.{◌∙◌, sym}
use Rattle.packed_state.specs.PooledStore.{rows_of}
use Rattle.packed_state.proofs.StoreLemmas.{length-sets}
use Rattle.packed_state.proofs.pooled.PooledStoreStateStore.len.Goals as goal

pub returns : goal.returns
returns c =
    let s = c.args.self.now in
    c.len.ensures ∙ sym (length-sets s.width (rows_of s.pool))
