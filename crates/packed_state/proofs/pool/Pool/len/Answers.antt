use Rattle.std.proofs.Common.{sym}
use Rattle.packed_state.proofs.PoolLemmas.{length-rows}
use Rattle.packed_state.proofs.pool.Pool.len.Goals as goal

pub returns : goal.returns
returns c =
    let p = c.args.self.now in
    sym (length-rows p.stride p.words.items p.table.count)
