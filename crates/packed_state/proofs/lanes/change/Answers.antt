use Rattle.std.proofs.Common.{arith}
use Rattle.packed_state.proofs.LaneLemmas.{chunk_changed, cut_word}
use Rattle.packed_state.proofs.lanes.change.Goals as goal

pub chunks-preserved : goal.chunks-preserved
chunks-preserved c =
    let within = c.chunks-test.true in
    let deleted = cut_word c.args.deletes.now _ c.as_chunks.ensures.front c.chunks.place (omega (arith, c.as_chunks.ensures.front_len)) in
    let added = cut_word c.args.adds.now _ c.as_chunks-2.ensures.front c.chunks.place (omega (arith, c.as_chunks.ensures.front_len, c.requires.deletes, c.requires.adds)) in
    chunk_changed c.chunks.place c.args.words.now c.args.deletes.now c.args.adds.now c.chunks.words _ _ c.chunks.invariant
    (omega (arith, c.as_chunks.ensures.front_len, c.requires.deletes)) deleted.0 added.0 deleted.1 added.1
