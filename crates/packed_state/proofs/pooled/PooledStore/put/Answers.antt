use Rattle.std.proofs.Common.{◌≡◌, ◌∙◌, List, ℕ, length, ap, sym, subst, arith}
use Rattle.packed_state.specs.Store.{AreStored}
use Rattle.packed_state.specs.PooledStore.{rows_of}
use Rattle.packed_state.proofs.StoreLemmas.{one_stored}
use Rattle.packed_state.proofs.PoolLemmas.{length-rows, either_way}
use Rattle.packed_state.proofs.pooled.PooledStore.put.Goals as goal

pub make_room-requires-clause-few : goal.make_room-requires-clause-few
make_room-requires-clause-few c =
    let p = c.args.self.now.pool in
    omega (arith, c.requires.room, length-rows p.stride p.words.items p.table.count)

pub push-requires-clause-few : goal.push-requires-clause-few
push-requires-clause-few c =
    let p = c.args.self.now.pool in
    omega (arith, c.requires.room, length-rows p.stride p.words.items p.table.count, c.make_room.ensures.count)

pub invariant_of-self-in-Err : goal.invariant_of-self-in-Err
invariant_of-self-in-Err c =
    let s = c.args.self.now in
    let q = c.make_room.new.self in
    let same : rows_of q ≡ rows_of s.pool = c.make_room.ensures.rows in
    let wide : c.push.new.self.stride ≡ s.pool.stride = c.push.ensures.stride ∙ c.make_room.ensures.stride in
    record {
      pooled = record {
        enough = omega (arith, s.pooled.enough, wide);
        no_more = omega (arith, s.pooled.no_more, wide);
        linked = c.push.ensures.linked;
        stored =
            let stored : AreStored s.width (rows_of q) = subst (λ (rows : List (List ℕ)). AreStored s.width rows) (sym same) s.pooled.stored in
            either_way (AreStored s.width) c.push.result (rows_of q) (rows_of c.push.new.self) c.args.words.now c.push.ensures.ok c.push.ensures.err stored
            (one_stored s.width (rows_of q) c.args.words.now stored c.requires.packed (omega (arith, c.requires.room, ap length same)) c.in-Err.ensures.0);
      };
    }
