use Rattle.std.proofs.Common.{◌∙◌, length, arith}
use Rattle.packed_state.specs.PooledView.{pooled_states}
use Rattle.packed_state.specs.Packed.{bits_of}
use Rattle.faults.proofs.Results.{if_ok}
use Rattle.table_rows.proofs.RowLemmas.{length-rows, inserted}
use Rattle.table_rows.proofs.StoreLemmas.{sets-wide, as-lists, still-many}
use Rattle.table_rows.proofs.table.Table.insert.Goals as goal

pub push-requires-clause-room : goal.push-requires-clause-room
push-requires-clause-room c =
    let t = c.args.self.now in
    omega (arith, c.requires.room, length-rows t.count t.scope.items (pooled_states t.rows.sets) t.rows.weights.items)

pub invariant_of-self : goal.invariant_of-self
invariant_of-self c =
    let t = c.args.self.now in
    record {
      few = t.few;
      rising = t.rising;
      wide = c.push.ensures.width ∙ t.wide;
      weighed = still-many t.count t.rows c.push.new.self (bits_of c.args.set.now) c.args.weights.now c.push.result t.weighed c.requires.weights c.push.ensures.ok c.push.ensures.err;
    }

pub returns-clause-ok : goal.returns-clause-ok
returns-clause-ok c =
    let t = c.args.self.now in
    if_ok c.push.result (λ is_new pushed.
    inserted t.count t.scope.items t.rising (bits_of c.args.set.now) c.requires.width (pooled_states t.rows.sets) (pooled_states c.push.new.self.sets) t.rows.weights.items c.push.new.self.weights.items c.args.weights.now is_new
    (sets-wide t.rows.sets (length t.scope.items) t.wide) t.weighed c.requires.weights (as-lists t.rows c.push.new.self (bits_of c.args.set.now) c.args.weights.now is_new pushed)) c.push.ensures.ok
