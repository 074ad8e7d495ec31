use Rattle.std.proofs.Common.{List, ℕ, ap, sym, subst, arith}
use Rattle.packed_state.specs.Store.{AreStored, sets_in}
use Rattle.packed_state.proofs.StoreLemmas.{none_stored}
use Rattle.packed_state.proofs.pooled.PooledStore.new.Goals as goal

pub invariant_of-result : goal.invariant_of-result
invariant_of-result c =
    record {
      pooled = record {
        enough = omega (arith, c.words_for.ensures.enough, c.in_ok-pool.ensures.rows.1);
        no_more = omega (arith, c.words_for.ensures.no_more, c.in_ok-pool.ensures.rows.1);
        linked = c.in_ok-pool.ensures.linked;
        stored = subst (λ (rows : List (List ℕ)). AreStored c.args.width rows) (sym c.in_ok-pool.ensures.rows.0) (none_stored c.args.width);
      };
    }

pub returns-clause-states : goal.returns-clause-states
unfolding sets_in
returns-clause-states c = ap (sets_in c.args.width) c.in_ok-pool.ensures.rows.0
