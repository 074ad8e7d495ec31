use Rattle.std.proofs.Common.{ap, sym, subst, map, vec_items, List, ℕ}
use Rattle.packed_state.specs.Store.{sets_in, AreStored}
use Rattle.packed_state.proofs.StoreLemmas.{none_stored}
use Rattle.packed_state.proofs.plain.PlainStore.new.Goals as goal

pub invariant_of-result : goal.invariant_of-result
invariant_of-result c =
    record { stored = subst (λ (rows : List (List ℕ)). AreStored c.args.width rows) (sym (ap (map vec_items) c.new.ensures.empty)) (none_stored c.args.width) }

pub returns-clause-states : goal.returns-clause-states
unfolding sets_in
returns-clause-states c = ap (λ keys. sets_in c.args.width (map vec_items keys)) c.new.ensures.empty
