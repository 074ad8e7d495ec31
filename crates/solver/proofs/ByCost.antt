-- What a search by an estimate may have to find, one by cost alone may have to find too.
use Rattle.std.proofs.Common.{Bool, ℕ, arith}
use Rattle.model.specs.Runs.{System}
use Rattle.search.specs.Outcome as search
use Rattle.search_spaces.specs.Reachable.{PrecedesPlans, is_initial, is_next, AreMoreReachable}

precedes_by_cost : {S A : Type 0} (t : System S A) (value : S → ℕ) (is_dead : S → Bool) (s : S) → search.PrecedesPlans t value is_dead s → PrecedesPlans t s
precedes_by_cost t value is_dead s (search.is_initial is) = is_initial is
precedes_by_cost t value is_dead s (search.is_next actions before a runs missed alive cheap leads) = is_next actions before a runs missed (λ plan solves. omega (arith, cheap plan solves)) leads

pub more_by_cost : {S A : Type 0} (t : System S A) (value : S → ℕ) (is_dead : S → Bool) (max_states : ℕ) → search.AreMoreReachable t value is_dead max_states → AreMoreReachable t max_states
more_by_cost t value is_dead max_states (states, distinct, preceding, more) =
    (states, distinct, (λ s among. let (reached, precedes) = preceding s among in (reached, precedes_by_cost t value is_dead s precedes)), more)
