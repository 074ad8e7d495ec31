use Rattle.search.proofs.best.best_first.Goals.{in-Found, in-Exhausted, in-States}
use Rattle.search.proofs.best.best_first.Goals as goal

pub returns-clause-outcome : goal.returns-clause-outcome
returns-clause-outcome g c =
    elim c.match-branch-3.branch [
      | in-Found w ↦ rw (w.result-is, w.in_store.ensures.store, w.in_store.ensures.nodes) (rw w.in-Found.is at c.in_ok-steps.ensures.outcome)
      | in-Exhausted w ↦ rw (w.result-is, w.in_store-in-Exhausted.ensures.store, w.in_store-in-Exhausted.ensures.nodes) (rw w.in-Exhausted.is at c.in_ok-steps.ensures.outcome)
      | in-States w ↦ rw (w.result-is, w.in_store-in-States.ensures.store, w.in_store-in-States.ensures.nodes) (rw w.in-States.is at c.in_ok-steps.ensures.outcome)
    ]
