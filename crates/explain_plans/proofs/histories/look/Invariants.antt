use Rattle.task.specs.Task.{task_of}
use Rattle.formulas.specs.State.{state_of}
use Rattle.explain_plans.proofs.HistoryLemmas.{IsLookedSoFar}
use Rattle.explain_plans.proofs.histories.look.Given as goal

-- the parts so far are updated
abbrev pub invariant-loop-place : goal.invariant-loop-place
invariant-loop-place l =
    IsLookedSoFar (task_of l.task) (state_of l.before.state.now) l.before.step l.parts l.place l.initial.histories.items l.histories.items
