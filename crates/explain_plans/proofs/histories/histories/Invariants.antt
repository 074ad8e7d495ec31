use Rattle.std.proofs.Common.{◌≡◌, take, length, map, Some}
use Rattle.task.specs.Task.{task_of}
use Rattle.formulas.specs.State.{state_of, instance_of}
use Rattle.model.specs.Runs.{run}
use Rattle.model.specs.Meaning.{initial_state, system_of}
use Rattle.explain_plans.proofs.HistoryLemmas.{AreHistoriesBefore}
use Rattle.explain_plans.proofs.histories.histories.Given as goal

-- the steps so far lead to this state, and the histories are those of the states before it
abbrev pub invariant-loop-index : goal.invariant-loop-index
invariant-loop-index l =
    record {
      runs : run (system_of (task_of l.task)) (initial_state (task_of l.task)) (take l.index (map instance_of l.steps)) ≡ Some (state_of l.state);
      one_each : length l.histories.items ≡ length l.parts;
      so_far : AreHistoriesBefore (task_of l.task) (map instance_of l.steps) l.index l.parts l.histories.items;
    }
