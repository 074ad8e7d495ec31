use Rattle.std.proofs.Common.{◌≡◌, ◌≤◌, ◌*◌, take, Some}
use Rattle.task.specs.Task.{task_of}
use Rattle.formulas.specs.State.{state_of, plan_of}
use Rattle.model.specs.Runs.{run, cost_of_all}
use Rattle.model.specs.Meaning.{system_of}
use Rattle.validator.proofs.verdict.run_plan.Given as goal

-- the instances so far lead to this state, and this is their cost: each is at most what a u32 can be
abbrev pub invariant-loop-index : goal.invariant-loop-index
invariant-loop-index l =
    let system = system_of (task_of l.task) in
    let before = take l.index (plan_of l.plan) in
    record {
      runs : run system system.initial before ≡ Some (state_of l.state);
      costs : l.total ≡ cost_of_all system before;
      few : l.total ≤ l.index * 4294967295;
    }
