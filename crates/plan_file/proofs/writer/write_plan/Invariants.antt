use Rattle.std.proofs.Common.{◌≡◌, map, take}
use Rattle.std.specs.Io.KnownBytes.{Appends}
use Rattle.std.specs.List.{flat_map}
use Rattle.task.specs.Task.{task_of}
use Rattle.formulas.specs.State.{instance_of}
use Rattle.model.specs.PlanWriting.{step_line}
use Rattle.plan_file.proofs.writer.write_plan.Given as goal

-- the lines of the steps so far were taken, and no call has failed
abbrev pub invariant-loop-step : goal.invariant-loop-step
invariant-loop-step g l =
    record {
      taken : Appends (g.W.Sink.taken l.initial.out) (g.W.Sink.taken l.out) (flat_map (step_line (task_of l.task)) (map instance_of (take l.step-index l.step-items)));
      failures : g.W.Sink.failures l.out ≡ g.W.Sink.failures l.initial.out;
    }
