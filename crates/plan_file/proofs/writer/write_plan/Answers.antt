use Rattle.task.specs.Task.{task_of}
use Rattle.formulas.specs.State.{instance_of, plan_of}
use Rattle.model.specs.PlanWriting.{step_line, cost_line}
use Rattle.plan_file.proofs.WritingLemmas.{piece_partly, last_partly}
use Rattle.plan_file.proofs.writer.write_plan.Goals as goal

pub returns-in_err-write_step-clause-beginning : goal.returns-in_err-write_step-clause-beginning
returns-in_err-write_step-clause-beginning g c =
    piece_partly (step_line (task_of c.args.task.now)) instance_of c.steps-step-items.result.now c.loop-step.step-index _ _ _ c.loop-step.invariant.taken
    c.step-item.result c.loop-step-test.true c.step-item.is (plan_of c.args.plan.now) (cost_line c.args.cost) c.steps-step-items.ensures.steps c.write_step.ensures.beginning

pub returns-clause-beginning : goal.returns-clause-beginning
returns-clause-beginning g c =
    last_partly (step_line (task_of c.args.task.now)) instance_of c.steps-step-items.result.now c.loop-step.step-index _ _ _ c.loop-step.invariant.taken
    c.loop-step-test.false (plan_of c.args.plan.now) c.steps-step-items.ensures.steps (cost_line c.args.cost) c.write_cost.ensures.beginning
