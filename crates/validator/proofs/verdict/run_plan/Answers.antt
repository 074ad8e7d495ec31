use Rattle.std.proofs.Common.{arith, refl, ◌∙◌, ap, sym, length, subst, ◌≤◌, Some}
use Rattle.std.specs.Option.{option_map}
use Rattle.std.proofs.Math.ListN.{length-map}
use Rattle.task.specs.Task.{task_of}
use Rattle.formulas.specs.State.{state_of, instance_of, plan_of}
use Rattle.model.specs.Meaning.{is_instance, system_of}
use Rattle.model.proofs.Tests.{passes_got}
use Rattle.validator.proofs.VerdictRuns.{occurs, run_before, run_more, run_whole, cost_more, cost_whole, stops}
use Rattle.validator.proofs.verdict.run_plan.Goals as goal

pub loop-index-init : goal.loop-index-init
loop-index-init c = record { runs = ap Some (sym c.in_ok-state.ensures); costs = refl; few = omega arith }

pub apply-requires : goal.apply-requires
apply-requires c =
    passes_got (is_instance (task_of c.args.task.now)) (plan_of c.args.plan.now) c.loop-index.index (instance_of c.instance-item.result)
    (occurs c.steps-instance-items.result.now (plan_of c.args.plan.now) c.loop-index.index c.instance-item.result c.steps-instance-items.ensures.steps c.loop-index-test.true c.instance-item.is)
    c.requires

pub overflow_add-total : goal.overflow_add-total
overflow_add-total c = omega (arith, c.loop-index.invariant.few, c.loop-index-test.true, c.steps-instance-items.ensures.at_most, c.from-total.ensures)

pub loop-index-preserved : goal.loop-index-preserved
loop-index-preserved c =
    let system = system_of (task_of c.args.task.now) in
    let plan = plan_of c.args.plan.now in
    let here = occurs c.steps-instance-items.result.now plan c.loop-index.index c.instance-item.result c.steps-instance-items.ensures.steps c.loop-index-test.true c.instance-item.is in
    record {
      runs = run_more system plan c.loop-index.index (instance_of c.instance-item.result) here
          system.initial (state_of c.loop-index.state) (state_of c.in-Some.next) c.loop-index.invariant.runs (sym c.in_ok-next.ensures ∙ ap (option_map state_of) c.in-Some.is);
      costs = cost_more system plan c.loop-index.index (instance_of c.instance-item.result) here c.loop-index.total c.from-total.result c.loop-index.invariant.costs (c.from-total.ensures ∙ c.cost.ensures);
      few = omega (arith, c.loop-index.invariant.few, c.from-total.ensures);
    }

pub returns-in-None-clause-verdict : goal.returns-in-None-clause-verdict
returns-in-None-clause-verdict c =
    stops (system_of (task_of c.args.task.now)) (plan_of c.args.plan.now) c.loop-index.index (instance_of c.instance-item.result)
    (occurs c.steps-instance-items.result.now (plan_of c.args.plan.now) c.loop-index.index c.instance-item.result c.steps-instance-items.ensures.steps c.loop-index-test.true c.instance-item.is)
    (state_of c.loop-index.state) c.loop-index.invariant.runs (sym c.in_ok-next.ensures ∙ ap (option_map state_of) c.in-None.is)

pub returns-in-None-clause-state : goal.returns-in-None-clause-state
returns-in-None-clause-state c =
    run_before (system_of (task_of c.args.task.now)) (plan_of c.args.plan.now) c.loop-index.index (state_of c.loop-index.state) c.loop-index.invariant.runs

pub returns-then-meets_goal-clause-verdict : goal.returns-then-meets_goal-clause-verdict
returns-then-meets_goal-clause-verdict c =
    let system = system_of (task_of c.args.task.now) in
    let plan = plan_of c.args.plan.now in
    let past = subst (λ n. n ≤ c.loop-index.index) (sym (length-map c.steps-instance-items.result.now instance_of) ∙ ap length c.steps-instance-items.ensures.steps) c.loop-index-test.false in (
      (
        state_of c.loop-index.state,
        run_whole system plan c.loop-index.index system.initial (state_of c.loop-index.state) past c.loop-index.invariant.runs,
        sym c.meets_goal.ensures ∙ c.if-meets_goal.true,
      ),
      cost_whole system plan c.loop-index.index c.loop-index.total past c.loop-index.invariant.costs,
    )

pub returns-then-meets_goal-clause-state : goal.returns-then-meets_goal-clause-state
returns-then-meets_goal-clause-state c =
    let system = system_of (task_of c.args.task.now) in
    let plan = plan_of c.args.plan.now in
    let past = subst (λ n. n ≤ c.loop-index.index) (sym (length-map c.steps-instance-items.result.now instance_of) ∙ ap length c.steps-instance-items.ensures.steps) c.loop-index-test.false in
    run_whole system plan c.loop-index.index system.initial (state_of c.loop-index.state) past c.loop-index.invariant.runs

pub returns-else-meets_goal-clause-state : goal.returns-else-meets_goal-clause-state
returns-else-meets_goal-clause-state c =
    let system = system_of (task_of c.args.task.now) in
    let plan = plan_of c.args.plan.now in
    let past = subst (λ n. n ≤ c.loop-index.index) (sym (length-map c.steps-instance-items.result.now instance_of) ∙ ap length c.steps-instance-items.ensures.steps) c.loop-index-test.false in
    run_whole system plan c.loop-index.index system.initial (state_of c.loop-index.state) past c.loop-index.invariant.runs

pub returns-else-meets_goal-clause-verdict : goal.returns-else-meets_goal-clause-verdict
returns-else-meets_goal-clause-verdict c =
    let system = system_of (task_of c.args.task.now) in
    let plan = plan_of c.args.plan.now in
    let past = subst (λ n. n ≤ c.loop-index.index) (sym (length-map c.steps-instance-items.result.now instance_of) ∙ ap length c.steps-instance-items.ensures.steps) c.loop-index-test.false in (
      state_of c.loop-index.state,
      run_whole system plan c.loop-index.index system.initial (state_of c.loop-index.state) past c.loop-index.invariant.runs,
      sym c.meets_goal.ensures ∙ c.if-meets_goal.false,
    )
