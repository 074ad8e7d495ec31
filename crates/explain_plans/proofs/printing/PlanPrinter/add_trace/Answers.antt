use Rattle.std.proofs.Common.{arith, ◌≡◌, ◌≤◌, ◌+◌, ◌++◌, ap, sym, subst, ◌∙◌, append_assoc, append-nil, drop, length, None, Some}
use Rattle.std.specs.Option.{option_map}
use Rattle.std.proofs.lemmas.List.{length-map}
use Rattle.task.specs.Task.{task_of}
use Rattle.formulas.specs.State.{instance_of, plan_of, state_of}
use Rattle.model.specs.Meaning.{cost_of, is_instance, step}
use Rattle.model.proofs.Tests.{passes_got}
use Rattle.validator.proofs.VerdictRuns.{occurs}
use Rattle.explain_plans.specs.PlanLines.{cost_line}
use Rattle.explain_plans.specs.Traces.{change_lines, trace_lines}
use Rattle.explain_plans.proofs.TraceLemmas.{trace_end, trace_more, trace_stops}
use Rattle.explain_plans.proofs.printing.PlanPrinter.add_trace.Goals as goal

pub loop-index-init : goal.loop-index-init
loop-index-init c =
    let task = task_of c.args.self.now.task.now in
    record {
      few = omega arith;
      same = ap (λ s. c.args.text.now.items ++ trace_lines task 0 0 s (plan_of c.args.self.now.plan.now)) c.in_ok-state.ensures;
    }

pub apply-requires : goal.apply-requires
apply-requires c =
    passes_got (is_instance (task_of c.args.self.now.task.now)) (plan_of c.args.self.now.plan.now) c.loop-index.index (instance_of c.step-item.result)
    (occurs c.steps-step-items.result.now (plan_of c.args.self.now.plan.now) c.loop-index.index c.step-item.result c.steps-step-items.ensures.steps c.loop-index-test.true c.step-item.is)
    c.requires

pub overflow_add-total : goal.overflow_add-total
overflow_add-total c = omega (arith, c.loop-index.invariant.few, c.loop-index-test.true, c.steps-step-items.ensures.at_most, c.from-total.ensures)

pub loop-index-preserved : goal.loop-index-preserved
loop-index-preserved c =
    let task = task_of c.args.self.now.task.now in
    let plan = plan_of c.args.self.now.plan.now in
    let index = c.loop-index.index in
    let total = c.loop-index.total in
    let before = state_of c.loop-index.state in
    let after = state_of c.in-Some.next in
    let i = instance_of c.step-item.result in
    let here = occurs c.steps-step-items.result.now plan index c.step-item.result c.steps-step-items.ensures.steps c.loop-index-test.true c.step-item.is in
    let leads : step task before i ≡ Some after = sym c.in_ok-next.ensures ∙ ap (option_map state_of) c.in-Some.is in
    let cost = cost_of task i in
    let is_cost : c.from-total.result ≡ cost = c.from-total.ensures ∙ c.cost-cost.ensures in
    let line = cost_line task (index + 1) i cost (total + cost) in
    let changes = change_lines task before after in
    let rest = trace_lines task (index + 1) (total + cost) after (drop (index + 1) plan) in
    let with_line : c.add_step.new.text.items ≡ c.loop-index.text.items ++ line =
    c.in_ok-add_step.ensures ∙ (λ k. c.loop-index.text.items ++ cost_line task (index + 1) i (c.cost-cost.ensures k) (total + is_cost k)) in
    let added : c.add_changes.new.text.items ≡ (c.loop-index.text.items ++ line) ++ changes =
    c.in_ok-add_changes.ensures ∙ ap (λ l. l ++ changes) with_line in
    record {
      few = omega (arith, c.loop-index.invariant.few, c.from-total.ensures);
      same = (λ k. added k ++ trace_lines task (index + 1) (total + is_cost k) after (drop (index + 1) plan))
          ∙ append_assoc (c.loop-index.text.items ++ line) changes rest
          ∙ append_assoc c.loop-index.text.items line (changes ++ rest)
          ∙ ap (λ l. c.loop-index.text.items ++ l) (sym (trace_more task plan index total before i here after leads))
          ∙ c.loop-index.invariant.same;
    }

pub returns-in_default : goal.returns-in_default
returns-in_default c =
    let task = task_of c.args.self.now.task.now in
    let plan = plan_of c.args.self.now.plan.now in
    let here = occurs c.steps-step-items.result.now plan c.loop-index.index c.step-item.result c.steps-step-items.ensures.steps c.loop-index-test.true c.step-item.is in
    let blocked : step task (state_of c.loop-index.state) (instance_of c.step-item.result) ≡ None = sym c.in_ok-next.ensures ∙ ap (option_map state_of) c.in_default.is in
    sym (append-nil c.loop-index.text.items)
    ∙ ap (λ l. c.loop-index.text.items ++ l)
    (sym (trace_stops task plan c.loop-index.index c.loop-index.total (state_of c.loop-index.state) (instance_of c.step-item.result) here blocked))
    ∙ c.loop-index.invariant.same

pub returns : goal.returns
returns c =
    let plan = plan_of c.args.self.now.plan.now in
    let past : length plan ≤ c.loop-index.index =
    subst (λ n. n ≤ c.loop-index.index) (sym (length-map c.steps-step-items.result.now instance_of) ∙ ap length c.steps-step-items.ensures.steps) c.loop-index-test.false in
    sym (append-nil c.loop-index.text.items)
    ∙ ap (λ l. c.loop-index.text.items ++ l)
    (sym (trace_end (task_of c.args.self.now.task.now) plan c.loop-index.index c.loop-index.total (state_of c.loop-index.state) past))
    ∙ c.loop-index.invariant.same
