use Rattle.std.proofs.Common.{◌≡◌, ◌+◌, ◌≤◌, ◌*◌, ◌++◌, drop, get_or, map, Some, None, refl, ap, sym, subst, ◌∙◌, append_assoc, append-nil, arith}
use Rattle.std.specs.Prelude.{slice_get}
use Rattle.std.specs.Option.{option_map}
use Rattle.std.proofs.lemmas.Option.{slice_get-get_or, slice_get-map}
use Rattle.task.specs.Task.{task_of}
use Rattle.formulas.specs.State.{instance_of, plan_of}
use Rattle.explain_plans.specs.PlanLines.{cost_line, cost_lines}
use Rattle.explain_plans.proofs.PlanLinesLemmas.{cost_end, cost_more}
use Rattle.explain_plans.proofs.printing.PlanPrinter.add_steps.Goals as goal

pub loop-index-preserved : goal.loop-index-preserved
loop-index-preserved c =
    let task = task_of c.args.self.now.task.now in
    let plan = plan_of c.args.self.now.plan.now in
    let costs = c.args.costs.now in
    let index = c.loop-index.index in
    let total = c.loop-index.total in
    let step = instance_of c.in-Some.step.now in
    let cost = get_or costs index 0 in
    let is_cost : c.from-total.result ≡ cost = c.from-total.ensures in
    let read : slice_get c.steps.result.now index ≡ Some c.in-Some.step.now =
    slice_get-get_or c.steps.result.now index c.in-Some.step.now c.in-Some.ensures.lookup.3.0 ∙ ap (λ i. Some i) (sym c.in-Some.ensures.lookup.1) in
    let here : slice_get plan index ≡ Some step =
    subst (λ l. slice_get l index ≡ Some step) c.steps.ensures.steps (slice_get-map instance_of c.steps.result.now index ∙ ap (option_map instance_of) read) in
    let there : slice_get costs index ≡ Some cost = slice_get-get_or costs index 0 c.loop-index-test.true in
    let line = cost_line task (index + 1) step cost (total + cost) in
    let added : c.add_step.new.text.items ≡ c.loop-index.text.items ++ line =
    c.in_ok-add_step.ensures ∙ (λ k. c.loop-index.text.items ++ cost_line task (index + 1) step cost (total + is_cost k)) in
    let fits = c.type_inv.costs index in (
      omega (arith, c.loop-index.invariant.0, is_cost, fits),
      (λ k. added k ++ cost_lines task (index + 1) (total + is_cost k) (drop (index + 1) plan) (drop (index + 1) costs))
          ∙ append_assoc c.loop-index.text.items line (cost_lines task (index + 1) (total + cost) (drop (index + 1) plan) (drop (index + 1) costs))
          ∙ ap (λ l. c.loop-index.text.items ++ l) (sym (cost_more task plan costs index total step cost here there))
          ∙ c.loop-index.invariant.1,
    )

pub returns : goal.returns
returns c =
    sym (append-nil c.loop-index.text.items)
    ∙ ap (λ l. c.loop-index.text.items ++ l)
    (sym (cost_end (task_of c.args.self.now.task.now) (plan_of c.args.self.now.plan.now) c.args.costs.now c.loop-index.index c.loop-index.total c.loop-index-test.false))
    ∙ c.loop-index.invariant.1
