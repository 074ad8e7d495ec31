use Rattle.std.proofs.Common.{rules, ◌≡◌, ◌∙◌, ap, subst, map, length}
use Rattle.task.specs.Task.{task_of}
use Rattle.formulas.specs.State.{state_of, instance_of}
use Rattle.explain_plans.specs.Parts.{AreHistories}
use Rattle.explain_plans.proofs.HistoryLemmas.{false_after}
use Rattle.explain_plans.proofs.explanations.why_false.Goals as goal

pub histories-requires-clause-are_false : goal.histories-requires-clause-are_false
histories-requires-clause-are_false c =
    let same : c.as_slice.result.now ≡ c.in_ok-parts.field-0.parts.items = search rules in
    false_after (task_of c.args.context.task.now) c.args.steps.now (state_of c.args.context.state.now) c.requires.leads c.as_slice.result.now c.in_ok-parts.field-0.parts.items same
    c.in_ok-parts.ensures.are_false

pub histories-requires-clause-runs : goal.histories-requires-clause-runs
histories-requires-clause-runs c = (state_of c.args.context.state.now, c.requires.leads)

pub returns : goal.returns
returns c =
    let same : c.as_slice.result.now ≡ c.in_ok-parts.field-0.parts.items = search rules in
    record {
      state = state_of c.args.context.state.now;
      runs = c.requires.leads;
      parts = c.in_ok-parts.ensures.reported;
      one_each = c.in_ok-histories.ensures.one_each ∙ ap length same;
      histories = subst (λ l. AreHistories (task_of c.args.context.task.now) (map instance_of c.args.steps.now) l c.in_ok-histories.histories.items) same c.in_ok-histories.ensures.since;
    }
