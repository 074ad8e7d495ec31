use Rattle.std.proofs.Common.{◌≡◌, [], ◌++◌, ◌∙◌, ap, map, subst, sym}
use Rattle.std.specs.Prelude.{codes}
use Rattle.task.specs.Task.{task_of}
use Rattle.task.specs.TaskParts.{formula_of, object_of}
use Rattle.formulas.specs.State.{plan_of}
use Rattle.explain_plans.specs.FormulaText.{formula_text, scope_at}
use Rattle.explain_plans.specs.Parts.{history_of}
use Rattle.explain_plans.specs.PlanLines.{added_text}
use Rattle.explain_plans.specs.ScopeView.{scope_of}
use Rattle.explain_plans.proofs.PlanLinesLemmas.{three_added}
use Rattle.explain_plans.proofs.printing.PlanPrinter.add_added.Goals as goal

pub returns-in_ok-extend_from_slice-in-Always-2 : goal.returns-in_ok-extend_from_slice-in-Always-2
returns-in_ok-extend_from_slice-in-Always-2 c =
    let task = task_of c.args.self.now.task.now in
    let atom = formula_of c.args.atom.now in
    let old = c.args.text.now.items in
    let text = formula_text task (scope_at (map object_of c.args.how.objects.now) []) atom in
    let printer = c.formula_printer-printer in
    let middle = c.extend_from_slice.new.self.items in
    let last = c.extend_from_slice-in-Always.new.self.items in
    subst (λ h. last ≡ old ++ added_text task (plan_of c.args.self.now.plan.now) text (history_of h)) (sym c.in-Always.is)
    (three_added old (codes ": ") text (codes " was true from the start") middle c.add_formula.new.text.items last
    c.in_ok-extend_from_slice-in-Always.ensures.items
    (c.in_ok-add_formula-in-Always.ensures
    ∙ ap (λ t. middle ++ formula_text (task_of t) (scope_of printer.result.scope) atom) printer.ensures.task
    ∙ ap (λ s. middle ++ formula_text task s atom) printer.ensures.scope)
    c.in_ok-extend_from_slice-in-Always-2.ensures.items)
