use Rattle.std.proofs.Common.{◌≡◌, [], ◌++◌, ◌∙◌, ap, map, subst, sym}
use Rattle.std.specs.Prelude.{codes}
use Rattle.task.specs.Task.{task_of}
use Rattle.task.specs.TaskParts.{increase_of, lifted_atom_of, object_of}
use Rattle.task.specs.NumberedNames.{function_name}
use Rattle.explain_plans.specs.FormulaText.{atom_text, scope_at}
use Rattle.explain_plans.specs.PlanLines.{increase_text}
use Rattle.explain_plans.specs.ScopeView.{scope_of}
use Rattle.explain_plans.proofs.PlanLinesLemmas.{two_added}
use Rattle.explain_plans.proofs.printing.PlanPrinter.add_increase.Goals as goal

pub returns-in_ok-extend_from_slice-in-Function : goal.returns-in_ok-extend_from_slice-in-Function
returns-in_ok-extend_from_slice-in-Function c =
    let task = task_of c.args.self.now.task.now in
    let old = c.args.text.now.items in
    let objects = map object_of c.args.objects.now in
    let f = lifted_atom_of c.in-Function.function in
    let last = c.extend_from_slice.new.self.items in
    let name = c.name_of_function-name.ensures in
    subst (λ i. last ≡ old ++ increase_text task objects (increase_of i)) (sym c.in-Function.is)
    (two_added old (atom_text task (scope_at objects []) (function_name task f.predicate) f.terms) (codes " has no value.\n") c.add_atom.new.text.items last
    (c.in_ok-add_atom-in-Function.ensures
    ∙ ap (λ t. old ++ atom_text (task_of t) (scope_of c.formula_printer.result.scope) c.name_of_function-name.result.now f.terms) c.formula_printer.ensures.task
    ∙ ap (λ s. old ++ atom_text task s c.name_of_function-name.result.now f.terms) c.formula_printer.ensures.scope
    ∙ ap (λ n. old ++ atom_text task (scope_at objects []) n f.terms) name)
    c.in_ok-extend_from_slice-in-Function.ensures.items)
