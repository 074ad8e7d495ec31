use Rattle.std.proofs.Common.{◌≡◌, drop, map, ◌++◌}
use Rattle.task.specs.Task.{task_of}
use Rattle.task.specs.TaskParts.{formula_of}
use Rattle.explain_plans.specs.FormulaText.{parts_text}
use Rattle.explain_plans.specs.ScopeView.{scope_of}
use Rattle.explain_plans.specs.NamesLeft.{formulas}
use Rattle.explain_plans.proofs.formula_text.FormulaPrinter.+formula.Given as goal

-- together with the texts of the remaining parts, those of all are added
abbrev pub invariant-add_parts-loop-part : goal.invariant-add_parts-loop-part
invariant-add_parts-loop-part l =
    l.text.items ++ parts_text (task_of l.self.task.now) (scope_of l.scope) (formulas (map formula_of (drop l.part-index l.parts)))
    ≡ l.initial.text.items ++ parts_text (task_of l.self.task.now) (scope_of l.self.scope) (formulas (map formula_of l.parts))
