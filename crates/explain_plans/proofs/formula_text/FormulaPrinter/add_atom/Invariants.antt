use Rattle.std.proofs.Common.{◌≡◌, map, take, ◌++◌}
use Rattle.std.specs.List.{flat_map}
use Rattle.task.specs.Task.{task_of}
use Rattle.task.specs.TaskParts.{term_of}
use Rattle.explain_plans.specs.FormulaText.{term_text}
use Rattle.explain_plans.specs.ScopeView.{scope_of}
use Rattle.explain_plans.proofs.formula_text.FormulaPrinter.add_atom.Given as goal

-- the terms so far are added
abbrev pub invariant-loop-term : goal.invariant-loop-term
invariant-loop-term l =
    l.text.items ≡ l.initial.text.items
    ++ flat_map (term_text (task_of l.self.task.now) (scope_of l.self.scope)) (map term_of (take l.term-index l.atom.terms.items))
