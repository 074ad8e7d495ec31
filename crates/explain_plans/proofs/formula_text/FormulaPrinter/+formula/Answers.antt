use Rattle.std.proofs.Common.{◌≡◌, ◌++◌, subst, sym}
use Rattle.std.specs.Prelude.{OnOk}
use Rattle.task.specs.Task.{task_of}
use Rattle.explain_plans.specs.ScopeView.{scope_of}
use Rattle.explain_plans.proofs.PlanLinesLemmas.{and_text, or_text, part_added}
use Rattle.explain_plans.proofs.formula_text.FormulaPrinter.+formula.Goals as goal

pub add_formula-returns-in-And : goal.add_formula-returns-in-And
add_formula-returns-in-And t c =
    subst (λ l. OnOk c.add_parts.result (c.add_parts.new.text.items ≡ c.args.text.now.items ++ l))
    (sym (and_text (task_of c.args.self.task.now) (scope_of c.args.self.scope) c.args.formula.now c.in-And.parts c.deref.result.now c.in-And.is c.deref.ensures.value))
    c.add_parts.ensures

pub add_formula-returns-in-Or : goal.add_formula-returns-in-Or
add_formula-returns-in-Or t c =
    subst (λ l. OnOk c.add_parts-in-Or.result (c.add_parts-in-Or.new.text.items ≡ c.args.text.now.items ++ l))
    (sym (or_text (task_of c.args.self.task.now) (scope_of c.args.self.scope) c.args.formula.now c.in-Or.parts c.deref-in-Or.result.now c.in-Or.is c.deref-in-Or.ensures.value))
    c.add_parts-in-Or.ensures

pub add_parts-loop-part-preserved : goal.add_parts-loop-part-preserved
add_parts-loop-part-preserved t c =
    part_added (task_of c.args.self.task.now) (scope_of c.loop-part.scope) c.args.parts.now c.loop-part.part-index c.loop-part.text.items _ c.loop-part.invariant
    c.part-item.result c.loop-part-test.true c.part-item.is c.extend_from_slice-in-loop-part.new.self.items c.add_formula.new.text.items
    c.in_ok-extend_from_slice-2.ensures.items c.in_ok-add_formula.ensures (scope_of c.after-scope.result) c.after-scope.ensures
