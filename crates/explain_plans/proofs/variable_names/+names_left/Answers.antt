use Rattle.std.proofs.Common.{◌∙◌, ◌+◌, ap, drop, map, sym}
use Rattle.std.proofs.lemmas.List.{at_drop_all}
use Rattle.task.specs.TaskParts.{formula_of}
use Rattle.task.specs.Names.{names_in}
use Rattle.explain_plans.specs.NamesLeft.{names_left, after_all_lines, formulas}
use Rattle.explain_plans.proofs.FormulaLists.{conjunction, disjunction, next_left}
use Rattle.explain_plans.proofs.variable_names.+names_left.Goals as goal

pub names_after-returns-in-And : goal.names_after-returns-in-And
names_after-returns-in-And t c =
    c.names_after_each.ensures
    ∙ ap (λ f. names_left f (names_in c.args.names.now)) (sym (conjunction c.args.formula.now c.in-And.parts c.deref.result.now c.in-And.is c.deref.ensures.value))

pub names_after-returns-in-Or : goal.names_after-returns-in-Or
names_after-returns-in-Or t c =
    c.names_after_each-in-Or.ensures
    ∙ ap (λ f. names_left f (names_in c.args.names.now)) (sym (disjunction c.args.formula.now c.in-Or.parts c.deref-in-Or.result.now c.in-Or.is c.deref-in-Or.ensures.value))

pub names_after_each-loop-part-preserved : goal.names_after_each-loop-part-preserved
names_after_each-loop-part-preserved t c =
    let parts = c.args.parts.now in
    let index = c.loop-part.part-index in
    ap (after_all_lines (formulas (map formula_of (drop (index + 1) parts)))) c.names_after-left.ensures
    ∙ sym (next_left (λ xs. after_all_lines (formulas (map formula_of xs)) (names_in c.loop-part.left.now)) parts index c.part-item.result c.loop-part-test.true c.part-item.is)
    ∙ c.loop-part.invariant

pub names_after_each-returns : goal.names_after_each-returns
names_after_each-returns t c =
    sym (at_drop_all (λ xs. after_all_lines (formulas (map formula_of xs)) (names_in c.loop-part.left.now)) c.args.parts.now c.loop-part.part-index c.loop-part-test.false)
    ∙ c.loop-part.invariant
