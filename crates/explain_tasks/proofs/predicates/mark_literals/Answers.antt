use Rattle.std.proofs.Common.{sym}
use Rattle.task.specs.TaskParts.{effect_literal_of}
use Rattle.formulas.proofs.Trees.{list_any_map}
use Rattle.formulas.proofs.FluentMarks.{marks_none, marks_more, marks_all, marks_by}
use Rattle.explain_tasks.specs.Predicates.{makes}
use Rattle.explain_tasks.proofs.predicates.mark_literals.Goals as goal

pub loop-literal-init : goal.loop-literal-init
loop-literal-init c = marks_none c.args.table.now.items

pub loop-literal-preserved : goal.loop-literal-preserved
loop-literal-preserved c =
    marks_more (λ n one. makes c.args.becoming n (effect_literal_of one)) c.args.literals.now c.loop-literal.literal-index c.args.table.now.items
    c.literal-item.result c.loop-literal.table.items c.mark_literal.new.table.items c.loop-literal-test.true c.literal-item.is c.loop-literal.invariant c.in_ok-mark_literal.ensures

pub returns : goal.returns
returns c =
    marks_by _ _ c.args.table.now.items c.loop-literal.table.items (λ n. sym (list_any_map (makes c.args.becoming n) effect_literal_of c.args.literals.now))
    (marks_all (λ n one. makes c.args.becoming n (effect_literal_of one)) c.args.literals.now c.loop-literal.literal-index c.args.table.now.items c.loop-literal.table.items c.loop-literal-test.false c.loop-literal.invariant)
