use Rattle.std.proofs.Common.{◌∙◌, sym}
use Rattle.task.specs.Task.{task_of}
use Rattle.task.specs.TaskParts.{union_of}
use Rattle.formulas.proofs.Trees.{list_any_map}
use Rattle.formulas.proofs.FluentTests.{any_more, any_here, any_nowhere}
use Rattle.explain_tasks.specs.Inhabited.{is_uninhabited}
use Rattle.explain_tasks.proofs.inhabited.some_is_uninhabited.Goals as goal

pub returns-then-is_uninhabited : goal.returns-then-is_uninhabited
returns-then-is_uninhabited c =
    let test = is_uninhabited (task_of c.args.task.now) in
    any_here (λ one. test (union_of one)) c.args.unions.now c.loop-types.types-index c.types-item.result c.loop-types-test.true c.types-item.is (sym c.if-is_uninhabited.ensures)
    ∙ sym (list_any_map test union_of c.args.unions.now)

pub loop-types-preserved : goal.loop-types-preserved
loop-types-preserved c =
    any_more (λ one. is_uninhabited (task_of c.args.task.now) (union_of one)) c.args.unions.now c.loop-types.types-index c.types-item.result c.loop-types-test.true c.types-item.is c.loop-types.invariant
    (sym c.if-is_uninhabited.ensures)

pub returns : goal.returns
returns c =
    let test = is_uninhabited (task_of c.args.task.now) in
    any_nowhere (λ one. test (union_of one)) c.args.unions.now c.loop-types.types-index c.loop-types-test.false c.loop-types.invariant
    ∙ sym (list_any_map test union_of c.args.unions.now)
