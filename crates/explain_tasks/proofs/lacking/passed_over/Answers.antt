use Rattle.std.proofs.Common.{rules, ◌≡◌, ◌∙◌, ap}
use Rattle.task.specs.Task.{task_of}
use Rattle.explain_tasks.specs.Costs.{are_few}
use Rattle.explain_tasks.specs.Unused.{without}
use Rattle.explain_tasks.proofs.TableLemmas.{without_more}
use Rattle.explain_tasks.proofs.lacking.passed_over.Goals as goal

pub loop-number-preserved : goal.loop-number-preserved
loop-number-preserved c =
    without_more (are_few (task_of c.args.task.now) c.args.most) c.loop-number.number c.loop-number.found.items c.add_if_many.new.found.items c.in_ok-add_if_many.ensures c.loop-number.invariant

pub returns : goal.returns
returns c =
    let ended : c.loop-number.number ≡ c.schema_count-number-end.result = search rules in
    c.loop-number.invariant ∙ ap (without (are_few (task_of c.args.task.now) c.args.most)) (ended ∙ c.schema_count-number-end.ensures)
