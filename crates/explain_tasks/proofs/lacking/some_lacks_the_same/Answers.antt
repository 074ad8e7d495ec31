use Rattle.std.proofs.Common.{◌∙◌, sym}
use Rattle.task.specs.Task.{task_of}
use Rattle.formulas.specs.State.{instance_of}
use Rattle.formulas.proofs.Trees.{list_any_map}
use Rattle.formulas.proofs.FluentTests.{any_more, any_here, any_nowhere}
use Rattle.explain_tasks.specs.Costs.{lack_the_same}
use Rattle.explain_tasks.proofs.lacking.some_lacks_the_same.Goals as goal

pub returns-then-lack_the_same : goal.returns-then-lack_the_same
returns-then-lack_the_same c =
    let same = lack_the_same (task_of c.args.task.now) (instance_of c.args.instance.now) in
    any_here (λ other. same (instance_of other)) c.args.found.now c.loop-other.other-index c.other-item.result c.loop-other-test.true c.other-item.is (sym c.lack_the_same.ensures ∙ c.if-lack_the_same.true)
    ∙ sym (list_any_map same instance_of c.args.found.now)

pub loop-other-preserved : goal.loop-other-preserved
loop-other-preserved c =
    let same = lack_the_same (task_of c.args.task.now) (instance_of c.args.instance.now) in
    any_more (λ other. same (instance_of other)) c.args.found.now c.loop-other.other-index c.other-item.result c.loop-other-test.true c.other-item.is c.loop-other.invariant (sym c.lack_the_same.ensures ∙ c.if-lack_the_same.false)

pub returns : goal.returns
returns c =
    let same = lack_the_same (task_of c.args.task.now) (instance_of c.args.instance.now) in
    any_nowhere (λ other. same (instance_of other)) c.args.found.now c.loop-other.other-index c.loop-other-test.false c.loop-other.invariant
    ∙ sym (list_any_map same instance_of c.args.found.now)
