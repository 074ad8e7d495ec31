use Rattle.task.specs.Task.{task_of}
use Rattle.explain_tasks.specs.Actions.{is_doubtful}
use Rattle.explain_tasks.proofs.PredicateLemmas.{passing_more}
use Rattle.explain_tasks.proofs.actions.doubtful_actions.Goals as goal

pub loop-number-preserved : goal.loop-number-preserved
loop-number-preserved c =
    passing_more (is_doubtful (task_of c.args.task.now) c.args.doubt) c.loop-number.number c.loop-number.found.items c.add_if_doubtful.new.found.items
    c.in_ok-add_if_doubtful.ensures c.loop-number.invariant
