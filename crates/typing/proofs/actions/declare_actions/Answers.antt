use Rattle.typing.specs.Walk.{found_by}
use Rattle.typing.specs.Scope.{keys_in}
use Rattle.pddl_tree.specs.Tree as read
use Rattle.model.specs.Trees.{domain_file}
use Rattle.model.specs.Typing as typing
use Rattle.typing.proofs.Found as finding
use Rattle.pddl_tree.specs.declared.tree.Action.{Action}
use Rattle.typing.proofs.actions.declare_actions.Goals as goal

pub loop-action-preserved : goal.loop-action-preserved
loop-action-preserved c =
    finding.found_declared (λ (a : Action). typing.placed domain_file (read.name_of a.name)) c.args.actions.now c.loop-action.action-index c.action-item.result c.loop-action-test.true c.action-item.is
    (keys_in c.loop-action.names.entries) (keys_in c.declare.new.table.entries) (found_by c.loop-action.walk) (found_by c.declare.new.walk) _
    c.in_ok-declare.ensures.names c.in_ok-declare.ensures.finds c.loop-action.invariant
