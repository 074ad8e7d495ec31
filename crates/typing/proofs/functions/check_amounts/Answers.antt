use Rattle.std.proofs.Common.{refl}
use Rattle.typing.specs.Task.{file_of}
use Rattle.typing.specs.Scope.{known_of}
use Rattle.typing.specs.Walk.{found_by}
use Rattle.pddl_tree.specs.declared.tree.Increase.{Increase}
use Rattle.pddl_tree.specs.Tree as read
use Rattle.model.specs.Typing as typing
use Rattle.typing.proofs.Found as finding
use Rattle.typing.proofs.functions.check_amounts.Goals as goal

pub loop-increase-preserved : goal.loop-increase-preserved
loop-increase-preserved c =
    let faults = λ (i : Increase). typing.amount_faults (file_of c.args.scope.now.globals.now.file) (known_of c.args.scope.now) (read.amount_of i.amount) in
    finding.found_step faults c.args.increases.now c.loop-increase.increase-index c.increase-item.result c.loop-increase-test.true c.increase-item.is
    (found_by c.loop-increase.walk) _ _ c.in_ok-amount.ensures.finds c.loop-increase.invariant

pub returns : goal.returns
returns c =
    let faults = λ (i : Increase). typing.amount_faults (file_of c.args.scope.now.globals.now.file) (known_of c.args.scope.now) (read.amount_of i.amount) in
    finding.found_to_end faults c.args.increases.now c.args.increases.now c.loop-increase.increase-index (found_by c.loop-increase.walk) (found_by c.args.walk.now) c.loop-increase.invariant c.loop-increase-test.false refl
