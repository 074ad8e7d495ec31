use Rattle.std.proofs.Common.{map}
use Rattle.task.specs.TaskParts as parts
use Rattle.typing.specs.TypedLists.{declared_of}
use Rattle.typing.specs.Walk.{found_by}
use Rattle.typing.proofs.ChainSteps.{cycle_step, cycle_end}
use Rattle.typing.proofs.chains.check_cycles.Goals as goal

pub loop-index-preserved : goal.loop-index-preserved
loop-index-preserved c =
    cycle_step (map parts.type_of c.args.parents.now) declared_of c.args.declared.now c.loop-index.index _ c.loop-index-test.true
    (found_by c.loop-index.walk) _ _ c.in_ok-check_cycle.ensures c.loop-index.invariant

pub returns : goal.returns
returns c =
    cycle_end (map parts.type_of c.args.parents.now) declared_of c.args.declared.now c.loop-index.index c.loop-index-test.false (found_by c.loop-index.walk) _ c.loop-index.invariant
