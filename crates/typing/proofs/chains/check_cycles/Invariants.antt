use Rattle.std.proofs.Common.{◌≡◌, ◌+◌, map, drop}
use Rattle.typing.specs.Walk.{found, found_by}
use Rattle.task.specs.TaskParts as parts
use Rattle.typing.specs.TypedLists.{declared_of}
use Rattle.model.specs.Typing as typing
use Rattle.typing.proofs.chains.check_cycles.Given as goal

abbrev pub invariant-loop-index : goal.invariant-loop-index
invariant-loop-index l =
    found (found_by l.walk) (typing.cycle_faults_from (map parts.type_of l.parents) (l.index + 1) (map declared_of (drop l.index l.declared)))
    ≡ found (found_by l.initial.walk) (typing.cycle_faults_from (map parts.type_of l.parents) 1 (map declared_of l.declared))
