use Rattle.std.proofs.Common.{◌≡◌, ◌++◌, ◌-◌, map, length}
use Rattle.task.specs.TaskParts as parts
use Rattle.model.specs.Typing as typing
use Rattle.typing.proofs.chains.chain.Given as goal

abbrev pub invariant-loop : goal.invariant-loop
invariant-loop l =
    map parts.type_of l.chain.items ++ typing.chain (map parts.type_of l.parents) (length (map parts.type_of l.parents) - l.counter) l.next.0
    ≡ typing.whole_chain (map parts.type_of l.parents) l.fn.id.0
