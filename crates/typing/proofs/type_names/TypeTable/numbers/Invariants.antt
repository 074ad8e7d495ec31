use Rattle.std.proofs.Common.{◌≡◌, map, take}
use Rattle.task.specs.TaskParts as parts
use Rattle.typing.specs.Scope.{keys_in}
use Rattle.pddl_tree.specs.Tree as read
use Rattle.model.specs.Typing as typing
use Rattle.typing.proofs.type_names.TypeTable.numbers.Given as goal

abbrev pub invariant-loop-name : goal.invariant-loop-name
invariant-loop-name l = map parts.type_of l.numbers.items ≡ map (λ n. typing.number_in (keys_in l.self.by_name.entries) (read.name_of n)) (take l.name-index l.types)
