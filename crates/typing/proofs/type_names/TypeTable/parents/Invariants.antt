use Rattle.std.proofs.Common.{◌≡◌, ◌∷◌, map, take}
use Rattle.task.specs.TaskParts as parts
use Rattle.typing.specs.Scope.{keys_in}
use Rattle.pddl_tree.specs.Tree as read
use Rattle.model.specs.Typing as typing
use Rattle.typing.proofs.type_names.TypeTable.parents.Given as goal

abbrev pub invariant-loop-one : goal.invariant-loop-one
invariant-loop-one l = map parts.type_of l.parents.items ≡ 0 ∷ map (λ x. typing.type_in (keys_in l.self.by_name.entries) (map read.name_of x.types.now)) (take l.one-index l.declared)
