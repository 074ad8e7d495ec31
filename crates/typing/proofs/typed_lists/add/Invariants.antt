use Rattle.std.proofs.Common.{◌≡◌, ◌++◌, map, drop}
use Rattle.std.specs.List.{flat_map}
use Rattle.typing.specs.TypedLists.{declared_of}
use Rattle.pddl_tree.specs.Tree.{file_of}
use Rattle.pddl_tree.specs.Tree as read
use Rattle.model.specs.Typing as typing
use Rattle.typing.proofs.typed_lists.add.Given as goal

abbrev pub invariant-loop-group : goal.invariant-loop-group
invariant-loop-group l =
    map declared_of l.declared.items ++ flat_map (λ g. typing.declared_in_group (file_of l.file) (read.group_of g)) (drop l.group-index l.groups)
    ≡ map declared_of l.initial.declared.items ++ flat_map (λ g. typing.declared_in_group (file_of l.file) (read.group_of g)) l.groups
