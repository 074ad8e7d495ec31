use Rattle.std.proofs.Common.{◌≡◌, ◌++◌, map, drop}
use Rattle.typing.specs.TypedLists.{declared_by, declared_of}
use Rattle.pddl_tree.specs.Tree.{file_of}
use Rattle.pddl_tree.specs.Tree as read
use Rattle.typing.proofs.typed_lists.add_group.Given as goal

abbrev pub invariant-loop-name : goal.invariant-loop-name
invariant-loop-name l =
    map declared_of l.declared.items ++ map (declared_by (file_of l.file) (map read.name_of l.types)) (drop l.name-index l.names)
    ≡ map declared_of l.initial.declared.items ++ map (declared_by (file_of l.file) (map read.name_of l.types)) l.names
