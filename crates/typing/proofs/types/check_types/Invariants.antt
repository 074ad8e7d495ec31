use Rattle.std.proofs.Common.{◌≡◌, drop}
use Rattle.std.specs.List.{flat_map}
use Rattle.typing.specs.Scope.{keys_in}
use Rattle.pddl_tree.specs.Tree.{file_of}
use Rattle.typing.specs.Walk.{found, found_by}
use Rattle.pddl_tree.specs.Tree as read
use Rattle.model.specs.Typing as typing
use Rattle.typing.proofs.types.check_types.Given as goal

abbrev pub invariant-loop-name : goal.invariant-loop-name
invariant-loop-name l =
    found (found_by l.walk) (flat_map (λ n. typing.unknown_faults (file_of l.file) 14 (keys_in l.names.entries) (read.name_of n)) (drop l.name-index l.types))
    ≡ found (found_by l.initial.walk) (flat_map (λ n. typing.unknown_faults (file_of l.file) 14 (keys_in l.names.entries) (read.name_of n)) l.types)
