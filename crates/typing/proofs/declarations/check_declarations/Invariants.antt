use Rattle.std.proofs.Common.{◌≡◌, drop}
use Rattle.std.specs.List.{flat_map}
use Rattle.typing.specs.Walk.{found, found_by}
use Rattle.typing.specs.Scope.{keys_in}
use Rattle.pddl_tree.specs.Tree as read
use Rattle.model.specs.Typing as typing
use Rattle.typing.proofs.declarations.check_declarations.Given as goal

abbrev pub invariant-loop-declaration : goal.invariant-loop-declaration
invariant-loop-declaration l =
    found (found_by l.walk) (flat_map (λ q. typing.argument_faults (keys_in l.types.by_name.entries) (read.predicate_of q)) (drop l.declaration-index l.declarations))
    ≡ found (found_by l.initial.walk) (flat_map (λ q. typing.argument_faults (keys_in l.types.by_name.entries) (read.predicate_of q)) l.declarations)
