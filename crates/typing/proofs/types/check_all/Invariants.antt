use Rattle.std.proofs.Common.{◌≡◌, drop}
use Rattle.std.specs.List.{flat_map}
use Rattle.typing.specs.Scope.{keys_in}
use Rattle.typing.specs.TypedLists.{declared_of}
use Rattle.typing.specs.Walk.{found, found_by}
use Rattle.model.specs.Typing as typing
use Rattle.typing.proofs.types.check_all.Given as goal

abbrev pub invariant-loop-one : goal.invariant-loop-one
invariant-loop-one l =
    found (found_by l.walk) (flat_map (λ x. typing.types_faults (keys_in l.names.entries) (declared_of x)) (drop l.one-index l.declared))
    ≡ found (found_by l.initial.walk) (flat_map (λ x. typing.types_faults (keys_in l.names.entries) (declared_of x)) l.declared)
