use Rattle.std.proofs.Common.{◌≡◌, map, drop}
use Rattle.std.specs.List.{flat_map}
use Rattle.typing.specs.TypedLists.{declared_of}
use Rattle.typing.specs.Scope.{variable_entry_of}
use Rattle.typing.specs.Walk.{found, found_by}
use Rattle.model.specs.Typing as typing
use Rattle.typing.proofs.Declared.{shadow_faults}
use Rattle.typing.proofs.variables.check_shadows.Given as goal

abbrev pub invariant-loop-one : goal.invariant-loop-one
invariant-loop-one l =
    found (found_by l.walk) (flat_map (λ x. shadow_faults (typing.names_of_variables (map variable_entry_of l.variables.entries)) (declared_of x)) (drop l.one-index l.declared))
    ≡ found (found_by l.initial.walk) (flat_map (λ x. shadow_faults (typing.names_of_variables (map variable_entry_of l.variables.entries)) (declared_of x)) l.declared)
