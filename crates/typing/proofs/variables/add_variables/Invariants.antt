use Rattle.std.proofs.Common.{◌≡◌, map, fold, drop}
use Rattle.typing.specs.TypedLists.{declared_of}
use Rattle.typing.specs.Scope.{keys_in, variable_entry_of, BeginsWith}
use Rattle.typing.specs.Walk.{found_by}
use Rattle.model.specs.Typing as typing
use Rattle.typing.proofs.variables.add_variables.Given as goal

abbrev pub invariant-loop-one : goal.invariant-loop-one
invariant-loop-one l = record {
  variables : fold typing.with_variable (map variable_entry_of l.variables.entries) (map (λ x. typing.variable_in (keys_in l.types.by_name.entries) (declared_of x)) (drop l.one-index l.declared))
      ≡ fold typing.with_variable (map variable_entry_of l.initial.variables.entries) (map (λ x. typing.variable_in (keys_in l.types.by_name.entries) (declared_of x)) l.declared);
  found : found_by l.walk ≡ found_by l.initial.walk;
  kept : BeginsWith l.initial.variables.entries l.variables.entries;
}
