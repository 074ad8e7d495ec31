use Rattle.std.proofs.Common.{◌≡◌, [], ◌++◌, map, drop}
use Rattle.std.specs.List.{flat_map}
use Rattle.typing.specs.Walk.{found, found_by}
use Rattle.task.specs.TaskParts as parts
use Rattle.typing.specs.QuantifiedNames.{quantified_names}
use Rattle.typing.specs.Scope.{keys_in, known_outside}
use Rattle.pddl_tree.specs.Tree as read
use Rattle.model.specs.Trees.{domain_file}
use Rattle.model.specs.Typing as typing
use Rattle.typing.proofs.actions.table.Given as goal

abbrev pub invariant-loop-action : goal.invariant-loop-action
invariant-loop-action l = record {
  globals : l.resolver.globals ≡ l.initial.resolver.globals;
  outside : l.resolver.variables.entries ≡ [];
  finds : found (found_by l.resolver.walk) (flat_map (λ a. typing.schema_faults (known_outside l.initial.resolver.globals.now) (read.action_of a)) (drop l.action-index l.actions))
      ≡ found (found_by l.initial.resolver.walk) (flat_map (λ a. typing.schema_faults (known_outside l.initial.resolver.globals.now) (read.action_of a)) l.actions);
  table : typing.repeated_after [] (map (λ a. typing.placed domain_file (read.name_of a.name)) l.actions) ≡ []
      → (typing.repeated_after (keys_in l.schemas.entries) (map (λ a. typing.placed domain_file (read.name_of a.name)) (drop l.action-index l.actions)) ≡ [])
      × (map parts.schema_of l.schemas.entries ++ map (λ a. typing.schema_in (known_outside l.initial.resolver.globals.now) (read.action_of a)) (drop l.action-index l.actions)
      ≡ map (λ a. typing.schema_in (known_outside l.initial.resolver.globals.now) (read.action_of a)) l.actions);
  names : typing.repeated_after [] (map (λ a. typing.placed domain_file (read.name_of a.name)) l.actions) ≡ []
      → (typing.repeated_after (keys_in l.schemas.entries) (map (λ a. typing.placed domain_file (read.name_of a.name)) (drop l.action-index l.actions)) ≡ [])
      × (map parts.precondition_names_of l.schemas.entries ++ map (λ a. quantified_names (read.action_of a).precondition) (drop l.action-index l.actions)
      ≡ map (λ a. quantified_names (read.action_of a).precondition) l.actions);
}
