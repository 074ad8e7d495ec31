use Rattle.std.proofs.Common.{◌≡◌, map, take, drop, ◌++◌}
use Rattle.std.specs.List.{flat_map}
use Rattle.task.specs.TaskParts as parts
use Rattle.task.specs.Names.{names_in}
use Rattle.typing.specs.QuantifiedNames.{quantified_names}
use Rattle.typing.specs.Resolver.{file_in, known_to}
use Rattle.typing.specs.Walk.{found, found_by}
use Rattle.pddl_tree.specs.Tree as read
use Rattle.model.specs.Typing as typing
use Rattle.typing.proofs.formulas.+formulas.Given as goal

abbrev pub invariant-several-loop-part : goal.invariant-several-loop-part
invariant-several-loop-part l = record {
  resolved : map parts.formula_of l.resolved.items
      ≡ map (λ x. typing.formula_in (file_in l.initial.resolver) (known_to l.initial.resolver) (read.formula_of x)) (take l.part-index l.given);
  finds : found (found_by l.resolver.walk) (flat_map (λ x. typing.formula_faults (file_in l.initial.resolver) (known_to l.initial.resolver) (read.formula_of x)) (drop l.part-index l.given))
      ≡ found (found_by l.initial.resolver.walk) (flat_map (λ x. typing.formula_faults (file_in l.initial.resolver) (known_to l.initial.resolver) (read.formula_of x)) l.given);
  globals : l.resolver.globals ≡ l.initial.resolver.globals;
  variables : l.resolver.variables.entries ≡ l.initial.resolver.variables.entries;
  names : names_in l.resolver.names.items
      ≡ names_in l.initial.resolver.names.items ++ flat_map (λ x. quantified_names (read.formula_of x)) (take l.part-index l.given);
}
