use Rattle.std.proofs.Common.{◌≡◌, [], ◌++◌, map, drop}
use Rattle.std.specs.List.{flat_map}
use Rattle.typing.specs.Task.{file_of}
use Rattle.typing.specs.Walk.{found, found_by}
use Rattle.task.specs.TaskParts as parts
use Rattle.typing.specs.Scope.{known_of, narrow_atoms_in}
use Rattle.pddl_tree.specs.Tree as read
use Rattle.model.specs.Typing as typing
use Rattle.typing.proofs.statements.stated.Given as goal

abbrev pub invariant-loop-fact : goal.invariant-loop-fact
invariant-loop-fact l = record {
  atoms : map parts.atom_of l.made.atoms.items ++ flat_map (λ f. narrow_atoms_in (known_of l.scope) (read.fact_of f)) (drop l.fact-index l.facts)
      ≡ flat_map (λ f. narrow_atoms_in (known_of l.scope) (read.fact_of f)) l.facts;
  values : typing.values_after (known_of l.scope) (map parts.value_of l.made.values.entries) (map read.fact_of (drop l.fact-index l.facts))
      ≡ typing.values_after (known_of l.scope) [] (map read.fact_of l.facts);
  finds : found (found_by l.walk) (typing.facts_faults (file_of l.scope.globals.now.file) (known_of l.scope) (map parts.value_of l.made.values.entries) (map read.fact_of (drop l.fact-index l.facts)))
      ≡ found (found_by l.initial.walk) (typing.facts_faults (file_of l.scope.globals.now.file) (known_of l.scope) [] (map read.fact_of l.facts));
}
