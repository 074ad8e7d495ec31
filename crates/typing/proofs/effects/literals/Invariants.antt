use Rattle.std.proofs.Common.{◌≡◌, map, take, drop}
use Rattle.std.specs.List.{flat_map}
use Rattle.task.specs.TaskParts as parts
use Rattle.typing.specs.Scope.{known_of}
use Rattle.typing.specs.Task.{file_of}
use Rattle.typing.specs.Walk.{found, found_by}
use Rattle.pddl_tree.specs.Tree as read
use Rattle.model.specs.Typing as typing
use Rattle.typing.proofs.effects.literals.Given as goal

abbrev pub invariant-loop-one : goal.invariant-loop-one
invariant-loop-one l = record {
  resolved : map parts.effect_literal_of l.resolved.items
      ≡ map (λ x. typing.effect_literal_in (known_of l.scope) (read.effect_literal_of x)) (take l.one-index l.given);
  finds : found (found_by l.walk) (flat_map (λ x. typing.effect_literal_faults (file_of l.scope.globals.now.file) (known_of l.scope) (read.effect_literal_of x)) (drop l.one-index l.given))
      ≡ found (found_by l.initial.walk) (flat_map (λ x. typing.effect_literal_faults (file_of l.scope.globals.now.file) (known_of l.scope) (read.effect_literal_of x)) l.given);
}
