use Rattle.std.proofs.Common.{◌≡◌, map, length}
use Rattle.task.specs.TaskParts as parts
use Rattle.model.specs.Typing as typing
use Rattle.typing.proofs.effects.each_of.Given as goal

abbrev pub invariant-loop-types : goal.invariant-loop-types
invariant-loop-types l =
    typing.each_of (map parts.union_of l.left.items) (parts.effect_of l.effect) ≡ typing.each_of (map parts.union_of l.initial.left.items) (parts.effect_of l.initial.effect)

abbrev pub decreases-loop-types : goal.decreases-loop-types
decreases-loop-types l = length l.left.items
