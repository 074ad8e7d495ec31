use Rattle.std.proofs.Common.{◌≡◌, map, length}
use Rattle.task.specs.TaskParts as parts
use Rattle.model.specs.Typing as typing
use Rattle.typing.proofs.formulas.exists_each.Given as goal

abbrev pub invariant-loop-types : goal.invariant-loop-types
invariant-loop-types l =
    typing.exists_each (map parts.union_of l.left.items) (parts.formula_of l.formula) ≡ typing.exists_each (map parts.union_of l.initial.left.items) (parts.formula_of l.initial.formula)

abbrev pub decreases-loop-types : goal.decreases-loop-types
decreases-loop-types l = length l.left.items
