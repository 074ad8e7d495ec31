use Rattle.std.proofs.Common.{◌≡◌, length, map, take}
use Rattle.task.specs.TaskParts.{object_of, term_of}
use Rattle.model.specs.Meaning as meaning
use Rattle.formulas.proofs.truth.ground_atom.Given as goal

-- the objects are those that the terms so far denote
abbrev pub invariant-loop-term : goal.invariant-loop-term
invariant-loop-term l =
    (length l.objects.items ≡ l.term-index)
    × (map object_of l.objects.items ≡ map (λ t. meaning.object_of (map object_of l.binding.items) (term_of t)) (take l.term-index l.term-items))
