use Rattle.std.proofs.Common.{◌≡◌, false, take}
use Rattle.std.specs.List.{list_any}
use Rattle.task.specs.TaskParts.{effect_of}
use Rattle.model.specs.Fluents.{touches}
use Rattle.formulas.proofs.fluents.+touches.Given as goal

abbrev pub decreases-touches : goal.decreases-touches
decreases-touches l = goal.size-touches l

-- no part so far touches it
abbrev pub invariant-loop-part : goal.invariant-loop-part
invariant-loop-part l = list_any (λ part. touches l.predicate.0 (effect_of part)) (take l.part-index l.part-items) ≡ false
