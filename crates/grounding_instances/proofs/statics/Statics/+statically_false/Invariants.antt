use Rattle.std.proofs.Common.{◌≡◌, ℕ, Bool, false, map, take, ◌++◌, ◌∷◌, []}
use Rattle.std.specs.List.{list_any}
use Rattle.task.specs.Task.{task_of}
use Rattle.task.specs.TaskParts.{object_of, formula_of}
use Rattle.formulas.specs.Objects.{objects_left}
use Rattle.formulas.proofs.ObjectWalk.{AreAmong}
use Rattle.model.specs.StaticallyFalse as statically_false
use Rattle.grounding_instances.proofs.statics.Statics.+statically_false.Given as goal

-- none of the parts so far is statically false
abbrev pub invariant-some_is_statically_false-loop-part : goal.invariant-some_is_statically_false-loop-part
invariant-some_is_statically_false-loop-part l =
    list_any (λ part. statically_false.is_statically_false (task_of l.self.task.now) (formula_of part) (map object_of l.binding.items)) (take l.part-index l.parts) ≡ false

-- and the formula for none of the objects so far: the remaining ones decide
abbrev pub invariant-is_statically_false_for_some-loop-object : goal.invariant-is_statically_false_for_some-loop-object
invariant-is_statically_false_for_some-loop-object l =
    let test : ℕ → Bool = λ one. statically_false.is_statically_false (task_of l.self.task.now) (formula_of l.part) (map object_of l.binding.items ++ one ∷ []) in
    (l.tried.items ≡ l.binding.items)
    × AreAmong (objects_left l.initial.object-iterator) (objects_left l.object-iterator)
    × (list_any test (objects_left l.object-iterator) ≡ list_any test (objects_left l.initial.object-iterator))
