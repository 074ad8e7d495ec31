use Rattle.std.proofs.Common.{◌≡◌, ℕ, List, map, take, ◌++◌, ◌∷◌, []}
use Rattle.std.specs.List.{flat_map}
use Rattle.task.specs.Task.{task_of}
use Rattle.task.specs.TaskParts.{object_of, effect_of}
use Rattle.formulas.specs.Effects.{change_of}
use Rattle.formulas.specs.Objects.{objects_left}
use Rattle.formulas.proofs.ObjectWalk.{AreAmong}
use Rattle.model.specs.Meaning.{Change, changes_of}
use Rattle.formulas.proofs.effects.+add_changes.Given as goal

-- the changes of the parts so far are added
abbrev pub invariant-loop-part : goal.invariant-loop-part
invariant-loop-part l =
    map change_of l.found.items
    ≡ map change_of l.initial.found.items ++ flat_map (λ part. changes_of (task_of l.task) (effect_of part) (map object_of l.binding.items)) (take l.part-index l.part-items)

-- together with those for the remaining objects, all are added
abbrev pub invariant-loop-object : goal.invariant-loop-object
invariant-loop-object l =
    let gives : ℕ → List Change = λ one. changes_of (task_of l.task) (effect_of l.part.value) (map object_of l.binding.items ++ one ∷ []) in
    AreAmong (objects_left l.initial.object-iterator) (objects_left l.object-iterator)
    × (map change_of l.found.items ++ flat_map gives (objects_left l.object-iterator) ≡ map change_of l.initial.found.items ++ flat_map gives (objects_left l.initial.object-iterator))
