use Rattle.std.proofs.Common.{◌≡◌, ℕ, List, [], ◌∷◌, ◌++◌, map, length}
use Rattle.std.specs.List.{flat_map}
use Rattle.formulas.specs.Objects.{objects_left}
use Rattle.formulas.specs.State.{instance_of}
use Rattle.grounding_instances.specs.Numbering.{task_in}
use Rattle.task.specs.TaskParts.{object_of, union_of}
use Rattle.model.specs.Meaning as meaning
use Rattle.model.specs.Task.{Instance}
use Rattle.model.proofs.EnumerationLemmas.{begun}
use Rattle.explain_tasks.specs.Costs.{lacking_among}
use Rattle.explain_tasks.proofs.lacking.LackingSearch.+add.Given as goal

abbrev pub decreases-add : goal.decreases-add
decreases-add l = length l.left.now

-- together with those of the remaining objects, all are examined
abbrev pub invariant-loop-object : goal.invariant-loop-object
invariant-loop-object l =
    let t = task_in l.self.numbering.now in
    let gives : ℕ → List Instance = λ one. begun l.start.schema.0 (map object_of l.start.objects.items ++ one ∷ []) (map (meaning.objects_of t) (map union_of l.rest)) in
    lacking_among t l.self.limit (map instance_of l.found.items) (flat_map gives (objects_left l.object-iterator))
    ≡ lacking_among t l.self.limit (map instance_of l.initial.found.items) (flat_map gives (objects_left l.initial.object-iterator))
