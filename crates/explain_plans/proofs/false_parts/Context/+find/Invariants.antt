use Rattle.std.proofs.Common.{ℕ, List, drop, map, ◌++◌, ◌∷◌, []}
use Rattle.std.specs.List.{flat_map}
use Rattle.task.specs.Task.{task_of}
use Rattle.task.specs.TaskParts.{object_of, formula_of}
use Rattle.formulas.specs.State.{state_of}
use Rattle.formulas.specs.Objects.{objects_left}
use Rattle.formulas.proofs.ObjectWalk.{AreAmong}
use Rattle.explain_plans.specs.declared.false_parts.Found.{Found}
use Rattle.explain_plans.specs.FalseParts.{Part, false_parts, false_parts_of_all}
use Rattle.task.specs.Names.{names_in}
use Rattle.explain_plans.specs.NamesLeft.{formulas}
use Rattle.model.specs.Task.{Name}
use Rattle.task.specs.declared.schemas.Formula.{Formula}
use Rattle.explain_plans.specs.Parts.{Finds}
use Rattle.explain_plans.proofs.false_parts.Context.+find.Given as goal

-- together with those of the remaining formulas, all are found
abbrev pub invariant-find_in_each-loop-part : goal.invariant-find_in_each-loop-part
invariant-find_in_each-loop-part l =
    let gives : List Formula → List Name → List Part = λ parts names.
    false_parts_of_all (task_of l.self.task.now) (formulas (map formula_of parts)) (map object_of l.self.objects.now.items) names (state_of l.self.state.now) in
    (last : Found) → Finds (task_of l.self.task.now) (state_of l.self.state.now) (gives (drop l.part-index l.parts) (names_in l.names)) l.found last
    → Finds (task_of l.self.task.now) (state_of l.self.state.now) (gives l.parts (names_in l.self.names.now)) l.initial.found last

-- together with those for the remaining objects, all are found
abbrev pub invariant-find_for_each-loop-object : goal.invariant-find_for_each-loop-object
invariant-find_for_each-loop-object l =
    let gives : ℕ → List Part = λ one. false_parts (task_of l.self.task.now) (formula_of l.part) (map object_of l.self.objects.now.items ++ one ∷ []) (drop 1 (names_in l.self.names.now)) (state_of l.self.state.now) in
    AreAmong (objects_left l.initial.object-iterator) (objects_left l.object-iterator)
    × ((last : Found) → Finds (task_of l.self.task.now) (state_of l.self.state.now) (flat_map gives (objects_left l.object-iterator)) l.found last
    → Finds (task_of l.self.task.now) (state_of l.self.state.now) (flat_map gives (objects_left l.initial.object-iterator)) l.initial.found last)
