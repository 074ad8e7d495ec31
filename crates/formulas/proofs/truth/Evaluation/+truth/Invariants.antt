use Rattle.std.proofs.Common.{◌≡◌, ℕ, Bool, true, false, map, take, ◌++◌, ◌∷◌, []}
use Rattle.std.specs.List.{list_all, list_any}
use Rattle.task.specs.Task.{task_of}
use Rattle.task.specs.TaskParts.{object_of, formula_of}
use Rattle.formulas.specs.Objects.{objects_left}
use Rattle.formulas.proofs.ObjectWalk.{AreAmong}
use Rattle.model.specs.Meaning as meaning
use Rattle.formulas.proofs.truth.Evaluation.+truth.Given as goal

-- the parts so far hold
abbrev pub invariant-all_hold-loop-part : goal.invariant-all_hold-loop-part
invariant-all_hold-loop-part g l =
    list_all (λ part. meaning.holds (task_of l.self.task.now) (formula_of part) (map object_of l.binding.items) (g.V.Valuation.facts l.self.state.now)) (take l.part-index l.parts) ≡ true

-- none of the parts so far holds
abbrev pub invariant-some_holds-loop-part : goal.invariant-some_holds-loop-part
invariant-some_holds-loop-part g l =
    list_any (λ part. meaning.holds (task_of l.self.task.now) (formula_of part) (map object_of l.binding.items) (g.V.Valuation.facts l.self.state.now)) (take l.part-index l.parts) ≡ false

-- the formula holds for the objects so far: the remaining ones decide
abbrev pub invariant-holds_for_all-loop-object : goal.invariant-holds_for_all-loop-object
invariant-holds_for_all-loop-object g l =
    let test : ℕ → Bool = λ one. meaning.holds (task_of l.self.task.now) (formula_of l.part) (map object_of l.binding.items ++ one ∷ []) (g.V.Valuation.facts l.self.state.now) in
    (l.extended.items ≡ l.binding.items)
    × AreAmong (objects_left l.initial.object-iterator) (objects_left l.object-iterator)
    × (list_all test (objects_left l.object-iterator) ≡ list_all test (objects_left l.initial.object-iterator))

-- and for none of them
abbrev pub invariant-holds_for_some-loop-candidate : goal.invariant-holds_for_some-loop-candidate
invariant-holds_for_some-loop-candidate g l =
    let test : ℕ → Bool = λ one. meaning.holds (task_of l.self.task.now) (formula_of l.part) (map object_of l.binding.items ++ one ∷ []) (g.V.Valuation.facts l.self.state.now) in
    (l.tried.items ≡ l.binding.items)
    × AreAmong (objects_left l.initial.candidate-iterator) (objects_left l.candidate-iterator)
    × (list_any test (objects_left l.candidate-iterator) ≡ list_any test (objects_left l.initial.candidate-iterator))
