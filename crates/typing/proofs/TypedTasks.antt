-- Tasks read from files are well-typed: a pair without faults resolves to a well-typed task.
use Rattle.std.proofs.Common.{◌≡◌, ◌∙◌, ℕ, zero, suc, true, List, [], ◌∷◌, Some, refl, sym, ap}
use Rattle.std.specs.Prelude.{IsTrue, slice_get}
use Rattle.model.specs.Task.{Task}
use Rattle.model.specs.Trees.{Domain, Problem}
use Rattle.model.specs.Resolution.{TypingFault, task_of_trees}
use Rattle.model.specs.Typing.{IsWellTyped, SupertypesAreThoseAbove, first_filled, phases}
use Rattle.model.specs.WellTyped.{is_task}
use Rattle.model.specs.Files.{IsTaskOf}
use Rattle.model.proofs.TypingLemmas.{each_empty}
use Rattle.typing.proofs.Tasks.{supertypes_above, typed}

-- the task of a well-typed pair
pub trees_are_typed : (d : Domain) (p : Problem) → IsWellTyped d p → is_task (task_of_trees d p) ≡ true
trees_are_typed d p well =
    let empty = each_empty (phases d p) well in
    typed d p
    (λ i. first_filled (first_filled (empty 0 _ refl i ∷ empty 1 _ refl i ∷ []) ∷ empty 2 _ refl i ∷ empty 3 _ refl i ∷ empty 4 _ refl i ∷ []))
    (empty 5 _ refl)
    (λ i. first_filled (empty 6 _ refl i ∷ empty 7 _ refl i ∷ []))

-- and its supertypes
pub supertypes_are_those_above : SupertypesAreThoseAbove
supertypes_are_those_above d p well =
    let empty = each_empty (phases d p) well in
    supertypes_above d p
    (λ i. first_filled (first_filled (empty 0 _ refl i ∷ empty 1 _ refl i ∷ []) ∷ empty 2 _ refl i ∷ empty 3 _ refl i ∷ empty 4 _ refl i ∷ []))
    (empty 5 _ refl)
    (λ i. first_filled (empty 6 _ refl i ∷ empty 7 _ refl i ∷ []))

-- a task read from files
pub task_is_typed : (domain problem : List ℕ) (task : Task) → IsTaskOf domain problem task → IsTrue (is_task task)
task_is_typed domain problem task is = ap is_task is.resolved ∙ trees_are_typed is.domain_tree is.problem_tree is.well_typed
