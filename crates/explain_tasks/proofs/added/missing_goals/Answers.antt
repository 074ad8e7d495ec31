use Rattle.std.proofs.Common.{◌≡◌, ◌∙◌, [], ap, map, subst, arith}
use Rattle.std.specs.Prelude.{◌||◌, ◌&&◌, IfOk, take}
use Rattle.std.specs.FinSet.{contains, empty}
use Rattle.std.specs.List.{fold, list_all, list_any}
use Rattle.task.specs.TaskParts.{atom_of, object_of}
use Rattle.formulas.specs.Literals.{literal_of}
use Rattle.formulas.specs.State.{state_of}
use Rattle.grounding_instances.specs.Numbering.{task_in}
use Rattle.grounding_instances.proofs.NumberLists.{kept-are}
use Rattle.model.specs.Task.{Task}
use Rattle.model.specs.Meaning.{State, is_instance}
use Rattle.model.specs.NumberedAtoms.{occurs_in}
use Rattle.model.specs.SureLiterals.{sure}
use Rattle.model.specs.StaticallyFalse.{kept_instances}
use Rattle.explain_tasks.specs.Goals.{Gains, GainsAsked, atoms_asked_for, goal_atoms, is_added_by, is_neither, with_passing}
use Rattle.explain_tasks.proofs.AddedLemmas.{decided_alike}
use Rattle.explain_tasks.proofs.FoldLemmas.{gathered}
use Rattle.explain_tasks.proofs.added.missing_goals.Goals.{In_ok-literals}
use Rattle.explain_tasks.proofs.added.missing_goals.Goals as goal

-- the sure literals of the goal
sure_literals : (c : In_ok-literals) → map literal_of c.in_ok-literals.literals.items ≡ sure (task_in c.args.numbering.now) (task_in c.args.numbering.now).goal []
sure_literals c = c.in_ok-literals.ensures ∙ (λ i. sure (c.task-task.ensures i) ((c.goal.ensures ∙ ap (λ (u : Task). u.goal) c.task-task.ensures) i) (map object_of (c.new.ensures i)))

pub atoms_added-requires : goal.atoms_added-requires
atoms_added-requires c =
    let numbering = c.args.numbering.now in
    (λ i. list_all (is_instance (c.task-task.ensures i)) ((c.instances.ensures ∙ numbering.kept) i)) ∙ kept-are (task_in numbering)

pub returns : goal.returns
returns c =
    let s = (goal.at.returns c).In_ok-literals in
    let numbering = c.args.numbering.now in
    let t = task_in numbering in
    let limit = c.args.limit in
    let added = state_of c.in_ok-added.added in
    let of_asked = subst (λ l. Gains (occurs_in (atoms_asked_for l)) empty (state_of c.in_ok-asked.asked)) (ap (map literal_of) c.as_slice.ensures.value ∙ sure_literals s) c.in_ok-asked.ensures in
    let asked = state_of c.in_ok-asked.asked in
    let none : State = empty in
    let of_added : GainsAsked asked (λ a. list_any (is_added_by t a) (kept_instances t)) empty added =
    λ a. c.in_ok-added.ensures a ∙ (λ i. contains none a || (contains asked a && list_any (is_added_by (c.task-task.ensures i) a) ((c.instances.ensures ∙ numbering.kept) i))) in
    subst (λ l. IfOk c.missing.result (λ found. map atom_of found.items ≡ l))
    ((λ i. fold (with_passing (is_neither t added) limit) [] (atoms_asked_for ((ap (map literal_of) c.as_slice-2.ensures.value ∙ sure_literals s) i)))
    ∙ gathered (is_neither t added) limit [] (omega arith) (goal_atoms t)
    ∙ ap (take limit) (decided_alike t (goal_atoms t) asked added of_asked of_added))
    c.missing.ensures
