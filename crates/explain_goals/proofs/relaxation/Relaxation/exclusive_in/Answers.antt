use Rattle.std.proofs.Common.{◌≡◌, None, Option, Some, List, map, subst, sym}
use Rattle.std.specs.Prelude.{IfOk, IfSome, Result, Ok, Err}
use Rattle.faults.specs.declared.refused.NoMemory.{NoMemory}
use Rattle.task.specs.TaskParts.{atom_of}
use Rattle.formulas.specs.Literals.{literal_of}
use Rattle.formulas.specs.State.{state_of}
use Rattle.grounding.specs.Ground.{task_in}
use Rattle.model.specs.Task.{Task}
use Rattle.model.specs.Meaning.{State}
use Rattle.model.specs.SureLiterals.{Literal}
use Rattle.explain_goals.specs.declared.exclusive.Exclusive.{Exclusive}
use Rattle.explain_goals.specs.Exclusive.{AreTwoOf, IsMutexGroup}
use Rattle.explain_goals.specs.Notes.{IsExclusiveNote}
use Rattle.explain_goals.proofs.relaxation.Relaxation.exclusive_in.Goals as goal

-- both clauses of what was found
noted : (t : Task) (literals : List Literal) (group : State) → IsMutexGroup t group → (result : Result (Option Exclusive) NoMemory)
    → IfOk result (λ o. IfSome o (λ e. AreTwoOf literals group (atom_of e.first) (atom_of e.second))) → IfOk result (λ o. IfSome o (λ e. state_of e.group ≡ group))
    → IfOk result (λ o. IfSome o (IsExclusiveNote t literals))
noted t literals group mutex (Ok (Some e)) two is = record {
  two = subst (λ (s : State). AreTwoOf literals s (atom_of e.first) (atom_of e.second)) (sym is) two;
  mutex = subst (IsMutexGroup t) (sym is) mutex;
}
noted t literals group mutex (Ok None) two is = two
noted t literals group mutex (Err e) two is = two

pub returns-in-Some : goal.returns-in-Some
returns-in-Some c =
    let t = task_in c.args.self.now.ground.now in
    noted t (map literal_of c.args.literals.now) (state_of c.in-Some.group)
    (subst (λ o. IfSome o (λ group. IsMutexGroup t (state_of group))) c.in-Some.is c.in_ok-group.ensures) c.two_of.result c.two_of.ensures.two c.two_of.ensures.group
