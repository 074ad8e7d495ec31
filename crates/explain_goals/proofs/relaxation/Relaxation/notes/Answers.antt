use Rattle.std.proofs.Common.{subst}
use Rattle.std.specs.Prelude.{IfSome}
use Rattle.task.specs.TaskParts.{atom_of}
use Rattle.grounding.specs.Ground.{task_in}
use Rattle.explain_goals.specs.Contradictions.{IsBoth}
use Rattle.explain_goals.specs.Needed.{AreUnreachable}
use Rattle.explain_goals.specs.Notes.{IsExclusiveNote}
use Rattle.explain_goals.proofs.ChainLemmas.{notes-of}
use Rattle.explain_goals.proofs.relaxation.Relaxation.notes.Goals as goal

pub returns : goal.returns
returns c =
    let r = c.args.self.now in
    let found = c.in_ok-unreachable.unreachable.items in
    record {
      unreachable = notes-of r c.requires.numbered c.requires.least found (subst (λ l. AreUnreachable r l found) c.requires.literals c.in_ok-unreachable.ensures);
      contradictory = subst (λ l. IfSome c.in_ok-contradictory.contradictory (λ a. IsBoth l (atom_of a))) c.requires.literals c.in_ok-contradictory.ensures;
      exclusive = subst (λ l. IfSome c.in_ok-exclusive.exclusive (IsExclusiveNote (task_in r.ground.now) l)) c.requires.literals c.in_ok-exclusive.ensures;
    }
