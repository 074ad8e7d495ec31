use Rattle.std.proofs.Common.{◌∙◌, ap, subst, sym}
use Rattle.grounding_instances.specs.Numbering.{task_in}
use Rattle.explain_tasks.specs.Costs.{AreLacking, all_looked_at, passed_over}
use Rattle.explain_tasks.proofs.LackingLemmas.{are_lacking}
use Rattle.explain_tasks.proofs.ground_notes.GroundNotes.of.Goals as goal

pub returns : goal.returns
returns c =
    let t = task_in c.args.numbering.now in record {
      lacking = subst (AreLacking t 11 (all_looked_at t c.args.most)) (sym c.in_ok-lacking.ensures) (are_lacking t 11 (all_looked_at t c.args.most));
      passed_over = c.in_ok-passed_over.ensures ∙ ap (λ u. passed_over u c.args.most) c.task.ensures;
      missing_goals = c.in_ok-missing_goals.ensures;
      idle_actions = c.in_ok-idle_actions.ensures;
    }
