use Rattle.std.proofs.Common.{subst}
use Rattle.task.specs.Task.{task_of}
use Rattle.formulas.specs.State.{plan_of, state_of}
use Rattle.validator.specs.Verdict.{LeadsTo, verdict_of}
use Rattle.model.specs.Runs.{IsVerdict}
use Rattle.model.specs.Meaning.{system_of}
use Rattle.explain_plans.proofs.explanations.explain_plan.Goals as goal

pub why_valid-requires : goal.why_valid-requires
why_valid-requires c = subst (λ v. IsVerdict (system_of (task_of c.args.task.now)) (plan_of c.args.plan.now) (verdict_of v)) c.in-Valid.is c.in_ok-verdict.ensures.verdict

pub why_not_applicable-requires-clause-stops : goal.why_not_applicable-requires-clause-stops
why_not_applicable-requires-clause-stops c =
    subst (λ v. IsVerdict (system_of (task_of c.args.task.now)) (plan_of c.args.plan.now) (verdict_of v)) c.in-NotApplicable.is c.in_ok-verdict.ensures.verdict

pub why_missed-requires-clause-missed : goal.why_missed-requires-clause-missed
why_missed-requires-clause-missed c =
    subst (λ v. IsVerdict (system_of (task_of c.args.task.now)) (plan_of c.args.plan.now) (verdict_of v)) c.in-GoalMissed.is c.in_ok-verdict.ensures.verdict

pub why_not_applicable-requires-clause-state : goal.why_not_applicable-requires-clause-state
why_not_applicable-requires-clause-state c =
    subst (λ v. LeadsTo (system_of (task_of c.args.task.now)) (plan_of c.args.plan.now) (verdict_of v) (state_of c.in_ok-verdict.field-0.state)) c.in-NotApplicable.is c.in_ok-verdict.ensures.state

pub why_missed-requires-clause-state : goal.why_missed-requires-clause-state
why_missed-requires-clause-state c =
    subst (λ v. LeadsTo (system_of (task_of c.args.task.now)) (plan_of c.args.plan.now) (verdict_of v) (state_of c.in_ok-verdict.field-0.state)) c.in-GoalMissed.is c.in_ok-verdict.ensures.state
