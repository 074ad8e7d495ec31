-- The reasons of the checker's refusals.
use Rattle.std.specs.Prelude.{Option, Some, None}
use Rattle.cert_checker.specs.declared.refusal.RefusalCode.{RefusalCode}
use Rattle.cert_checker.specs.declared.refusal.RefusalCode.TheVariants.{CertForm, CertVersion, Truncated, NotFluent, Repeated, NoInitial, Unfair, UnfairGoal, GoalOpen, SuccessorMissing, SuccessorDearer, CutWeak, CutNotAllowed, PlanInvalid, PlanDearer, Limit, DeadUnfair, DeadUnfairGoal, NotDead, NotSymmetry, ValueUnfair, ValueNotDead}
use Rattle.certificate_definitions.specs.CertificateRefusals.{Reason, not_fluent, repeated, no_initial, unfair_goal, goal_open, successor_missing, successor_dearer, cut_weak, cut_not_allowed, plan_invalid, plan_dearer, limit, dead_unfair_goal, not_dead, not_symmetry, value_unfair, value_not_dead}

-- The fault that a code tells of a certificate. Codes of texts tell none, nor do those of instances, whose refusals carry the
-- instance.
abbrev pub reason_of : RefusalCode → Option Reason
reason_of CertForm = None
reason_of CertVersion = None
reason_of Truncated = None
reason_of NotFluent = Some not_fluent
reason_of Repeated = Some repeated
reason_of NoInitial = Some no_initial
reason_of Unfair = None
reason_of UnfairGoal = Some unfair_goal
reason_of GoalOpen = Some goal_open
reason_of SuccessorMissing = Some successor_missing
reason_of SuccessorDearer = Some successor_dearer
reason_of CutWeak = Some cut_weak
reason_of CutNotAllowed = Some cut_not_allowed
reason_of PlanInvalid = Some plan_invalid
reason_of PlanDearer = Some plan_dearer
reason_of Limit = Some limit
reason_of DeadUnfair = None
reason_of DeadUnfairGoal = Some dead_unfair_goal
reason_of NotDead = Some not_dead
reason_of NotSymmetry = Some not_symmetry
reason_of ValueUnfair = Some value_unfair
reason_of ValueNotDead = Some value_not_dead
