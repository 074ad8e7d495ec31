-- The numbers and the names of the checker's refusals.
use Rattle.std.specs.Prelude.{ℕ, List, codes}
use Rattle.cert_checker.specs.declared.refusal.RefusalCode.{RefusalCode}
use Rattle.cert_checker.specs.declared.refusal.RefusalCode.TheVariants.{CertForm, CertVersion, Truncated, NotFluent, Repeated, NoInitial, Unfair, UnfairGoal, GoalOpen, SuccessorMissing, SuccessorDearer, CutWeak, CutNotAllowed, PlanInvalid, PlanDearer, Limit, DeadUnfair, DeadUnfairGoal, NotDead, NotSymmetry, ValueUnfair, ValueNotDead}

-- the number that the program prints
abbrev pub number_of : RefusalCode → ℕ
number_of CertForm = 40
number_of CertVersion = 41
number_of Truncated = 42
number_of NotFluent = 43
number_of Repeated = 44
number_of NoInitial = 45
number_of Unfair = 46
number_of UnfairGoal = 47
number_of GoalOpen = 48
number_of SuccessorMissing = 49
number_of SuccessorDearer = 50
number_of CutWeak = 51
number_of CutNotAllowed = 52
number_of PlanInvalid = 53
number_of PlanDearer = 54
number_of Limit = 55
number_of DeadUnfair = 56
number_of DeadUnfairGoal = 57
number_of NotDead = 58
number_of NotSymmetry = 59
number_of ValueUnfair = 62
number_of ValueNotDead = 63

-- the name that the program prints beside the number
abbrev pub name_of : RefusalCode → List ℕ
name_of CertForm = codes "CertForm"
name_of CertVersion = codes "CertVersion"
name_of Truncated = codes "Truncated"
name_of NotFluent = codes "NotFluent"
name_of Repeated = codes "Repeated"
name_of NoInitial = codes "NoInitial"
name_of Unfair = codes "Unfair"
name_of UnfairGoal = codes "UnfairGoal"
name_of GoalOpen = codes "GoalOpen"
name_of SuccessorMissing = codes "SuccessorMissing"
name_of SuccessorDearer = codes "SuccessorDearer"
name_of CutWeak = codes "CutWeak"
name_of CutNotAllowed = codes "CutNotAllowed"
name_of PlanInvalid = codes "PlanInvalid"
name_of PlanDearer = codes "PlanDearer"
name_of Limit = codes "Limit"
name_of DeadUnfair = codes "DeadUnfair"
name_of DeadUnfairGoal = codes "DeadUnfairGoal"
name_of NotDead = codes "NotDead"
name_of NotSymmetry = codes "NotSymmetry"
name_of ValueUnfair = codes "ValueUnfair"
name_of ValueNotDead = codes "ValueNotDead"
