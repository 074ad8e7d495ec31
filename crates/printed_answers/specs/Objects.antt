-- Answers as JSON objects: a command, a result and what belongs to it, with the keys in bytewise order.
use Rattle.std.specs.Prelude.{ℕ, List, [], ◌∷◌, ◌++◌, codes, map, Result, Ok, Err}
use Rattle.printed_answers.specs.JsonText.{MemberValue, Member, number, text, texts, object_text}
use Rattle.formulas.specs.State.{plan_of}
use Rattle.solver.specs.declared.answer.Answer.{Answer}
use Rattle.solver.specs.declared.answer.Answer.TheVariants as answer
use Rattle.solver.specs.declared.answer.Exceeded.{Exceeded}
use Rattle.solver.specs.declared.answer.Exceeded.TheVariants as exceeded
use Rattle.cert_checker.specs.declared.refusal.RefusalCode.{RefusalCode}
use Rattle.cert_checker.specs.declared.refusal.RefusalCode.TheVariants as code
use Rattle.cert_checker.specs.declared.refusal.Refusal.{Refusal}
use Rattle.cert_checker.specs.declared.refusal.Refusal.TheVariants as refusal
use Rattle.cert_checker.specs.RefusalCode.{name_of, number_of}
use Rattle.cert_checker.specs.declared.checker.Accepted.{Accepted}
use Rattle.cert_checker.specs.declared.checker.Accepted.TheVariants as accepted
use Rattle.model.specs.Runs.{Verdict, valid, not_applicable, goal_missed}
use Rattle.model.specs.Task.{Task, Instance}
use Rattle.model.specs.PlanWriting.{step_text}

abbrev pub member : List ℕ → MemberValue → Member
member key value = record { key = key; value = value }

-- the command of an answer, and its result
abbrev pub command : List ℕ → Member
command name = member (codes "command") (text name)

abbrev pub result : List ℕ → Member
result name = member (codes "result") (text name)

abbrev pub of_verdict : Verdict → List Member
of_verdict (valid cost) = command (codes "validate") ∷ member (codes "cost") (number cost) ∷ result (codes "valid") ∷ []
of_verdict (not_applicable step) = command (codes "validate") ∷ result (codes "not applicable") ∷ member (codes "step") (number step) ∷ []
of_verdict goal_missed = command (codes "validate") ∷ result (codes "goal missed") ∷ []

-- the limit with this name is exceeded; for those of states and of time it includes the lower bound of plan costs
abbrev of_limit : List ℕ → List Member
of_limit name = command (codes "solve") ∷ member (codes "reason") (text name) ∷ result (codes "unknown") ∷ []

abbrev pub of_exceeded : Exceeded → List Member
of_exceeded exceeded.Instances = of_limit (codes "instances")
of_exceeded exceeded.Atoms = of_limit (codes "atoms")
of_exceeded (exceeded.States least cert) = member (codes "bound") (number least) ∷ of_limit (codes "states")
of_exceeded (exceeded.Time least cert) = member (codes "bound") (number least) ∷ of_limit (codes "time")

-- a plan and its cost, with steps in plan syntax
abbrev pub of_plan : Task → List Instance → (cost : ℕ) → List Member
of_plan task plan cost =
    command (codes "solve") ∷ member (codes "cost") (number cost) ∷ result (codes "plan")
    ∷ member (codes "steps") (texts (map (step_text task) plan)) ∷ []

abbrev pub of_answer : Task → Answer → List Member
of_answer task (answer.Plan steps cost cert) = of_plan task (plan_of steps) cost
of_answer task (answer.Unsolvable cert) = command (codes "solve") ∷ result (codes "unsolvable") ∷ []
of_answer task (answer.Unknown limit) = of_exceeded limit

abbrev pub of_accepted : Accepted → List Member
of_accepted (accepted.Optimal cost) = command (codes "check") ∷ member (codes "cost") (number cost) ∷ result (codes "optimal") ∷ []
of_accepted (accepted.AtLeast cost) = command (codes "check") ∷ member (codes "cost") (number cost) ∷ result (codes "at least") ∷ []
of_accepted accepted.Unsolvable = command (codes "check") ∷ result (codes "unsolvable") ∷ []

abbrev pub of_refused : RefusalCode → List Member
of_refused code =
    member (codes "code") (number (number_of code)) ∷ command (codes "check") ∷ member (codes "name") (text (name_of code))
    ∷ result (codes "not accepted") ∷ []

abbrev pub of_checked : Result Accepted Refusal → List Member
of_checked (Ok shown) = of_accepted shown
of_checked (Err (refusal.Line code line)) = of_refused code
of_checked (Err (refusal.Unfair i)) = of_refused code.Unfair
of_checked (Err (refusal.DeadUnfair i)) = of_refused code.DeadUnfair
of_checked (Err (refusal.Plain code)) = of_refused code
of_checked (Err refusal.NoMemory) = []
of_checked (Err refusal.Device) = []
of_checked (Err refusal.Failed) = []

-- the object as a line
abbrev pub line_of_members : List Member → List ℕ
line_of_members members = object_text members ++ codes "\n"
