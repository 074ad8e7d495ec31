-- The printed explanation, and its exit status.
use Rattle.std.specs.Prelude.{ℕ}
use Rattle.validator.specs.Verdict.{verdict_of}
use Rattle.file_answers.specs.declared.explanation.Subject.{Subject}
use Rattle.file_answers.specs.declared.explanation.Subject.TheVariants.{Fault, Plan, Task}
use Rattle.file_answers.specs.declared.explanation.Grounded.{Grounded}
use Rattle.file_answers.specs.declared.explanation.Grounded.TheVariants.{Within, Beyond}
use Rattle.printed_answers.specs.VerdictReported as verdicts

-- for a task: 0 if it is within the limits, and 11 if it is not
abbrev pub status_of_task : Grounded → ℕ
status_of_task (Within instances atoms) = 0
status_of_task (Beyond limit) = 11

-- the exit status of an explanation: 20 for a fault, that of the verdict for a plan, and that of a task
abbrev pub status_of : Subject → ℕ
status_of (Fault file code span) = 20
status_of (Plan verdict) = verdicts.status_of (verdict_of verdict)
status_of (Task holds grounded) = status_of_task grounded
