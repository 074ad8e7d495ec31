use Rattle.std.proofs.Common.{refl}
use Rattle.planner_main.proofs.program.validation.report_of_validate.Goals as goal

pub returns-in-Ok-clause-report : goal.returns-in-Ok-clause-report
returns-in-Ok-clause-report g c = (c.in-Ok.verdict, refl, c.in-Ok.ensures.verdict)

pub returns-in-Ok-clause-unread : goal.returns-in-Ok-clause-unread
returns-in-Ok-clause-unread g c = λ name named missing. absurd (c.in-Ok.ensures.unread name named missing)

pub returns-in-Ok-clause-unreadable : goal.returns-in-Ok-clause-unreadable
returns-in-Ok-clause-unreadable g c = λ name named failing. absurd (c.in-Ok.ensures.unreadable name named failing)
