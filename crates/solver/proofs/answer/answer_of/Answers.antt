use Rattle.std.proofs.Common.{subst}
use Rattle.solver.specs.Guidance.{estimate_by, reports_dead}
use Rattle.solver.specs.Guided.{IsEnding}
use Rattle.solver.specs.Written.{guidance_of}
use Rattle.solver.proofs.answer.answer_of.Goals as goal

pub answer_of_search-requires-clause-searched : goal.answer_of_search-requires-clause-searched
answer_of_search-requires-clause-searched c =
    let guidance = guidance_of c.args.guidance in
    subst (IsEnding c.args.setting.space (estimate_by guidance) (reports_dead guidance) c.args.setting.limits) c.in-Complete.is c.requires.ending

pub answer_in_time-requires-clause-limited : goal.answer_in_time-requires-clause-limited
answer_in_time-requires-clause-limited c =
    let guidance = guidance_of c.args.guidance in
    (subst (IsEnding c.args.setting.space (estimate_by guidance) (reports_dead guidance) c.args.setting.limits) c.in-OutOfTime.is c.requires.ending).0

pub answer_in_time-requires-clause-halted : goal.answer_in_time-requires-clause-halted
answer_in_time-requires-clause-halted c =
    let guidance = guidance_of c.args.guidance in
    (subst (IsEnding c.args.setting.space (estimate_by guidance) (reports_dead guidance) c.args.setting.limits) c.in-OutOfTime.is c.requires.ending).1
