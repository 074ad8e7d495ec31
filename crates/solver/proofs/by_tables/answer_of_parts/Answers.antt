use Rattle.std.proofs.Common.{subst}
use Rattle.certificate.specs.Evidence.{evidence_of}
use Rattle.grounding.specs.Ground.{task_in}
use Rattle.search_spaces.specs.SearchSpace.{ground_in}
use Rattle.solver.specs.Guidance.{by_tables, estimate_by, reports_dead}
use Rattle.solver.specs.Stretches.{IsTrueEnd}
use Rattle.solver.proofs.by_tables.answer_of_parts.Goals as goal

pub answer_of-requires-clause-ending : goal.answer_of-requires-clause-ending
answer_of-requires-clause-ending c =
    let guidance = by_tables (evidence_of c.args.evidence) in
    subst (IsTrueEnd c.args.setting.space (estimate_by guidance) (reports_dead guidance) c.args.setting.limits) c.in-ByGuide.is c.requires.end

pub returns-in-ByTables : goal.returns-in-ByTables
returns-in-ByTables c =
    let guidance = by_tables (evidence_of c.args.evidence) in
    subst (IsTrueEnd c.args.setting.space (estimate_by guidance) (reports_dead guidance) c.args.setting.limits) c.in-ByTables.is c.requires.end
