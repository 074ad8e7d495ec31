use Rattle.std.proofs.Common.{subst}
use Rattle.certificate.specs.Evidence.{evidence_of}
use Rattle.solver.specs.Asked.{IsTablesEnding}
use Rattle.solver.proofs.by_tables.answer_of_tables.Goals as goal

pub answer_of_parts-requires-clause-end : goal.answer_of_parts-requires-clause-end
answer_of_parts-requires-clause-end c = subst (IsTablesEnding c.args.setting.space (evidence_of c.args.evidence) c.args.setting.limits) c.in-InParts.is c.requires.ending

pub answer_of_asked-requires-clause-version : goal.answer_of_asked-requires-clause-version
answer_of_asked-requires-clause-version c = (subst (IsTablesEnding c.args.setting.space (evidence_of c.args.evidence) c.args.setting.limits) c.in-Asked.is c.requires.ending).0

pub answer_of_asked-requires-clause-asked : goal.answer_of_asked-requires-clause-asked
answer_of_asked-requires-clause-asked c = (subst (IsTablesEnding c.args.setting.space (evidence_of c.args.evidence) c.args.setting.limits) c.in-Asked.is c.requires.ending).1
