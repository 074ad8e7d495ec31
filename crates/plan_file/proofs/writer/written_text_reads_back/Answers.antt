use Rattle.model.proofs.PlanWritingLemmas.{reads_back}
use Rattle.model.proofs.TaskNames.{task_has_names}
use Rattle.plan_file.proofs.writer.written_text_reads_back.Goals as goal

pub returns-clause-reads : goal.returns-clause-reads
returns-clause-reads c = reads_back

pub returns-clause-names : goal.returns-clause-names
returns-clause-names c = task_has_names
