use Rattle.model.proofs.PlanWritingExampleProofs.{are_written}
use Rattle.plan_file.proofs.writer.examples_are_written.Goals as goal

pub returns : goal.returns
returns c = are_written
