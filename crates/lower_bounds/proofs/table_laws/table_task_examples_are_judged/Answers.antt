use Rattle.lower_bounds.proofs.TableExampleProofs.{tasks_are_judged}
use Rattle.lower_bounds.proofs.table_laws.table_task_examples_are_judged.Goals as goal

pub returns : goal.returns
returns c = tasks_are_judged
