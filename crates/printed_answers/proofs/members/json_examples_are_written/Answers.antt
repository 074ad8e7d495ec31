use Rattle.printed_answers.proofs.JsonExampleProofs.{are_written}
use Rattle.printed_answers.proofs.members.json_examples_are_written.Goals as goal

pub returns : goal.returns
returns c = are_written
