use Rattle.command_line.proofs.ExampleProofs.{are_read}
use Rattle.command_line.proofs.reading.examples_are_read.Goals as goal

pub returns : goal.returns
returns c = are_read
