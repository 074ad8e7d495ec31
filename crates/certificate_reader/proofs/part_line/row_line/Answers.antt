use Rattle.std.proofs.Common.{arith}
use Rattle.certificate_reader.specs.Stages.{format_of}
use Rattle.certificate_reader.specs.Words.{text_in}
use Rattle.certificate_reader.proofs.PartsRead.{no_numbers_in_row, too_few_weights}
use Rattle.certificate_reader.proofs.part_line.row_line.Goals as goal

pub returns-then-len-format : goal.returns-then-len-format
returns-then-len-format c =
    let read = rw c.in-Some.is at c.in_ok-weights.ensures.some in
    too_few_weights c.args.rest.now (format_of c.args.format) c.in-Some.weights.items (text_in c.in-Some.following) read (omega (arith, c.len.ensures, c.if-len-format.true))

pub returns-in-None : goal.returns-in-None
returns-in-None c =
    let read = rw c.in-Some.is at c.in_ok-weights.ensures.some in
    let never = rw c.in-None.is at c.in_ok-atoms.ensures.none in
    no_numbers_in_row c.args.rest.now (format_of c.args.format) c.in-Some.weights.items (text_in c.in-Some.following) read never
