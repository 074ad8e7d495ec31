use Rattle.command_line.proofs.OrderLemmas.{limit_read, no_limit_read}
use Rattle.command_line.proofs.reading.limit_of.Goals as goal

pub returns-in-Ok : goal.returns-in-Ok
returns-in-Ok c = limit_read c.args.text.now c.in-Ok.number c.new.result c.in-Ok.ensures.value.0.0.0 c.in-Ok.ensures.value.0.1 c.new.ensures.within c.new.ensures.number

pub returns-in-Err : goal.returns-in-Err
returns-in-Err c = no_limit_read c.args.text.now c.in-Err.ensures.value.0
