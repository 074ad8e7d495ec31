use Rattle.std.proofs.Common.{codes, refl}
use Rattle.certificate_reader.specs.Stages.{format_of}
use Rattle.certificate_reader.proofs.LinesRead.{dead_is_read, no_dead}
use Rattle.certificate_reader.proofs.ParseLemmas.{has_dead_ends, malformed}
use Rattle.certificate_reader.proofs.state_line.dead_line.Goals as goal

pub returns-in-Some : goal.returns-in-Some
returns-in-Some c =
    let read = rw c.in-Some.is at c.in_ok-cost.ensures.some in
    dead_is_read c.args.rest.now (format_of c.args.format) (has_dead_ends c.args.format.version c.in_default.not-One) c.in-Some.cost c.in-Some.atoms.items read

pub returns-in-None : goal.returns-in-None
returns-in-None c =
    let never = rw c.in-None.is at c.in_ok-cost.ensures.none in
    malformed (codes "dead") c.args.rest.now (format_of c.args.format) refl (no_dead c.args.rest.now (format_of c.args.format) never)
