use Rattle.std.proofs.Common.{codes, refl}
use Rattle.std.proofs.lemmas.Result.{err_from_is_err_and}
use Rattle.certificate_reader.specs.Stages.{format_of}
use Rattle.certificate_reader.proofs.LinesRead.{no_open, open_is_read}
use Rattle.certificate_reader.proofs.ParseLemmas.{malformed}
use Rattle.certificate_reader.proofs.state_line.open_line.Goals as goal

pub returns-in_err-cost : goal.returns-in_err-cost
returns-in_err-cost c = let p = err_from_is_err_and c.from_residual.result c.from_residual.ensures.1 in rw (p.1, p.2) tt

pub returns-in-Some : goal.returns-in-Some
returns-in-Some c =
    let read = rw c.in-Some.is at c.in_ok-cost.ensures.some in
    open_is_read c.args.rest.now (format_of c.args.format) c.in-Some.cost c.in-Some.atoms.items read

pub returns-in-None : goal.returns-in-None
returns-in-None c =
    let never = rw c.in-None.is at c.in_ok-cost.ensures.none in
    malformed (codes "open") c.args.rest.now (format_of c.args.format) refl (no_open c.args.rest.now (format_of c.args.format) never)
