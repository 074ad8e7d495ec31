use Rattle.std.proofs.Common.{codes, refl, sym, ◌∙◌}
use Rattle.certificate_reader.specs.Stages.{format_of}
use Rattle.certificate_reader.proofs.LinesRead.{no_exchange, no_exchanges, swap_is_read}
use Rattle.certificate_reader.proofs.ParseLemmas.{malformed}
use Rattle.certificate_reader.proofs.parsing.swap_line.Goals as goal

pub returns-then-not-has_exchanges : goal.returns-then-not-has_exchanges
returns-then-not-has_exchanges c =
    malformed (codes "swap") c.args.rest.now (format_of c.args.format) refl
    (no_exchanges c.args.rest.now (format_of c.args.format) (sym c.has_exchanges.ensures ∙ c.if-not-has_exchanges.true))

pub returns-in-Some : goal.returns-in-Some
returns-in-Some c =
    let read = rw c.in-Some.is at c.in_ok-objects.ensures.some in
    swap_is_read c.args.rest.now (format_of c.args.format) (sym c.has_exchanges.ensures ∙ c.if-not-has_exchanges.false) _ read.0 read.1 c.requires.short

pub returns-in-None : goal.returns-in-None
returns-in-None c =
    let never = rw c.in-None.is at c.in_ok-objects.ensures.none in
    malformed (codes "swap") c.args.rest.now (format_of c.args.format) refl (no_exchange c.args.rest.now (format_of c.args.format) never)
