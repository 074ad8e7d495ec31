use Rattle.std.proofs.Common.{sym, ◌∙◌}
use Rattle.certificate_reader.proofs.NumbersRead.{not_bound}
use Rattle.certificate_reader.proofs.parts.claim.Goals as goal

pub returns-then-not-is-clause-none : goal.returns-then-not-is-clause-none
returns-then-not-is-clause-none c = λ claim is same.
    not_bound c.args.rest.now _ c.first_word.result.1 c.in-Some.least c.first_word.ensures c.in-Some.is (sym c.is-2.ensures ∙ c.if-not-is.true) claim same
