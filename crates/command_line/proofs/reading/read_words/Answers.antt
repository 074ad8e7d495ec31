use Rattle.std.proofs.Common.{ap, sym, ◌∙◌}
use Rattle.std.specs.Prelude.{is_none, option_map}
use Rattle.std.proofs.lemmas.Result.{err_from_is_err_and}
use Rattle.command_line.specs.View.{texts, request_of}
use Rattle.command_line.proofs.OrderLemmas.{asked, not_asked, unfit, refused}
use Rattle.command_line.proofs.reading.read_words.Goals as goal

pub returns-in_err-matches-clause-refused : goal.returns-in_err-matches-clause-refused
returns-in_err-matches-clause-refused c =
    let p = err_from_is_err_and c.from_residual-in_err-matches.result c.from_residual-in_err-matches.ensures.1 in
    rw (p.1) (λ of_words. refused _ c.in_ok-program.ensures (texts c.args.words.now) c.in_err-matches.field-0.0 c.in_err-matches.ensures.kinds (p.2 of_words))

pub returns-in_default-clause-refused : goal.returns-in_default-clause-refused
returns-in_default-clause-refused c = λ of_words.
    not_asked _ c.in_ok-program.ensures (texts c.args.words.now) c.in_ok-matches.matches
    (λ simple. (c.in_ok-matches.ensures.matches simple).1) (sym (ap (option_map request_of) c.in_default.is) ∙ c.order_in.ensures)

pub returns-in-None-clause-asks : goal.returns-in-None-clause-asks
returns-in-None-clause-asks c =
    asked _ c.in_ok-program.ensures (texts c.args.words.now) c.in_ok-matches.matches (request_of c.in-Some.order)
    (λ simple. (c.in_ok-matches.ensures.matches simple).1) c.in_ok-matches.ensures.kinds (sym (ap (option_map request_of) c.in-Some.is) ∙ c.order_in.ensures)
    (c.in_ok-unfit.ensures ∙ ap is_none c.in-None.is)

pub returns-clause-refused : goal.returns-clause-refused
returns-clause-refused c = λ of_words.
    unfit _ c.in_ok-program.ensures (texts c.args.words.now) c.in_ok-matches.matches (request_of c.in-Some.order)
    (λ simple. (c.in_ok-matches.ensures.matches simple).1) (sym (ap (option_map request_of) c.in-Some.is) ∙ c.order_in.ensures)
    (c.in_ok-unfit.ensures ∙ ap is_none c.in-Some-2.is)
