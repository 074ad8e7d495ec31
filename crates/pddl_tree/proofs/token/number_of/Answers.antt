use Rattle.std.proofs.Common.{arith, ◌∙◌, ◌-◌, ap}
use Rattle.std.specs.Str.{str_to_ascii_lowercase}
use Rattle.model.specs.GrammarWords.{number_of_digits}
use Rattle.pddl_tree.proofs.Numbers.{too_large}
use Rattle.pddl_tree.proofs.token.number_of.Goals as goal

pub returns-then-more-from : goal.returns-then-more-from
returns-then-more-from c =
    let value = c.saturating_sub-value.ensures ∙ ap (λ byte. byte - 48) c.to_ascii_lowercase.ensures.value in
    too_large c.args.digits.now c.loop-digit.digit-index c.loop-digit.number c.saturating_sub-value.result (number_of_digits (str_to_ascii_lowercase c.args.digits.now)) (omega (arith, c.loop-digit.auto.digit-index-end, c.loop-digit-test.true))
    value (omega (arith, c.if-more-from.true, c.from-in-loop-digit-2.ensures, c.from-in-loop-digit.ensures, c.from.ensures)) c.loop-digit.invariant.same
