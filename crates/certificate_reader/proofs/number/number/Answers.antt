use Rattle.std.proofs.Common.{◌∙◌, sym, arith}
use Rattle.std.proofs.lemmas.Bool.{lt-ltb}
use Rattle.certificate_reader.proofs.NumberLemmas.{digit_left, digits_are_spelled, is_below, next_is_no_more, numbers_are_digits, numbers_are_spelled, numbers_have_values, none_left}
use Rattle.certificate_reader.proofs.number.number.Goals as goal

pub returns-then-not-is_spelled-clause-none : goal.returns-then-not-is_spelled-clause-none
returns-then-not-is_spelled-clause-none c = λ n is same.
    absurd (cc (sym (numbers_are_spelled n is c.args.word.now same) ∙ sym c.is_spelled.ensures, c.if-not-is_spelled.true))

pub returns-then-not-is_ascii_digit-clause-none : goal.returns-then-not-is_ascii_digit-clause-none
returns-then-not-is_ascii_digit-clause-none c = λ n is same.
    let word = c.args.word.now in
    digit_left word c.loop-byte.byte-index c.loop-byte-test.true (c.loop-byte.invariant.left (numbers_are_digits n is word same))
    (sym c.is_ascii_digit.ensures.value ∙ c.if-not-is_ascii_digit.true)

pub returns-then-number-ge-NUMBER_LIMIT-clause-none : goal.returns-then-number-ge-NUMBER_LIMIT-clause-none
returns-then-number-ge-NUMBER_LIMIT-clause-none c = λ n is same.
    let word = c.args.word.now in
    let value = numbers_have_values n is word same in
    let below = is_below n is in
    let more = next_is_no_more word c.loop-byte.byte-index c.loop-byte.number c.loop-byte-test.true (sym c.is_ascii_digit.ensures.value ∙ c.if-not-is_ascii_digit.false) in
    omega (arith, value, below, more, c.from.ensures, c.loop-byte.invariant.value, c.if-number-ge-NUMBER_LIMIT.true)

pub returns-clause-some : goal.returns-clause-some
returns-clause-some c =
    let word = c.args.word.now in
    let (value, all) = none_left word c.loop-byte.byte-index c.loop-byte.number c.loop-byte-test.false c.loop-byte.invariant.value c.loop-byte.invariant.all in (
      lt-ltb c.loop-byte.number 1152921504606846976 c.loop-byte.invariant.below,
      digits_are_spelled word c.loop-byte.number (sym c.is_spelled.ensures ∙ c.if-not-is_spelled.false) all value c.loop-byte.invariant.below,
    )
