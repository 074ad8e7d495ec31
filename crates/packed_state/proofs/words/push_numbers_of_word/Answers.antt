use mir.Facts.{Fits-lt-pow}
use Rattle.std.proofs.Common.{◌∙◌, ◌++◌, ap, sym, arith}
use Rattle.std.proofs.lemmas.List.{append-nil, append_assoc}
use Rattle.packed_state.specs.Words.{numbers_of_word}
use Rattle.packed_state.proofs.NumberLemmas.{none_of_word, lowest_of_word, without_lowest, without_lowest_smaller, one_more}
use Rattle.packed_state.proofs.words.push_numbers_of_word.Goals as goal

pub rest-smaller : goal.rest-smaller
rest-smaller c = without_lowest_smaller c.rest.rest (omega (arith, c.rest-test.true)) (Fits-lt-pow c.rest.auto.rest-fits)

pub rest-preserved : goal.rest-preserved
rest-preserved c =
    let left = numbers_of_word c.args.first (without_lowest c.rest.rest) in (
      one_more c.args.into.now.items c.rest.into.items c.push.new.self.items _ c.rest.invariant.0 c.in_ok-push.ensures.items,
      ap (λ items. items ++ left) c.in_ok-push.ensures.items
          ∙ append_assoc c.rest.into.items _ left
          ∙ ap (λ more. c.rest.into.items ++ more) (sym (lowest_of_word c.args.first c.rest.rest (omega (arith, c.rest-test.true)) (Fits-lt-pow c.rest.auto.rest-fits)))
          ∙ c.rest.invariant.1,
    )

pub returns-clause-ok : goal.returns-clause-ok
returns-clause-ok c =
    sym (append-nil c.rest.into.items)
    ∙ ap (λ more. c.rest.into.items ++ more) (sym (none_of_word c.args.first) ∙ ap (numbers_of_word c.args.first) (sym c.rest-test.false))
    ∙ c.rest.invariant.1
