use Rattle.std.proofs.Common.{◌∙◌, ◌*◌, ◌++◌, get_or, ap, sym}
use Rattle.std.specs.List.{filter, range_with_len}
use Rattle.std.proofs.lemmas.List.{append_assoc}
use Rattle.packed_state.specs.Words.{word_has, numbers_of_word}
use Rattle.packed_state.proofs.NumberLemmas.{one_word_more, more_begin}
use Rattle.packed_state.proofs.words.push_numbers.Goals as goal

pub words-preserved : goal.words-preserved
words-preserved c =
    let words = c.args.words.now in
    let place = c.words.place in
    let more = numbers_of_word (place * 64) (get_or words place 0) in (
      more_begin c.args.into.now.items c.words.into.items c.push_numbers_of_word.new.into.items c.words.invariant.0 c.push_numbers_of_word.ensures.begins,
      c.in_ok-push_numbers_of_word.ensures.ok
          ∙ ap (λ items. items ++ more) c.words.invariant.1
          ∙ append_assoc c.args.into.now.items (filter (word_has words) (range_with_len 0 (64 * place))) more
          ∙ ap (λ items. c.args.into.now.items ++ items) (sym (one_word_more words place)),
    )
