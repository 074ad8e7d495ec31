use Rattle.packed_state.specs.Packed.{bits_of}
use Rattle.packed_state.proofs.PackedLemmas.{empty_words, empty_bits}
use Rattle.packed_state.proofs.packed.Packed.empty.Goals as goal

pub invariant_of-result : goal.invariant_of-result
invariant_of-result c =
    record { packed = empty_words c.args.width c.words_for.result c.in_ok-words.words.items (c.in_ok-words.ensures.items_if_clones_equal (λ y is. is)) c.words_for.ensures.enough c.words_for.ensures.no_more }

pub returns : goal.returns
unfolding bits_of
returns c = empty_bits c.args.width c.words_for.result c.in_ok-words.words.items (c.in_ok-words.ensures.items_if_clones_equal (λ y is. is))
