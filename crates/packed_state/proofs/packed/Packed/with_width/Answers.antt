use Rattle.std.proofs.Common.{◌≡◌, ◌-◌, ◌++◌, ◌∙◌, take, replicate, ap, sym}
use Rattle.packed_state.specs.Packed.{bits_of}
use Rattle.packed_state.proofs.PackedLemmas.{widened_words, widened_bits}
use Rattle.packed_state.proofs.packed.Packed.with_width.Goals as goal

pub invariant_of-result : goal.invariant_of-result
unfolding bits_of
invariant_of-result c =
    let p = c.args.self.now in
    let same : c.in_ok-words.words.items ≡ p.words.items = c.in_ok-words.ensures.items ∙ c.deref.ensures.value in
    record {
      packed =
          widened_words p.width c.args.width c.words_for.result (c.words_for.result - c.in_ok-words.words.len) p.words.items c.resize.new.self.items p.packed
          (c.in_ok-resize.ensures.items ∙ ap (λ xs. take c.words_for.result xs ++ replicate (c.words_for.result - c.in_ok-words.words.len) 0) same)
          c.words_for.ensures.enough c.requires (sym c.resize.new.self.ok.0 ∙ c.in_ok-resize.ensures.len) c.words_for.ensures.no_more;
    }

pub returns : goal.returns
unfolding bits_of
returns c =
    let p = c.args.self.now in
    let same : c.in_ok-words.words.items ≡ p.words.items = c.in_ok-words.ensures.items ∙ c.deref.ensures.value in
    widened_bits p.width c.args.width c.words_for.result (c.words_for.result - c.in_ok-words.words.len) p.words.items c.resize.new.self.items p.packed
    (c.in_ok-resize.ensures.items ∙ ap (λ xs. take c.words_for.result xs ++ replicate (c.words_for.result - c.in_ok-words.words.len) 0) same)
    c.words_for.ensures.enough c.requires
