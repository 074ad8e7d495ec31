use Rattle.std.proofs.Common.{◌≡◌, ◌∙◌, ◌&&◌, ◌==◌, not, length, ap, arith}
use Rattle.std.proofs.lemmas.List.{with_items_is}
use Rattle.packed_state.specs.Words.{word_has, bits_in}
use Rattle.packed_state.specs.Packed.{bits_of}
use Rattle.packed_state.proofs.PackedLemmas.{length-bits, remove_bits, remove_words}
use Rattle.packed_state.proofs.packed.Packed.remove.Goals as goal

pub remove-requires-clause-within : goal.remove-requires-clause-within
unfolding bits_of
remove-requires-clause-within c =
    let p = c.args.self.now in
    omega (arith, length-bits p.width p.words.items, p.packed.enough, ap length c.deref_mut.ensures.value)

pub remove-requires-clause-small : goal.remove-requires-clause-small
remove-requires-clause-small c = rw c.deref_mut.ensures.value c.args.self.now.packed.small

pub invariant_of-self : goal.invariant_of-self
unfolding bits_of
invariant_of-self c =
    let p = c.args.self.now in
    let long : length c.remove.new.words ≡ length p.words.items = c.remove.auto.words ∙ ap length c.deref_mut.ensures.value in
    record {
      packed =
          rw (with_items_is p.words c.remove.new.words (c.remove.auto.words ∙ c.deref_mut.ensures.len))
          (remove_words p.width p.words.items c.remove.new.words c.args.number p.packed long c.remove.ensures.small
          (λ k. c.remove.ensures.has k ∙ ap (λ w. word_has w k && not (c.args.number == k)) c.deref_mut.ensures.value));
    }

pub returns : goal.returns
unfolding bits_of
returns c =
    let p = c.args.self.now in
    ap (bits_in p.width) (with_items_is p.words c.remove.new.words (c.remove.auto.words ∙ c.deref_mut.ensures.len))
    ∙ remove_bits p.width p.words.items c.remove.new.words c.args.number (omega (arith, length-bits p.width p.words.items))
    (λ k. c.remove.ensures.has k ∙ ap (λ w. word_has w k && not (c.args.number == k)) c.deref_mut.ensures.value)
