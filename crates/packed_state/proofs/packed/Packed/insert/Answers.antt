use Rattle.std.proofs.Common.{◌≡◌, ◌∙◌, ◌||◌, ◌==◌, length, ap, arith}
use Rattle.std.proofs.lemmas.List.{with_items_is}
use Rattle.packed_state.specs.Words.{word_has, bits_in}
use Rattle.packed_state.specs.Packed.{bits_of}
use Rattle.packed_state.proofs.PackedLemmas.{length-bits, insert_bits, insert_words}
use Rattle.packed_state.proofs.packed.Packed.insert.Goals as goal

pub insert-requires-clause-within : goal.insert-requires-clause-within
unfolding bits_of
insert-requires-clause-within c =
    let p = c.args.self.now in
    omega (arith, length-bits p.width p.words.items, p.packed.enough, ap length c.deref_mut.ensures.value)

pub insert-requires-clause-small : goal.insert-requires-clause-small
insert-requires-clause-small c = rw c.deref_mut.ensures.value c.args.self.now.packed.small

pub invariant_of-self : goal.invariant_of-self
unfolding bits_of
invariant_of-self c =
    let p = c.args.self.now in
    let long : length c.insert.new.words ≡ length p.words.items = c.insert.auto.words ∙ ap length c.deref_mut.ensures.value in
    record {
      packed =
          rw (with_items_is p.words c.insert.new.words (c.insert.auto.words ∙ c.deref_mut.ensures.len))
          (insert_words p.width p.words.items c.insert.new.words c.args.number p.packed
          (omega (arith, length-bits p.width p.words.items)) long c.insert.ensures.small
          (λ k. c.insert.ensures.has k ∙ ap (λ w. word_has w k || (c.args.number == k)) c.deref_mut.ensures.value));
    }

pub returns : goal.returns
unfolding bits_of
returns c =
    let p = c.args.self.now in
    ap (bits_in p.width) (with_items_is p.words c.insert.new.words (c.insert.auto.words ∙ c.deref_mut.ensures.len))
    ∙ insert_bits p.width p.words.items c.insert.new.words c.args.number (omega (arith, length-bits p.width p.words.items))
    (λ k. c.insert.ensures.has k ∙ ap (λ w. word_has w k || (c.args.number == k)) c.deref_mut.ensures.value)
