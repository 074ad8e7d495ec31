use Rattle.std.proofs.Common.{◌≡◌, ◌∙◌, length, sym, ap, arith}
use Rattle.std.proofs.lemmas.List.{with_items_is}
use Rattle.packed_state.specs.Words.{bits_in}
use Rattle.packed_state.specs.Packed.{bits_of, mask_bits_of}
use Rattle.packed_state.proofs.PackedLemmas.{as_many, changed_bits, changed_are_words}
use Rattle.packed_state.proofs.packed.Packed.change.Goals as goal

pub change-requires-clause-deletes : goal.change-requires-clause-deletes
unfolding bits_of mask_bits_of
change-requires-clause-deletes c =
    let p = c.args.self.now in
    let m = c.args.deletes.now.set in
    ap length c.deref.ensures.value ∙ sym (as_many p.width m.width p.words.items m.words.items p.packed m.packed c.requires.deletes).1 ∙ sym (ap length c.deref_mut.ensures.value)

pub change-requires-clause-adds : goal.change-requires-clause-adds
unfolding bits_of mask_bits_of
change-requires-clause-adds c =
    let p = c.args.self.now in
    let m = c.args.adds.now.set in
    ap length c.deref-2.ensures.value ∙ sym (as_many p.width m.width p.words.items m.words.items p.packed m.packed c.requires.adds).1 ∙ sym (ap length c.deref_mut.ensures.value)

pub change-requires-clause-small : goal.change-requires-clause-small
change-requires-clause-small c = rw c.deref_mut.ensures.value c.args.self.now.packed.small

pub invariant_of-self : goal.invariant_of-self
unfolding bits_of mask_bits_of
invariant_of-self c =
    let p = c.args.self.now in
    let d = c.args.deletes.now.set in
    let a = c.args.adds.now.set in
    let wide : p.width ≡ a.width = (as_many p.width a.width p.words.items a.words.items p.packed a.packed c.requires.adds).0 in
    record {
      packed =
          rw (with_items_is p.words c.change.new.words (c.change.auto.words ∙ c.deref_mut.ensures.len))
          (changed_are_words p.width a.width p.words.items d.words.items a.words.items c.change.new.words p.packed a.packed (omega arith)
          (c.change.auto.words ∙ ap length c.deref_mut.ensures.value) c.change.ensures.small
          (rw (c.deref_mut.ensures.value, c.deref.ensures.value, c.deref-2.ensures.value) at c.change.ensures.has));
    }

pub returns : goal.returns
unfolding bits_of mask_bits_of
returns c =
    let p = c.args.self.now in
    let d = c.args.deletes.now.set in
    let a = c.args.adds.now.set in
    ap (bits_in p.width) (with_items_is p.words c.change.new.words (c.change.auto.words ∙ c.deref_mut.ensures.len))
    ∙ changed_bits p.width d.width a.width p.words.items d.words.items a.words.items c.change.new.words p.packed d.packed a.packed
    (rw (c.deref_mut.ensures.value, c.deref.ensures.value, c.deref-2.ensures.value) at c.change.ensures.has)
