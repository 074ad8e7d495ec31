use Rattle.std.proofs.Common.{arith, sym, ap, ◌∙◌}
use Rattle.packed_state.specs.Packed.{bits_of}
use Rattle.packed_state.specs.Words.{word_has}
use Rattle.packed_state.proofs.PackedLemmas.{length-bits, bit_of}
use Rattle.packed_state.proofs.packed.Packed.has.Goals as goal

pub has-requires : goal.has-requires
unfolding bits_of
has-requires c =
    let p = c.args.self.now in
    omega (arith, length-bits p.width p.words.items, p.packed.enough)

pub returns : goal.returns
unfolding bits_of
returns c =
    let p = c.args.self.now in
    c.has.ensures ∙ ap (λ words. word_has words c.args.number) c.deref.ensures.value ∙ sym (bit_of p.width p.words.items p.packed c.args.number)
