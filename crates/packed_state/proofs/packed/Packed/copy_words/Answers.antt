use Rattle.std.proofs.Common.{sym, arith}
use Rattle.packed_state.specs.Words.{bits_in}
use Rattle.packed_state.specs.Packed.{bits_of}
use Rattle.packed_state.proofs.PackedLemmas.{length-bits}
use Rattle.packed_state.proofs.packed.Packed.copy_words.Goals as goal

pub copy_from_slice-requires : goal.copy_from_slice-requires
unfolding bits_of
copy_from_slice-requires c =
    let p = c.args.self.now in
    omega (arith, p.packed.enough, p.packed.no_more, c.requires.enough, c.requires.no_more, length-bits p.width p.words.items, p.words.ok.0)

pub invariant_of-self : goal.invariant_of-self
unfolding bits_of
invariant_of-self c =
    let p = c.args.self.now in
    record { packed = rw c.copy_from_slice.ensures.items (rw (length-bits p.width p.words.items) at c.requires) }

pub returns : goal.returns
unfolding bits_of
returns c =
    let p = c.args.self.now in
    λ i. bits_in (sym (length-bits p.width p.words.items) i) (c.copy_from_slice.ensures.items i)
