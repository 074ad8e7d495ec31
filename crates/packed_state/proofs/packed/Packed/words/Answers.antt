use Rattle.packed_state.specs.Words.{bits_in}
use Rattle.packed_state.specs.Packed.{bits_of}
use Rattle.packed_state.proofs.PackedLemmas.{length-bits}
use Rattle.packed_state.proofs.packed.Packed.words.Goals as goal

pub returns-clause-packed : goal.returns-clause-packed
unfolding bits_of
returns-clause-packed c =
    let p = c.args.self.now in
    rw (length-bits p.width p.words.items, c.deref.ensures.value) p.packed

pub returns-clause-bits : goal.returns-clause-bits
unfolding bits_of
returns-clause-bits c =
    let p = c.args.self.now in
    λ i. bits_in (length-bits p.width p.words.items i) (c.deref.ensures.value i)
