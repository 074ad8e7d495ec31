use Rattle.std.proofs.Common.{◌∙◌, length, sym, ap}
use Rattle.packed_state.specs.Packed.{bits_of, mask_bits_of}
use Rattle.packed_state.proofs.PackedLemmas.{as_many, disjoint_bits}
use Rattle.packed_state.proofs.packed.Packed.has_none.Goals as goal

pub are_disjoint-requires : goal.are_disjoint-requires
unfolding bits_of mask_bits_of
are_disjoint-requires c =
    let p = c.args.self.now in
    let m = c.args.mask.now.set in
    ap length c.deref.ensures.value ∙ (as_many p.width m.width p.words.items m.words.items p.packed m.packed c.requires).1 ∙ sym (ap length c.deref-2.ensures.value)

pub returns : goal.returns
unfolding bits_of mask_bits_of
returns c =
    let p = c.args.self.now in
    let m = c.args.mask.now.set in
    disjoint_bits p.width m.width p.words.items m.words.items c.are_disjoint.result p.packed m.packed
    (rw (c.deref.ensures.value, c.deref-2.ensures.value) at c.are_disjoint.ensures)
