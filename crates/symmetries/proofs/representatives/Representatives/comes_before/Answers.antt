use Rattle.std.proofs.Common.{◌∙◌, false, sym, ap, subst}
use Rattle.std.specs.Option.{option_map_or}
use Rattle.packed_state.specs.Packed.{bits_of}
use Rattle.packed_state.specs.Sets.{has}
use Rattle.symmetries.specs.SwappedPlaces.{is_earlier}
use Rattle.symmetries.specs.Runs.{AreBelow}
use Rattle.symmetries.proofs.Kept.{at_index}
use Rattle.symmetries.proofs.representatives.Representatives.comes_before.Goals as goal

pub image_comes_before-requires : goal.image_comes_before-requires
image_comes_before-requires c =
    subst (λ width. AreBelow width c.as_slice.result.now) (sym c.requires.wide)
    (at_index c.args.self.now c.args.number c.index.result.now c.as_slice.result.now c.requires.number c.index.ensures c.as_slice.ensures.value).1

pub returns : goal.returns
returns c =
    c.image_comes_before.ensures
    ∙ ap (λ o. option_map_or (λ pairs. is_earlier pairs (has (bits_of c.args.state.now))) o false)
    (sym (at_index c.args.self.now c.args.number c.index.result.now c.as_slice.result.now c.requires.number c.index.ensures c.as_slice.ensures.value).0)
