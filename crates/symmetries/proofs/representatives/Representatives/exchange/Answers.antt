use Rattle.std.proofs.Common.{◌∙◌, sym, ap, subst}
use Rattle.std.specs.Option.{option_map_or}
use Rattle.packed_state.specs.Packed.{bits_of}
use Rattle.symmetries.specs.SwappedPlaces.{with_swapped}
use Rattle.symmetries.specs.Runs.{AreBelow}
use Rattle.symmetries.proofs.Kept.{at_index}
use Rattle.symmetries.proofs.representatives.Representatives.exchange.Goals as goal

pub exchange_bits-requires : goal.exchange_bits-requires
exchange_bits-requires c =
    subst (λ width. AreBelow width c.as_slice.result.now) (sym c.requires.wide)
    (at_index c.args.self.now c.args.number c.index.result.now c.as_slice.result.now c.requires.number c.index.ensures c.as_slice.ensures.value).1

pub returns : goal.returns
returns c =
    c.exchange_bits.ensures
    ∙ ap (λ o. option_map_or (λ pairs. with_swapped pairs (bits_of c.args.state.now)) o (bits_of c.args.state.now))
    (sym (at_index c.args.self.now c.args.number c.index.result.now c.as_slice.result.now c.requires.number c.index.ensures c.as_slice.ensures.value).0)
