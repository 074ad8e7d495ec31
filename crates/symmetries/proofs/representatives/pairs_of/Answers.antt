use Rattle.std.proofs.Common.{rules, ◌≡◌, ◌∙◌, true, sym, ap}
use Rattle.grounding.specs.Ground.{atoms_in}
use Rattle.symmetries_definitions.specs.Orbits.{keeps_atoms}
use Rattle.symmetries.specs.Exchange.{exchange_of}
use Rattle.symmetries.specs.SwappedPlaces.{are_within, swap_of}
use Rattle.symmetries.proofs.Kept.{numbers_fit}
use Rattle.symmetries.proofs.representatives.pairs_of.Goals as goal

pub pairs_from-requires : goal.pairs_from-requires
pairs_from-requires c =
    let g = c.args.ground.now in
    let e = c.args.exchange.now in
    let numbers = c.in-Some.numbers.items in
    let keeps : true ≡ keeps_atoms (atoms_in g) (exchange_of e) = search rules in
    let is : numbers ≡ swap_of (atoms_in g) (exchange_of e) = search rules in
    ap (are_within 4294967296) c.as_slice.ensures.value ∙ numbers_fit g e numbers (sym keeps) is
