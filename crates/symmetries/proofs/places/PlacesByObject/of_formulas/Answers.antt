use Rattle.std.proofs.Common.{◌∙◌, length, map, ap, refl, sym, arith}
use Rattle.std.specs.Option.{option_map}
use Rattle.std.proofs.lemmas.List.{length-map}
use Rattle.std.proofs.lemmas.Option.{slice_get-map, slice_get_read}
use Rattle.task.specs.TaskParts.{object_of}
use Rattle.symmetries.specs.Lent.{formulas_lent, lent_formula}
use Rattle.symmetries.proofs.PlaceLemmas.{indexes_none, indexes_more, indexes_all}
use Rattle.symmetries.proofs.places.PlacesByObject.of_formulas.Goals as goal

pub loop-place-init : goal.loop-place-init
loop-place-init c = indexes_none (formulas_lent c.args.formulas.now) c.none-places.result c.none-places.ensures

pub loop-place-preserved : goal.loop-place-preserved
loop-place-preserved c =
    let one = c.index-formulas-place in
    let formulas = c.args.formulas.now in
    indexes_more (formulas_lent formulas) c.loop-place.place (lent_formula one.result) c.deref.result.now c.loop-place.places c.add.new.self
    (slice_get-map lent_formula formulas c.loop-place.place ∙ ap (option_map lent_formula) (slice_get_read formulas (length formulas) c.loop-place.place one.result refl c.loop-place-test.true one.is))
    (ap (map object_of) c.deref.ensures.value ∙ c.in_ok-named.ensures) c.loop-place.invariant c.in_ok-add.ensures

pub returns : goal.returns
returns c =
    let same = length-map c.args.formulas.now lent_formula in
    indexes_all (formulas_lent c.args.formulas.now) c.loop-place.place c.loop-place.places (omega (arith, same, c.loop-place-test.false)) c.loop-place.invariant
