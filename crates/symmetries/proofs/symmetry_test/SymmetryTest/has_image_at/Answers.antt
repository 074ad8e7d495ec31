use Rattle.std.proofs.Common.{◌≡◌, ◌∙◌, true, length, Some, None, ap, refl, sym}
use Rattle.std.specs.Prelude.{slice_get}
use Rattle.std.specs.Option.{option_map, option_map_or}
use Rattle.std.proofs.lemmas.Option.{slice_get-map, slice_get_read}
use Rattle.symmetries_definitions.specs.NamedObjects.{named_in_formula}
use Rattle.symmetries.specs.Exchange.{image}
use Rattle.symmetries.specs.Kept.{has_image}
use Rattle.symmetries.specs.Lent.{formulas_lent, lent_formula}
use Rattle.symmetries.specs.Named.{is_among}
use Rattle.symmetries.specs.SymmetryTest.{task_tested}
use Rattle.symmetries.proofs.symmetry_test.SymmetryTest.has_image_at.Goals as goal

pub returns-in-Some : goal.returns-in-Some
returns-in-Some c =
    let items = c.args.self.now.conjuncts.items in
    let lent = c.deref.result.now in
    let found = c.in-Some.ensures.lookup in
    let at : Some c.in-Some.conjunct.now ≡ slice_get items c.args.place =
    sym (slice_get_read lent (length lent) c.args.place c.in-Some.conjunct.now refl found.3.0 found.1) ∙ ap (λ l. slice_get l c.args.place) c.deref.ensures.value in
    c.has_image.ensures
    ∙ ap (λ o. option_map_or (has_image (task_tested c.args.self.now) (image c.args.exchange.now)) o true)
    (ap (option_map lent_formula) at ∙ sym (slice_get-map lent_formula items c.args.place))
