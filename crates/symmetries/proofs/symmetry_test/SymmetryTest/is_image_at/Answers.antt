use Rattle.std.proofs.Common.{◌≡◌, ◌∙◌, false, length, Some, ap, refl, sym}
use Rattle.std.specs.Prelude.{slice_get}
use Rattle.std.specs.Option.{option_map, option_map_or}
use Rattle.std.proofs.lemmas.Option.{slice_get-map, slice_get_read}
use Rattle.task.specs.TaskParts.{formula_of}
use Rattle.symmetries_definitions.specs.Exchanges.{image_of_formula}
use Rattle.symmetries_definitions.specs.SameFormula.{is_same_formula}
use Rattle.symmetries.specs.Exchange.{image}
use Rattle.symmetries.specs.Lent.{lent_formula}
use Rattle.symmetries.proofs.symmetry_test.SymmetryTest.is_image_at.Goals as goal

pub returns-in-Some : goal.returns-in-Some
returns-in-Some c =
    let items = c.args.self.now.conjuncts.items in
    let lent = c.deref.result.now in
    let found = c.in-Some.ensures.lookup in
    let at : Some c.in-Some.conjunct.now ≡ slice_get items c.args.place =
    sym (slice_get_read lent (length lent) c.args.place c.in-Some.conjunct.now refl found.3.0 found.1) ∙ ap (λ l. slice_get l c.args.place) c.deref.ensures.value in
    c.is_image.ensures
    ∙ ap (λ o. option_map_or (is_same_formula (image_of_formula (image c.args.exchange.now) (formula_of c.args.formula.now))) o false)
    (ap (option_map lent_formula) at ∙ sym (slice_get-map lent_formula items c.args.place))
