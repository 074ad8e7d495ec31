use Rattle.std.proofs.Common.{◌∙◌, ℕ, Bool, false, ap, sym}
use Rattle.std.specs.Prelude.{slice_get}
use Rattle.std.specs.List.{list_any}
use Rattle.std.specs.Option.{option_map_or}
use Rattle.task.specs.TaskParts.{formula_of}
use Rattle.model.specs.Task.{Formula}
use Rattle.formulas.proofs.FluentTests.{any_nowhere}
use Rattle.symmetries_definitions.specs.Exchanges.{image_of_formula}
use Rattle.symmetries_definitions.specs.SameFormula.{is_same_formula}
use Rattle.symmetries.specs.Exchange.{image}
use Rattle.symmetries.specs.Lent.{formulas_lent}
use Rattle.symmetries.specs.PlacesByObject.{row_of}
use Rattle.symmetries.proofs.TestSteps.{any_here_index, any_more_index, image_in_row}
use Rattle.symmetries.proofs.symmetry_test.SymmetryTest.has_image.Goals as goal

pub loop-place-preserved : goal.loop-place-preserved
loop-place-preserved c =
    let is : Formula → Bool = is_same_formula (image_of_formula (image c.args.exchange.now) (formula_of c.args.formula.now)) in
    let test : ℕ → Bool = λ place. option_map_or is (slice_get (formulas_lent c.args.self.now.conjuncts.items) place) false in
    any_more_index test c.of-place-items.result.now c.loop-place.place-index 0 c.loop-place-test.true c.loop-place.invariant (sym c.is_image_at.ensures ∙ c.if-is_image_at.false)

pub returns-then-is_image_at : goal.returns-then-is_image_at
returns-then-is_image_at c =
    let tested = c.args.self.now in
    let is : Formula → Bool = is_same_formula (image_of_formula (image c.args.exchange.now) (formula_of c.args.formula.now)) in
    let test : ℕ → Bool = λ place. option_map_or is (slice_get (formulas_lent tested.conjuncts.items) place) false in
    any_here_index test c.of-place-items.result.now c.loop-place.place-index 0 c.loop-place-test.true (sym c.is_image_at.ensures ∙ c.if-is_image_at.true)
    ∙ ap (list_any test) (c.of-place-items.ensures ∙ ap (row_of tested.goals) c.image.ensures)
    ∙ image_in_row (image c.args.exchange.now) (formulas_lent tested.conjuncts.items) (row_of tested.goals) tested.covers_goal (formula_of c.args.formula.now) c.args.object.0 c.requires
    ∙ (tested.are_conjuncts is).1

pub returns : goal.returns
returns c =
    let tested = c.args.self.now in
    let is : Formula → Bool = is_same_formula (image_of_formula (image c.args.exchange.now) (formula_of c.args.formula.now)) in
    let test : ℕ → Bool = λ place. option_map_or is (slice_get (formulas_lent tested.conjuncts.items) place) false in
    any_nowhere test c.of-place-items.result.now c.loop-place.place-index c.loop-place-test.false c.loop-place.invariant
    ∙ ap (list_any test) (c.of-place-items.ensures ∙ ap (row_of tested.goals) c.image.ensures)
    ∙ image_in_row (image c.args.exchange.now) (formulas_lent tested.conjuncts.items) (row_of tested.goals) tested.covers_goal (formula_of c.args.formula.now) c.args.object.0 c.requires
    ∙ (tested.are_conjuncts is).1
