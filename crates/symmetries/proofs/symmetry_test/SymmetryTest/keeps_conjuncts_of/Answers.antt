use Rattle.std.proofs.Common.{◌∙◌, ℕ, Bool, true, ap, sym, get_or}
use Rattle.std.specs.Prelude.{◌==◌, slice_get}
use Rattle.std.specs.List.{list_all, list_any}
use Rattle.std.specs.Option.{option_map_or}
use Rattle.std.proofs.lemmas.Bool.{eq-eqb}
use Rattle.formulas.proofs.FluentTests.{any_here}
use Rattle.model.proofs.Tests.{passes_more_index, passes_not_index, passes_whole}
use Rattle.symmetries.specs.Exchange.{image}
use Rattle.symmetries.specs.Kept.{has_image}
use Rattle.symmetries.specs.Lent.{formulas_lent}
use Rattle.symmetries.specs.SymmetryTest.{task_tested}
use Rattle.symmetries.proofs.TestSteps.{listed_at}
use Rattle.symmetries.proofs.symmetry_test.SymmetryTest.keeps_conjuncts_of.Goals as goal

pub has_image_at-requires : goal.has_image_at-requires
has_image_at-requires c = listed_at c.of-place-items.result.now c.loop-place.place-index 0 c.loop-place-test.true _ c.of-place-items.ensures

pub loop-place-preserved : goal.loop-place-preserved
loop-place-preserved c =
    let test : ℕ → Bool = λ place. option_map_or (has_image (task_tested c.args.self.now) (image c.args.exchange.now)) (slice_get (formulas_lent c.args.self.now.conjuncts.items) place) true in
    passes_more_index test c.of-place-items.result.now c.loop-place.place-index 0 c.loop-place-test.true c.loop-place.invariant (sym c.has_image_at.ensures ∙ c.if-not-has_image_at.false)

pub returns-then-not-has_image_at : goal.returns-then-not-has_image_at
returns-then-not-has_image_at c =
    let test : ℕ → Bool = λ place. option_map_or (has_image (task_tested c.args.self.now) (image c.args.exchange.now)) (slice_get (formulas_lent c.args.self.now.conjuncts.items) place) true in
    passes_not_index test c.of-place-items.result.now c.loop-place.place-index 0 c.loop-place-test.true (sym c.has_image_at.ensures ∙ c.if-not-has_image_at.true)
    ∙ ap (list_all test) c.of-place-items.ensures

pub returns : goal.returns
returns c =
    let test : ℕ → Bool = λ place. option_map_or (has_image (task_tested c.args.self.now) (image c.args.exchange.now)) (slice_get (formulas_lent c.args.self.now.conjuncts.items) place) true in
    passes_whole test c.of-place-items.result.now c.loop-place.place-index c.loop-place-test.false c.loop-place.invariant ∙ ap (list_all test) c.of-place-items.ensures
