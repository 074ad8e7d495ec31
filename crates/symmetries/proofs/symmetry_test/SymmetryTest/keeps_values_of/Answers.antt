use Rattle.std.proofs.Common.{◌∙◌, ℕ, Bool, true, ap, sym}
use Rattle.std.specs.Prelude.{slice_get}
use Rattle.std.specs.List.{list_all}
use Rattle.std.specs.Option.{option_map_or}
use Rattle.model.proofs.Tests.{passes_more_index, passes_not_index, passes_whole}
use Rattle.symmetries.specs.Exchange.{image}
use Rattle.symmetries.specs.Kept.{keeps_value}
use Rattle.symmetries.specs.SymmetryTest.{task_tested}
use Rattle.symmetries.proofs.symmetry_test.SymmetryTest.keeps_values_of.Goals as goal

pub loop-place-preserved : goal.loop-place-preserved
loop-place-preserved c =
    let t = task_tested c.args.self.now in
    let test : ℕ → Bool = λ place. option_map_or (keeps_value t (image c.args.exchange.now)) (slice_get t.values place) true in
    passes_more_index test c.of-place-items.result.now c.loop-place.place-index 0 c.loop-place-test.true c.loop-place.invariant (sym c.keeps_value_at.ensures ∙ c.if-not-keeps_value_at.false)

pub returns-then-not-keeps_value_at : goal.returns-then-not-keeps_value_at
returns-then-not-keeps_value_at c =
    let t = task_tested c.args.self.now in
    let test : ℕ → Bool = λ place. option_map_or (keeps_value t (image c.args.exchange.now)) (slice_get t.values place) true in
    passes_not_index test c.of-place-items.result.now c.loop-place.place-index 0 c.loop-place-test.true (sym c.keeps_value_at.ensures ∙ c.if-not-keeps_value_at.true)
    ∙ ap (list_all test) c.of-place-items.ensures

pub returns : goal.returns
returns c =
    let t = task_tested c.args.self.now in
    let test : ℕ → Bool = λ place. option_map_or (keeps_value t (image c.args.exchange.now)) (slice_get t.values place) true in
    passes_whole test c.of-place-items.result.now c.loop-place.place-index c.loop-place-test.false c.loop-place.invariant ∙ ap (list_all test) c.of-place-items.ensures
