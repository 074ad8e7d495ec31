use Rattle.std.proofs.Common.{◌∙◌, ap, sym}
use Rattle.std.specs.List.{list_all}
use Rattle.task.specs.declared.atoms.ObjectId.{ObjectId}
use Rattle.model.proofs.Tests.{passes_map, passes_more_index, passes_not_index, passes_whole}
use Rattle.symmetries.specs.Exchange.{exchange_of, image}
use Rattle.symmetries.specs.Kept.{has_image}
use Rattle.symmetries.specs.Lent.{formulas_lent}
use Rattle.symmetries.specs.ObjectPairs.{pair_of}
use Rattle.symmetries.specs.PlacesByObject.{row_of}
use Rattle.symmetries.specs.SymmetryTest.{task_tested}
use Rattle.symmetries.proofs.TestSteps.{pair_keeps, goal_covered}
use Rattle.symmetries.proofs.symmetry_test.SymmetryTest.keeps_goal.Goals as goal

pub loop-pair-preserved : goal.loop-pair-preserved
loop-pair-preserved c =
    let test = pair_keeps (has_image (task_tested c.args.self.now) (image c.args.exchange.now)) (formulas_lent c.args.self.now.conjuncts.items) (row_of c.args.self.now.goals) in
    let d : ObjectId × ObjectId = (record { 0 = 0 }, record { 0 = 0 }) in
    passes_more_index (λ pair. test (pair_of pair)) c.pairs-pair-items.result.now c.loop-pair.pair-index d c.loop-pair-test.true c.loop-pair.invariant
    (sym c.keeps_conjuncts_of_pair.ensures ∙ c.if-not-keeps_conjuncts_of_pair.false)

pub returns-then-not-keeps_conjuncts_of_pair : goal.returns-then-not-keeps_conjuncts_of_pair
returns-then-not-keeps_conjuncts_of_pair c =
    let tested = c.args.self.now in
    let e = exchange_of c.args.exchange.now in
    let test = pair_keeps (has_image (task_tested tested) (image c.args.exchange.now)) (formulas_lent tested.conjuncts.items) (row_of tested.goals) in
    let d : ObjectId × ObjectId = (record { 0 = 0 }, record { 0 = 0 }) in
    passes_not_index (λ pair. test (pair_of pair)) c.pairs-pair-items.result.now c.loop-pair.pair-index d c.loop-pair-test.true
    (sym c.keeps_conjuncts_of_pair.ensures ∙ c.if-not-keeps_conjuncts_of_pair.true)
    ∙ sym (passes_map test pair_of c.pairs-pair-items.result.now) ∙ ap (list_all test) c.pairs-pair-items.ensures
    ∙ goal_covered (task_tested tested) e (row_of tested.goals) (formulas_lent tested.conjuncts.items) tested.are_conjuncts tested.covers_goal

pub returns : goal.returns
returns c =
    let tested = c.args.self.now in
    let e = exchange_of c.args.exchange.now in
    let test = pair_keeps (has_image (task_tested tested) (image c.args.exchange.now)) (formulas_lent tested.conjuncts.items) (row_of tested.goals) in
    passes_whole (λ pair. test (pair_of pair)) c.pairs-pair-items.result.now c.loop-pair.pair-index c.loop-pair-test.false c.loop-pair.invariant
    ∙ sym (passes_map test pair_of c.pairs-pair-items.result.now) ∙ ap (list_all test) c.pairs-pair-items.ensures
    ∙ goal_covered (task_tested tested) e (row_of tested.goals) (formulas_lent tested.conjuncts.items) tested.are_conjuncts tested.covers_goal
