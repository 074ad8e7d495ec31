use Rattle.std.proofs.Common.{◌∙◌, not, ap, sym}
use Rattle.std.specs.List.{list_all}
use Rattle.task.specs.declared.atoms.ObjectId.{ObjectId}
use Rattle.model.proofs.Tests.{passes_map, passes_more_index, passes_not_index, passes_whole}
use Rattle.symmetries_definitions.specs.NamedObjects.{named_in_actions}
use Rattle.symmetries.specs.Exchange.{exchange_of}
use Rattle.symmetries.specs.ObjectPairs.{pair_of}
use Rattle.symmetries.specs.SymmetryTest.{task_tested}
use Rattle.symmetries.proofs.TestSteps.{spares, named_spared}
use Rattle.symmetries.proofs.symmetry_test.SymmetryTest.keeps_actions.Goals as goal

pub loop-pair-preserved : goal.loop-pair-preserved
loop-pair-preserved c =
    let test = spares (named_in_actions (task_tested c.args.self.now)) in
    let d : ObjectId × ObjectId = (record { 0 = 0 }, record { 0 = 0 }) in
    passes_more_index (λ pair. test (pair_of pair)) c.pairs-pair-items.result.now c.loop-pair.pair-index d c.loop-pair-test.true c.loop-pair.invariant
    (ap not (sym c.names.ensures ∙ c.if-names.false))

pub returns-then-names : goal.returns-then-names
returns-then-names c =
    let test = spares (named_in_actions (task_tested c.args.self.now)) in
    let d : ObjectId × ObjectId = (record { 0 = 0 }, record { 0 = 0 }) in
    passes_not_index (λ pair. test (pair_of pair)) c.pairs-pair-items.result.now c.loop-pair.pair-index d c.loop-pair-test.true
    (ap not (sym c.names.ensures ∙ c.if-names.true))
    ∙ sym (passes_map test pair_of c.pairs-pair-items.result.now) ∙ ap (list_all test) c.pairs-pair-items.ensures
    ∙ named_spared (named_in_actions (task_tested c.args.self.now)) (exchange_of c.args.exchange.now) c.args.exchange.now.different

pub returns : goal.returns
returns c =
    let test = spares (named_in_actions (task_tested c.args.self.now)) in
    passes_whole (λ pair. test (pair_of pair)) c.pairs-pair-items.result.now c.loop-pair.pair-index c.loop-pair-test.false c.loop-pair.invariant
    ∙ sym (passes_map test pair_of c.pairs-pair-items.result.now) ∙ ap (list_all test) c.pairs-pair-items.ensures
    ∙ named_spared (named_in_actions (task_tested c.args.self.now)) (exchange_of c.args.exchange.now) c.args.exchange.now.different
