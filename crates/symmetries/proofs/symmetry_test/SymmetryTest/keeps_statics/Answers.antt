use Rattle.std.proofs.Common.{◌∙◌, ap, sym}
use Rattle.std.specs.List.{list_all}
use Rattle.task.specs.declared.atoms.ObjectId.{ObjectId}
use Rattle.model.proofs.Tests.{passes_map, passes_more_index, passes_not_index, passes_whole}
use Rattle.symmetries_definitions.specs.Exchanges.{image_of_object}
use Rattle.symmetries.specs.Exchange.{exchange_of, image}
use Rattle.symmetries.specs.Kept.{keeps_atom}
use Rattle.symmetries.specs.ObjectPairs.{pair_of}
use Rattle.symmetries.specs.PlacesByObject.{row_of}
use Rattle.symmetries.specs.SymmetryTest.{task_tested}
use Rattle.symmetries.proofs.TestSteps.{pair_keeps, atoms_covered, statics_by_atoms}
use Rattle.symmetries.proofs.symmetry_test.SymmetryTest.keeps_statics.Goals as goal

pub loop-pair-preserved : goal.loop-pair-preserved
loop-pair-preserved c =
    let t = task_tested c.args.self.now in
    let test = pair_keeps (keeps_atom t (image c.args.exchange.now)) t.init (row_of c.args.self.now.atoms) in
    let d : ObjectId × ObjectId = (record { 0 = 0 }, record { 0 = 0 }) in
    passes_more_index (λ pair. test (pair_of pair)) c.pairs-pair-items.result.now c.loop-pair.pair-index d c.loop-pair-test.true c.loop-pair.invariant
    (sym c.keeps_atoms_of_pair.ensures ∙ c.if-not-keeps_atoms_of_pair.false)

pub returns-then-not-keeps_atoms_of_pair : goal.returns-then-not-keeps_atoms_of_pair
returns-then-not-keeps_atoms_of_pair c =
    let t = task_tested c.args.self.now in
    let e = exchange_of c.args.exchange.now in
    let test = pair_keeps (keeps_atom t (image c.args.exchange.now)) t.init (row_of c.args.self.now.atoms) in
    let d : ObjectId × ObjectId = (record { 0 = 0 }, record { 0 = 0 }) in
    passes_not_index (λ pair. test (pair_of pair)) c.pairs-pair-items.result.now c.loop-pair.pair-index d c.loop-pair-test.true
    (sym c.keeps_atoms_of_pair.ensures ∙ c.if-not-keeps_atoms_of_pair.true)
    ∙ sym (passes_map test pair_of c.pairs-pair-items.result.now) ∙ ap (list_all test) c.pairs-pair-items.ensures
    ∙ atoms_covered t e (row_of c.args.self.now.atoms) c.args.self.now.covers_atoms ∙ statics_by_atoms t (image_of_object e)

pub returns : goal.returns
returns c =
    let t = task_tested c.args.self.now in
    let e = exchange_of c.args.exchange.now in
    let test = pair_keeps (keeps_atom t (image c.args.exchange.now)) t.init (row_of c.args.self.now.atoms) in
    passes_whole (λ pair. test (pair_of pair)) c.pairs-pair-items.result.now c.loop-pair.pair-index c.loop-pair-test.false c.loop-pair.invariant
    ∙ sym (passes_map test pair_of c.pairs-pair-items.result.now) ∙ ap (list_all test) c.pairs-pair-items.ensures
    ∙ atoms_covered t e (row_of c.args.self.now.atoms) c.args.self.now.covers_atoms ∙ statics_by_atoms t (image_of_object e)
