use Rattle.std.proofs.Common.{◌∙◌, ℕ, Bool, nat_eq, ap, sym}
use Rattle.std.specs.List.{list_all}
use Rattle.std.specs.Option.{option_eq}
use Rattle.task.specs.declared.atoms.ObjectId.{ObjectId}
use Rattle.model.proofs.Tests.{passes_map, passes_more_index, passes_not_index, passes_whole}
use Rattle.symmetries_definitions.specs.Symmetries.{declared_type}
use Rattle.symmetries.specs.ObjectPairs.{pair_of}
use Rattle.symmetries.specs.SymmetryTest.{task_tested}
use Rattle.symmetries.proofs.symmetry_test.SymmetryTest.keeps_types.Goals as goal

pub loop-pair-preserved : goal.loop-pair-preserved
loop-pair-preserved c =
    let test : ℕ × ℕ → Bool = λ pair. option_eq nat_eq (declared_type (task_tested c.args.self.now) pair.0) (declared_type (task_tested c.args.self.now) pair.1) in
    let d : ObjectId × ObjectId = (record { 0 = 0 }, record { 0 = 0 }) in
    passes_more_index (λ pair. test (pair_of pair)) c.pairs-pair-items.result.now c.loop-pair.pair-index d c.loop-pair-test.true c.loop-pair.invariant
    (sym c.have_one_type.ensures ∙ c.if-not-have_one_type.false)

pub returns-then-not-have_one_type : goal.returns-then-not-have_one_type
returns-then-not-have_one_type c =
    let test : ℕ × ℕ → Bool = λ pair. option_eq nat_eq (declared_type (task_tested c.args.self.now) pair.0) (declared_type (task_tested c.args.self.now) pair.1) in
    let d : ObjectId × ObjectId = (record { 0 = 0 }, record { 0 = 0 }) in
    passes_not_index (λ pair. test (pair_of pair)) c.pairs-pair-items.result.now c.loop-pair.pair-index d c.loop-pair-test.true
    (sym c.have_one_type.ensures ∙ c.if-not-have_one_type.true)
    ∙ sym (passes_map test pair_of c.pairs-pair-items.result.now) ∙ ap (list_all test) c.pairs-pair-items.ensures

pub returns : goal.returns
returns c =
    let test : ℕ × ℕ → Bool = λ pair. option_eq nat_eq (declared_type (task_tested c.args.self.now) pair.0) (declared_type (task_tested c.args.self.now) pair.1) in
    passes_whole (λ pair. test (pair_of pair)) c.pairs-pair-items.result.now c.loop-pair.pair-index c.loop-pair-test.false c.loop-pair.invariant
    ∙ sym (passes_map test pair_of c.pairs-pair-items.result.now) ∙ ap (list_all test) c.pairs-pair-items.ensures
