use Rattle.std.proofs.Common.{◌∙◌, length, refl, arith}
use Rattle.packed_state.specs.Packed.{bits_of}
use Rattle.symmetries.specs.Runs.{IsBelow}
use Rattle.symmetries.proofs.RunSteps.{decides, passes, run_below, lowest_below}
use Rattle.symmetries.proofs.runs.image_comes_before.Goals as goal
use Rattle.symmetries.proofs.runs.image_comes_before.Goals.{After-run-item}

-- the numbers of the run are below the width
below : (c : After-run-item) → IsBelow (length (bits_of c.args.state.now)) c.run-item.result
below c =
    run_below c.args.runs.now c.loop-run.run-index c.run-item.result c.loop-run-test.true c.run-item.is (bits_of c.args.state.now) (length (bits_of c.args.state.now)) refl c.requires

pub differing-differing-requires : goal.differing-differing-requires
differing-differing-requires c = below (goal.at.differing-differing-requires c).After-run-item

pub overflow_add-run : goal.overflow_add-run
overflow_add-run c =
    let inside =
    lowest_below c.run-item.result (bits_of c.args.state.now) c.differing-differing.result c.differing-differing.ensures c.differing-differing.type_inv c.if-differing-ne0.true
    (length (bits_of c.args.state.now)) (below (goal.at.overflow_add-run c).After-run-item) in
    omega (arith, inside, c.width.ensures, c.width.type_inv)

pub has-requires : goal.has-requires
has-requires c =
    lowest_below c.run-item.result (bits_of c.args.state.now) c.differing-differing.result c.differing-differing.ensures c.differing-differing.type_inv c.if-differing-ne0.true
    (length (bits_of c.args.state.now)) (below (goal.at.has-requires c).After-run-item)

pub returns-then-differing-ne0 : goal.returns-then-differing-ne0
returns-then-differing-ne0 c =
    c.has.ensures
    ∙ decides c.args.runs.now c.loop-run.run-index c.run-item.result c.loop-run-test.true c.run-item.is (bits_of c.args.state.now) c.loop-run.invariant
    c.differing-differing.result c.differing-differing.ensures c.differing-differing.type_inv c.if-differing-ne0.true

pub loop-run-preserved : goal.loop-run-preserved
loop-run-preserved c =
    passes c.args.runs.now c.loop-run.run-index c.run-item.result c.loop-run-test.true c.run-item.is (bits_of c.args.state.now) c.loop-run.invariant
    c.differing-differing.result c.differing-differing.ensures (omega (arith, c.if-differing-ne0.false))
