use Rattle.std.proofs.Common.{length}
use Rattle.packed_state.specs.Packed.{bits_of}
use Rattle.symmetries.specs.Runs.{pairs_in}
use Rattle.symmetries.proofs.RunSteps.{exchanged, run_below, as_wide}
use Rattle.symmetries.proofs.runs.exchange_bits.Goals as goal

pub exchange_run-requires : goal.exchange_run-requires
exchange_run-requires c =
    run_below c.args.runs.now c.loop-run.run-index c.run-item.result c.loop-run-test.true c.run-item.is (bits_of c.loop-run.state) (length (bits_of c.args.state.now)) c.loop-run.invariant.wide c.requires

pub loop-run-preserved : goal.loop-run-preserved
loop-run-preserved c =
    let new = bits_of c.exchange_run.new.state in
    record {
      left =
          exchanged c.args.runs.now c.loop-run.run-index c.run-item.result c.loop-run-test.true c.run-item.is (bits_of c.loop-run.state) (bits_of c.args.state.now) new
          c.loop-run.invariant.left c.exchange_run.ensures;
      wide = as_wide (pairs_in c.run-item.result) (bits_of c.loop-run.state) new (length (bits_of c.args.state.now)) c.exchange_run.ensures c.loop-run.invariant.wide;
    }
