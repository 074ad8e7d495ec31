use Rattle.std.proofs.Common.{arith}
use Rattle.potentials_improved.proofs.dead_ends.DeadEndsDrafts.drafted.Goals as goal

pub loop-init : goal.loop-init
loop-init c = record { width = c.requires.width; fair = c.requires.fair; no_lower = omega arith }

pub loop-preserved : goal.loop-preserved
loop-preserved c =
    let now = c.in_ok-best.ensures in
    let before = c.loop.invariant.no_lower in
    let after = now.no_lower in
    record { width = now.width; fair = now.fair; no_lower = omega arith }
