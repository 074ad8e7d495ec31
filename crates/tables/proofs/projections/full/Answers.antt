use Rattle.std.proofs.Common.{◌∙◌, [], length, ap, arith}
use Rattle.packed_state.proofs.PackedLemmas.{length-set_of}
use Rattle.tables.proofs.projections.full.Goals as goal

pub loop-number-init : goal.loop-number-init
loop-number-init c = record { width = ap length c.in_ok-set.ensures ∙ length-set_of c.args.width []; all = λ k below. absurd (omega (arith, below)) }
