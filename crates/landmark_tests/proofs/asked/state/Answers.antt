use Rattle.std.proofs.Common.{◌∙◌, [], length, ap}
use Rattle.packed_state.proofs.PackedLemmas.{length-set_of}
use Rattle.landmark_tests.proofs.asked.state.Goals as goal

pub loop-number-init : goal.loop-number-init
loop-number-init c = ap length c.in_ok-state.ensures ∙ length-set_of c.width.result [] ∙ c.width.ensures
