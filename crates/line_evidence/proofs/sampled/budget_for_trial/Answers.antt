use Rattle.std.proofs.Common.{◌∙◌, [], length, ap}
use Rattle.packed_state.proofs.PackedLemmas.{length-set_of}
use Rattle.line_evidence.proofs.sampled.budget_for_trial.Goals as goal

pub loop-place-init : goal.loop-place-init
loop-place-init g c = record { state = ap length c.in_ok-state.ensures ∙ length-set_of c.width.result [] ∙ c.width.ensures }
