use Rattle.std.proofs.Common.{◌∙◌, length, ap}
use Rattle.std.proofs.lemmas.List.FromFn.{length-map-range_with_len}
use Rattle.solver.proofs.stopped.Stopped.saving_by.Goals as goal

pub loop-place-init : goal.loop-place-init
loop-place-init c = (ap length c.in_ok-set.ensures ∙ length-map-range_with_len _ 0 c.width.result ∙ c.width.ensures, c.in_ok-known.ensures)
