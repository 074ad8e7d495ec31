use Rattle.std.proofs.Common.{◌∙◌, ap, [], length, nat_eq}
use Rattle.std.specs.List.{list_any}
use Rattle.std.proofs.lemmas.List.FromFn.{length-map-range_with_len}
use Rattle.solver_tests.proofs.ground_tasks.state.Goals as goal

pub loop-number-init : goal.loop-number-init
loop-number-init c =
    ap length c.in_ok-state.ensures
    ∙ length-map-range_with_len (λ number. list_any (λ n. nat_eq n number) []) 0 c.width.result
    ∙ c.width.ensures
