use Rattle.std.proofs.Common.{◌∙◌, ap, [], length, nat_eq}
use Rattle.std.specs.List.{list_any}
use Rattle.std.proofs.lemmas.List.FromFn.{length-map-range_with_len}
use Rattle.grounding.proofs.ground.Ground.successor.Goals as goal

pub step_into-requires-clause-into_width : goal.step_into-requires-clause-into_width
step_into-requires-clause-into_width c =
    ap length c.in_ok-next.ensures
    ∙ length-map-range_with_len (λ number. list_any (λ n. nat_eq n number) []) 0 c.width.result
    ∙ c.width.ensures
