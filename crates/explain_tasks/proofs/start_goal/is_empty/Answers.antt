use Rattle.std.proofs.Common.{◌≡◌, ◌∙◌, length, ap, arith}
use Rattle.std.specs.Prelude.{◌==◌, vec_len}
use Rattle.explain_tasks.proofs.GoalLemmas.{empty_by_parts}
use Rattle.explain_tasks.proofs.start_goal.is_empty.Goals as goal

pub returns-in-And : goal.returns-in-And
returns-in-And c =
    let count : vec_len c.in-And.parts ≡ length c.in-And.parts.items = omega (arith, c.in-And.parts.ok.0) in
    c.is_empty.ensures ∙ ap (λ n. n == 0) count ∙ empty_by_parts c.args.formula.now c.in-And.parts c.in-And.is
