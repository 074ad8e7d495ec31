use Rattle.std.proofs.Common.{refl, sym, subst, List, arith}
use Rattle.std.specs.List.{AllZip}
use Rattle.grounding.specs.Ground.{task_in}
use Rattle.model.specs.Task.{Instance}
use Rattle.model.specs.Grounding.{NamesKept}
use Rattle.search_spaces.proofs.PlanLemmas.{plan_length}
use Rattle.search_spaces.proofs.plans.named_plan.Goals as goal

pub unreachable-requires : goal.unreachable-requires
unreachable-requires c =
    let long = plan_length (task_in c.args.ground.now) c.args.numbers.now c.in_ok-instances_of.field-0.items c.in_ok-instances_of.ensures in
    omega (arith, long, c.requires.few, c.in-None.ensures.too_long.0 refl)

pub returns : goal.returns
returns c = subst (λ (plan : List Instance). AllZip (NamesKept (task_in c.args.ground.now)) c.args.numbers.now plan) (sym c.in-Some.ensures.steps) c.in_ok-instances_of.ensures
