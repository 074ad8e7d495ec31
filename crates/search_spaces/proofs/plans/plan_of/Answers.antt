use Rattle.std.proofs.Common.{Result, Ok, Err}
use Rattle.std.specs.Prelude.{IfOk}
use Rattle.std.specs.List.{AllZip}
use Rattle.grounding.specs.Ground.{task_in, atoms_in}
use Rattle.formulas.specs.State.{plan_of}
use Rattle.model.specs.Grounding.{NamesKept}
use Rattle.search_spaces.proofs.PlanLemmas.{plan_named, plan_carried_out}
use Rattle.search_spaces.proofs.plans.plan_of.Goals as goal

-- what is so of each is so of whatever comes
so_of : {X E : Type 0} {P Q : X → Type 0} (result : Result X E) → ((x : X) → P x → Q x) → IfOk result P → IfOk result Q
so_of (Ok x) each is = each x is
so_of (Err e) each is = tt

pub named_plan-requires-clause-named : goal.named_plan-requires-clause-named
named_plan-requires-clause-named c =
    let g = c.args.ground.now in
    plan_named (task_in g) (atoms_in g) c.requires.atoms c.args.numbers.now c.requires.solves

pub returns : goal.returns
returns c =
    let g = c.args.ground.now in
    let numbers = c.args.numbers.now in
    so_of {P = λ plan. AllZip (NamesKept (task_in g)) numbers (plan_of plan)} c.named_plan.result (λ plan. plan_carried_out (task_in g) (atoms_in g) c.requires.atoms numbers (plan_of plan)) c.named_plan.ensures
