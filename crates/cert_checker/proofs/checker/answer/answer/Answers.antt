use Rattle.std.proofs.Common.{◌≡◌, ◌∙◌, ap, sym, subst, arith, refl}
use Rattle.std.specs.Prelude.{MatchOption}
use Rattle.std.specs.Option.{IsSome, option_map}
use Rattle.task.specs.Task.{task_of}
use Rattle.formulas.specs.State.{plan_of}
use Rattle.validator.specs.Verdict.{verdict_of}
use Rattle.model.specs.Runs.{cost_of_all, Solves, IsOptimal, IsVerdict}
use Rattle.certificate_definitions.specs.CertificateRefusals.{plan_dearer, IsFirst}
use Rattle.model.specs.Meaning.{system_of}
use Rattle.model.specs.Claims.{bound, ClaimHolds}
use Rattle.certificate_reader.specs.declared.line.Claim.{Claim}
use Rattle.certificate_reader.specs.Lines.{claim_of}
use Rattle.cert_checker.specs.CertChecker.{IsShown}
use Rattle.cert_checker.proofs.AnswerLemmas.{claimed_cost, optimal, unsolved}
use Rattle.cert_checker.proofs.OrderLemmas.{first_invalid, first_dearer}
use Rattle.cert_checker.proofs.checker.answer.answer.Goals as goal
use Rattle.cert_checker.proofs.checker.answer.answer.Goals.{in-Bound, in-Unsolvable}

pub returns-in_default-clause-shown : goal.returns-in_default-clause-shown
returns-in_default-clause-shown c =
    let task = task_of c.args.task.now in
    let shows = IsShown task (option_map (λ p. plan_of p.now) c.args.plan) in
    let holds : Claim → Type 0 = λ claim. ClaimHolds (system_of task) (claim_of claim) in
    elim c.match-claim.branch [
      | in-Bound w ↦ subst shows (sym w.result-is) (subst holds w.in-Bound.is c.requires.holds)
      | in-Unsolvable w ↦ subst shows (sym w.result-is) (subst holds w.in-Unsolvable.is c.requires.holds)
    ]

pub returns-in_default-2 : goal.returns-in_default-2
returns-in_default-2 c = record {
  shown = tt;
  answers = tt;
  first = λ cert most same closed within. first_invalid (task_of c.args.task.now) cert (option_map (λ p. plan_of p.now) c.args.plan) most closed within;
  wrong = λ cert most same.
      let task = task_of c.args.task.now in
      subst (λ o. MatchOption (option_map (λ p. plan_of p.now) o) ⊥ (λ p. ¬ Solves (system_of task) p)) (sym c.in-Some.is)
      (unsolved (system_of task) (plan_of c.in-Some.plan.now) c.in_ok-cost.field-0 c.in_ok-cost.ensures c.in_default-2.not-Valid);
}

pub returns-in-Bound-2-clause-first : goal.returns-in-Bound-2-clause-first
returns-in-Bound-2-clause-first c =
    λ cert most same closed within.
    let task = task_of c.args.task.now in
    let plan = plan_of c.in-Some.plan.now in
    let valid = subst (λ v. IsVerdict (system_of task) plan (verdict_of v)) c.in-Valid.is c.in_ok-cost.ensures in
    subst (λ o. IsFirst task cert (option_map (λ p. plan_of p.now) o) most plan_dearer 0) (sym c.in-Some.is) (first_dearer task cert plan most closed within valid.0)

pub returns-in-Bound-claim-clause-shown : goal.returns-in-Bound-claim-clause-shown
returns-in-Bound-claim-clause-shown c =
    let system = system_of (task_of c.args.task.now) in
    let plan = plan_of c.in-Some.plan.now in
    let valid = subst (λ v. IsVerdict system plan (verdict_of v)) c.in-Valid.is c.in_ok-cost.ensures in
    let holds = subst (λ claim. ClaimHolds system (claim_of claim)) c.in-Bound-claim.is c.requires.holds in
    subst (λ o. MatchOption (option_map (λ p. plan_of p.now) o) ⊥ (λ p. IsOptimal system p × (cost_of_all system p ≡ c.in-Valid.cost))) (sym c.in-Some.is)
    (optimal system plan c.in-Valid.cost c.in-Bound-claim.least valid holds (omega (arith, c.if-cost-least.true)))

pub returns-in-Bound-claim-clause-answers : goal.returns-in-Bound-claim-clause-answers
returns-in-Bound-claim-clause-answers c =
    let system = system_of (task_of c.args.task.now) in
    let plan = plan_of c.in-Some.plan.now in
    let valid = subst (λ v. IsVerdict system plan (verdict_of v)) c.in-Valid.is c.in_ok-cost.ensures in
    let holds = subst (λ claim. ClaimHolds system (claim_of claim)) c.in-Bound-claim.is c.requires.holds in (
      ap claim_of c.in-Bound-claim.is ∙ ap bound (claimed_cost system plan c.in-Valid.cost c.in-Bound-claim.least valid holds (omega (arith, c.if-cost-least.true))),
      subst (λ o. IsSome (option_map (λ p. plan_of p.now) o)) (sym c.in-Some.is) refl,
    )

pub returns-in-Unsolvable-claim-clause-wrong : goal.returns-in-Unsolvable-claim-clause-wrong
returns-in-Unsolvable-claim-clause-wrong c =
    λ cert most same.
    let system = system_of (task_of c.args.task.now) in
    subst (λ o. MatchOption (option_map (λ p. plan_of p.now) o) ⊥ (λ p. ¬ Solves system p)) (sym c.in-Some.is)
    (subst (λ claim. ClaimHolds system (claim_of claim)) c.in-Unsolvable-claim.is c.requires.holds (plan_of c.in-Some.plan.now))

pub returns-in-Unsolvable-claim-clause-first : goal.returns-in-Unsolvable-claim-clause-first
returns-in-Unsolvable-claim-clause-first c =
    λ cert most same closed within. first_invalid (task_of c.args.task.now) cert (option_map (λ p. plan_of p.now) c.args.plan) most closed within
