use Rattle.std.proofs.Common.{◌≡◌, ℕ, None, refl, sym, subst}
use Rattle.std.specs.Prelude.{IfOk}
use Rattle.std.specs.Option.{option_map}
use Rattle.std.proofs.lemmas.Result.{IfErr-weaker}
use Rattle.task.specs.Task.{task_of}
use Rattle.formulas.specs.State.{plan_of}
use Rattle.certificate_reader.specs.Lines.{claim_of}
use Rattle.packed_state.specs.PooledView.{pooled_width}
use Rattle.certificate.specs.Certificate.{certificate_of, store_in}
use Rattle.model.specs.Meaning.{system_of}
use Rattle.model.specs.Claims.{ClaimHolds}
use Rattle.model.specs.Limits.{max_numbered_atoms}
use Rattle.model.specs.Grounding.{exceeded_limit}
use Rattle.certificate_definitions.specs.Certificates.{Certificate, IsClosedFor}
use Rattle.cert_checker.specs.CertChecker.{Answers, IsFirstRefusal, IsTrueRefusal}
use Rattle.cert_checker.proofs.StaysLemmas.{closed_holds}
use Rattle.cert_checker.proofs.AnswerLemmas.{closed_for, on_ok}
use Rattle.cert_checker.proofs.PackedListingLemmas.{holds_lines, lines_apart}
use Rattle.faults.proofs.Results.{passed_on}
use Rattle.cert_checker.proofs.checker.judge.Goals as goal

-- the certificate is closed, so its claim is true
pub answer-requires-clause-holds : goal.answer-requires-clause-holds
answer-requires-clause-holds c =
    let task = task_of c.args.task.now in
    let cert = certificate_of c.args.cert in
    subst (ClaimHolds (system_of task)) (sym c.claim-claim.ensures) (closed_holds task cert c.args.task.now.well_typed (closed_for task cert c.args.max_instances c.in_ok-check_cert.ensures.right))

pub returns-clause-closed : goal.returns-clause-closed
returns-clause-closed c =
    on_ok c.answer.result (closed_for (task_of c.args.task.now) (certificate_of c.args.cert) c.args.max_instances c.in_ok-check_cert.ensures.right)

pub returns-clause-answers : goal.returns-clause-answers
returns-clause-answers c =
    let plan = option_map (λ p. plan_of p.now) c.args.plan in
    subst (λ claim. IfOk c.answer.result (Answers claim plan)) c.claim-claim.ensures c.answer.ensures.answers

pub returns-clause-within : goal.returns-clause-within
returns-clause-within c = on_ok c.answer.result c.in_ok-check_cert.ensures.right.within

pub returns-clause-refused : goal.returns-clause-refused
returns-clause-refused c =
    let task = task_of c.args.task.now in
    let cert = certificate_of c.args.cert in
    let plan = option_map (λ p. plan_of p.now) c.args.plan in
    let claim = claim_of c.claim-claim.result in
    IfErr-weaker c.answer.result (λ e. (k : Certificate) (most : ℕ) → k.claim ≡ claim → IsTrueRefusal task k plan most e) (IsTrueRefusal task cert plan c.args.max_instances)
    (λ e wrong. wrong cert c.args.max_instances (sym c.claim-claim.ensures)) c.answer.ensures.wrong

pub returns-clause-first : goal.returns-clause-first
returns-clause-first c =
    let task = task_of c.args.task.now in
    let cert = certificate_of c.args.cert in
    let plan = option_map (λ p. plan_of p.now) c.args.plan in
    let claim = claim_of c.claim-claim.result in
    let right = c.in_ok-check_cert.ensures.right in
    IfErr-weaker c.answer.result
    (λ e. (k : Certificate) (most : ℕ) → k.claim ≡ claim → IsClosedFor task k → exceeded_limit most max_numbered_atoms task k.atoms ≡ None → IsFirstRefusal task k plan most e)
    (IsFirstRefusal task cert plan c.args.max_instances)
    (λ e first. first cert c.args.max_instances (sym c.claim-claim.ensures) (closed_for task cert c.args.max_instances right) right.within) c.answer.ensures.first

pub returns-in_err-check_cert-clause-refused : goal.returns-in_err-check_cert-clause-refused
returns-in_err-check_cert-clause-refused c =
    let plan = option_map (λ p. plan_of p.now) c.args.plan in
    passed_on (IsTrueRefusal (task_of c.args.task.now) (certificate_of c.args.cert) plan c.args.max_instances) c.from_residual.result c.in_err-check_cert.field-0.0
    c.from_residual.ensures.1 (c.in_err-check_cert.ensures.wrong plan)

pub returns-in_err-check_cert-clause-first : goal.returns-in_err-check_cert-clause-first
returns-in_err-check_cert-clause-first c =
    let plan = option_map (λ p. plan_of p.now) c.args.plan in
    passed_on (IsFirstRefusal (task_of c.args.task.now) (certificate_of c.args.cert) plan c.args.max_instances) c.from_residual.result c.in_err-check_cert.field-0.0
    c.from_residual.ensures.1 (c.in_err-check_cert.ensures.first plan)

-- no state is listed twice
pub check_cert-requires-clause-distinct : goal.check_cert-requires-clause-distinct
check_cert-requires-clause-distinct c =
    let cert = c.args.cert in
    let width = pooled_width (store_in cert) in
    lines_apart (certificate_of cert) width (store_in cert) (holds_lines cert width refl) (task_of c.args.task.now) c.requires.fluent
