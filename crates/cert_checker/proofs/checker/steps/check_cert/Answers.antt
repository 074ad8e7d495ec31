use Rattle.std.proofs.Common.{◌≡◌, List, Option, subst, sym}
use Rattle.std.specs.Prelude.{IfErr, IsTrue, OnOk}
use Rattle.std.specs.List.{list_all}
use Rattle.cert_checker.specs.Exchanged.{is_said}
use Rattle.std.proofs.lemmas.Result.{IfErr-weaker, on_ok_weaker}
use Rattle.task.specs.Task.{task_of}
use Rattle.certificate.specs.Certificate.{certificate_of}
use Rattle.grounding.specs.Ground.{atoms_in}
use Rattle.model.specs.Task.{Instance}
use Rattle.model.specs.NumberedAtoms.{numbered_atoms}
use Rattle.cert_checker.specs.CertChecker.{IsFirstRefusal, IsTrueRefusal}
use Rattle.cert_checker.specs.CheckedLines.{IsFirstGrounded, IsRightGrounded, IsTrueAnyway}
use Rattle.cert_checker.specs.FluentAtoms.{AreFluent}
use Rattle.cert_checker.proofs.checker.steps.check_cert.Goals as goal

-- the ground task is that of the task
pub check_grounded-requires-clause-fluent : goal.check_grounded-requires-clause-fluent
check_grounded-requires-clause-fluent c = subst (λ t. AreFluent t (certificate_of c.args.cert).atoms) (sym c.in_ok-grounded.ensures.right.task) c.requires.atoms

pub check_grounded-requires-clause-said : goal.check_grounded-requires-clause-said
check_grounded-requires-clause-said c = subst (λ t. IsTrue (list_all (is_said t) (certificate_of c.args.cert).exchanges)) (sym c.in_ok-grounded.ensures.right.task) c.requires.said

pub check_grounded-requires-clause-numbered : goal.check_grounded-requires-clause-numbered
check_grounded-requires-clause-numbered c =
    subst (λ t. atoms_in c.in_ok-grounded.grounded ≡ numbered_atoms t (certificate_of c.args.cert).atoms) (sym c.in_ok-grounded.ensures.right.task) c.in_ok-grounded.ensures.right.atoms

pub returns-clause-right : goal.returns-clause-right
returns-clause-right c =
    let cert = certificate_of c.args.cert in
    on_ok_weaker c.check_grounded.result (λ right. right c.requires.distinct c.requires.allowed c.args.max_instances c.in_ok-grounded.ensures.right.within)
    (subst (λ t. OnOk c.check_grounded.result (IsRightGrounded t cert)) c.in_ok-grounded.ensures.right.task c.check_grounded.ensures.right)

pub returns-clause-wrong : goal.returns-clause-wrong
returns-clause-wrong c =
    let task = task_of c.args.task.now in
    let cert = certificate_of c.args.cert in
    let most = c.args.max_instances in
    IfErr-weaker c.check_grounded.result (IsTrueAnyway task cert) (λ e. (plan : Option (List Instance)) → IsTrueRefusal task cert plan most e) (λ e wrong plan. wrong plan most)
    (subst (λ t. IfErr c.check_grounded.result (IsTrueAnyway t cert)) c.in_ok-grounded.ensures.right.task c.check_grounded.ensures.wrong)

pub returns-clause-first : goal.returns-clause-first
returns-clause-first c =
    let task = task_of c.args.task.now in
    let cert = certificate_of c.args.cert in
    let most = c.args.max_instances in
    IfErr-weaker c.check_grounded.result (IsFirstGrounded task cert) (λ e. (plan : Option (List Instance)) → IsFirstRefusal task cert plan most e)
    (λ e first plan. first c.requires.distinct c.requires.allowed plan most c.in_ok-grounded.ensures.right.within)
    (subst (λ t. IfErr c.check_grounded.result (IsFirstGrounded t cert)) c.in_ok-grounded.ensures.right.task c.check_grounded.ensures.first)
