use Rattle.std.proofs.Common.{◌≡◌, map, true, subst, sym}
use Rattle.std.specs.Prelude.{IfErr, OnOk}
use Rattle.std.specs.List.{list_all}
use Rattle.certificate.specs.Certificate.{certificate_of}
use Rattle.grounding.specs.Ground.{task_in}
use Rattle.faults.proofs.Results.{passed_on}
use Rattle.model.specs.Task.{Task}
use Rattle.model.specs.NumberedAtoms.{numbered_atoms}
use Rattle.symmetries_definitions.specs.Orbits.{keeps_atoms}
use Rattle.symmetries.specs.Exchange.{exchange_of}
use Rattle.certificate_definitions.specs.Certificates.{Certificate, AreFairFor, AreLandmarksFair}
use Rattle.cert_checker.specs.CheckedLines.{IsFirstGrounded, IsRightGrounded, IsTrueAnyway}
use Rattle.cert_checker.specs.PackedListing.{task_at, certificate_at}
use Rattle.cert_checker.proofs.SymmetriesLemmas.{all_keep_atoms}
use Rattle.cert_checker.proofs.checker.steps.check_symmetric.Goals as goal

-- what is said of the listing's task and certificate is said of these
along : (P : Task → Certificate → Type 0) (t u : Task) (k c : Certificate) → t ≡ u → k ≡ c → P t k → P u c
along P t u k c same_task same_cert p = subst (P u) same_cert (subst (λ s. P s k) same_task p)

-- the exchanges take numbered atoms to numbered atoms
pub classes_by-requires-clause-kept : goal.classes_by-requires-clause-kept
classes_by-requires-clause-kept c =
    let g = c.args.grounded.now in
    let cert = certificate_of c.args.cert.now in
    subst (λ atoms. list_all (keeps_atoms atoms) (map exchange_of c.args.exchanges.now) ≡ true) (sym c.requires.numbered)
    (subst (λ exchanges. list_all (keeps_atoms (numbered_atoms (task_in g) cert.atoms)) exchanges ≡ true) (sym c.requires.exchanges) (all_keep_atoms (task_in g) cert c.requires.symmetric))

pub returns-in_err-evidence-clause-first : goal.returns-in_err-evidence-clause-first
returns-in_err-evidence-clause-first c =
    passed_on (IsFirstGrounded (task_in c.args.grounded.now) (certificate_of c.args.cert.now)) c.from_residual.result c.in_err-evidence.field-0.0
    c.from_residual.ensures.1 (c.in_err-evidence.ensures.first c.requires.symmetric)

pub check_packed-requires : goal.check_packed-requires
check_packed-requires c =
    let packed = c.new-packed.result in
    let there : (P : Task → Certificate → Type 0) → P (task_in c.args.grounded.now) (certificate_of c.args.cert.now) → P (task_at packed) (certificate_at packed)
    = λ P. along P (task_in c.args.grounded.now) (task_at packed) (certificate_of c.args.cert.now) (certificate_at packed) (sym c.new-packed.ensures.same.0) (sym c.new-packed.ensures.same.1) in
    record { fair = there AreFairFor c.in_ok-evidence.ensures.fair; landmarks = there AreLandmarksFair c.in_ok-evidence.ensures.landmarks }

pub returns-clause-right : goal.returns-clause-right
returns-clause-right c =
    let packed = c.new-packed.result in
    along (λ t k. OnOk c.check_packed.result (IsRightGrounded t k)) (task_at packed) (task_in c.args.grounded.now) (certificate_at packed) (certificate_of c.args.cert.now)
    c.new-packed.ensures.same.0 c.new-packed.ensures.same.1 c.check_packed.ensures.right

pub returns-clause-wrong : goal.returns-clause-wrong
returns-clause-wrong c =
    let packed = c.new-packed.result in
    along (λ t k. IfErr c.check_packed.result (IsTrueAnyway t k)) (task_at packed) (task_in c.args.grounded.now) (certificate_at packed) (certificate_of c.args.cert.now)
    c.new-packed.ensures.same.0 c.new-packed.ensures.same.1 c.check_packed.ensures.wrong

pub returns-clause-first : goal.returns-clause-first
returns-clause-first c =
    let packed = c.new-packed.result in
    along (λ t k. IfErr c.check_packed.result (IsFirstGrounded t k)) (task_at packed) (task_in c.args.grounded.now) (certificate_at packed) (certificate_of c.args.cert.now)
    c.new-packed.ensures.same.0 c.new-packed.ensures.same.1 c.check_packed.ensures.first
