use Rattle.std.proofs.Common.{◌≡◌, ◌+◌, length, arith, subst, sym}
use Rattle.std.specs.Prelude.{All, IfErr, IsTrue, OnOk}
use Rattle.std.specs.List.{list_all}
use Rattle.certificate.specs.Certificate.{certificate_of, tables_in}
use Rattle.table_rows.specs.declared.table.Table.{Table}
use Rattle.table_rows.specs.Tables.{weight_count_of}
use Rattle.grounding.specs.Ground.{task_in, atoms_in}
use Rattle.faults.proofs.Results.{passed_on}
use Rattle.model.specs.NumberedAtoms.{numbered_atoms}
use Rattle.certificate_definitions.specs.Certificates.{Certificate}
use Rattle.cert_checker.specs.CheckedLines.{IsFirstGrounded, IsRightGrounded, IsTrueAnyway}
use Rattle.cert_checker.specs.Exchanged.{is_said}
use Rattle.cert_checker.specs.FluentAtoms.{AreFluent}
use Rattle.cert_checker.proofs.PackedListingLemmas.{numbered_after}
use Rattle.cert_checker.proofs.checker.steps.check_grounded.Goals as goal

-- the certificate's atoms are among those of the ground task
pub at_width-requires : goal.at_width-requires
at_width-requires c =
    let g = c.args.grounded.now in
    omega (arith, numbered_after (task_in g) (atoms_in g) (certificate_of c.args.cert) c.requires.fluent c.requires.numbered, c.width.ensures)

-- the certificate is the same at the ground task's width
pub symmetric_exchanges-requires-clause-said : goal.symmetric_exchanges-requires-clause-said
symmetric_exchanges-requires-clause-said c =
    subst (λ (k : Certificate). IsTrue (list_all (is_said (task_in c.args.grounded.now)) k.exchanges)) (sym c.in_ok-cert.ensures.same) c.requires.said

pub symmetric_exchanges-requires-clause-fluent : goal.symmetric_exchanges-requires-clause-fluent
symmetric_exchanges-requires-clause-fluent c = subst (λ k. AreFluent (task_in c.args.grounded.now) k.atoms) (sym c.in_ok-cert.ensures.same) c.requires.fluent

pub symmetric_exchanges-requires-clause-numbered : goal.symmetric_exchanges-requires-clause-numbered
symmetric_exchanges-requires-clause-numbered c =
    let g = c.args.grounded.now in
    subst (λ k. atoms_in g ≡ numbered_atoms (task_in g) k.atoms) (sym c.in_ok-cert.ensures.same) c.requires.numbered

pub returns-in_err-exchanges-clause-wrong : goal.returns-in_err-exchanges-clause-wrong
returns-in_err-exchanges-clause-wrong c =
    let task = task_in c.args.grounded.now in
    let cert = certificate_of c.args.cert in
    let e = c.in_err-exchanges.field-0.0 in
    passed_on (IsTrueAnyway task cert) c.from_residual-in_err-exchanges.result e c.from_residual-in_err-exchanges.ensures.1
    (subst (λ k. IsTrueAnyway task k e) c.in_ok-cert.ensures.same c.in_err-exchanges.ensures.wrong)

pub returns-in_err-exchanges-clause-first : goal.returns-in_err-exchanges-clause-first
returns-in_err-exchanges-clause-first c =
    let task = task_in c.args.grounded.now in
    let cert = certificate_of c.args.cert in
    let e = c.in_err-exchanges.field-0.0 in
    passed_on (IsFirstGrounded task cert) c.from_residual-in_err-exchanges.result e c.from_residual-in_err-exchanges.ensures.1
    (subst (λ k. IsFirstGrounded task k e) c.in_ok-cert.ensures.same c.in_err-exchanges.ensures.first)

pub check_symmetric-requires-clause-counted : goal.check_symmetric-requires-clause-counted
check_symmetric-requires-clause-counted c =
    subst (λ tables. All (λ (t : Table). weight_count_of t ≡ length (certificate_of c.in_ok-cert.cert).values + 1) tables) (sym c.in_ok-cert.ensures.tables)
    (subst (λ (k : Certificate). All (λ (t : Table). weight_count_of t ≡ length k.values + 1) (tables_in c.args.cert)) (sym c.in_ok-cert.ensures.same) c.requires.counted)

pub check_symmetric-requires-clause-fluent : goal.check_symmetric-requires-clause-fluent
check_symmetric-requires-clause-fluent c = subst (λ k. AreFluent (task_in c.args.grounded.now) k.atoms) (sym c.in_ok-cert.ensures.same) c.requires.fluent

pub check_symmetric-requires-clause-numbered : goal.check_symmetric-requires-clause-numbered
check_symmetric-requires-clause-numbered c =
    let g = c.args.grounded.now in
    subst (λ k. atoms_in g ≡ numbered_atoms (task_in g) k.atoms) (sym c.in_ok-cert.ensures.same) c.requires.numbered

pub returns-clause-right : goal.returns-clause-right
returns-clause-right c = subst (λ k. OnOk c.check_symmetric.result (IsRightGrounded (task_in c.args.grounded.now) k)) c.in_ok-cert.ensures.same c.check_symmetric.ensures.right

pub returns-clause-wrong : goal.returns-clause-wrong
returns-clause-wrong c = subst (λ k. IfErr c.check_symmetric.result (IsTrueAnyway (task_in c.args.grounded.now) k)) c.in_ok-cert.ensures.same c.check_symmetric.ensures.wrong

pub returns-clause-first : goal.returns-clause-first
returns-clause-first c = subst (λ k. IfErr c.check_symmetric.result (IsFirstGrounded (task_in c.args.grounded.now) k)) c.in_ok-cert.ensures.same c.check_symmetric.ensures.first
