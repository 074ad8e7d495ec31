use Rattle.std.proofs.Common.{◌≡◌, refl, subst, length}
use Rattle.formulas.specs.State.{instance_of}
use Rattle.grounding.specs.Ground.{task_in, atoms_in}
use Rattle.certificate.specs.Certificate.{certificate_of}
use Rattle.tables.specs.declared.several.ValuesFairness.{ValuesFairness}
use Rattle.tables.specs.declared.several.ValuesFairness.TheVariants as reported
use Rattle.tables.specs.Several.{several_of, ReportsValues}
use Rattle.model.specs.NumberedAtoms.{numbered_atoms}
use Rattle.certificate_definitions.specs.CertificateRefusals.{unfair, unfair_goal, dead_unfair, dead_unfair_goal}
use Rattle.cert_checker.proofs.OrderLemmas.{atoms_right, states_right_all, first_asked}
use Rattle.cert_checker.proofs.ReportedLemmas.{dead_instances_asked_by_tables, dead_unfair_at_goals_by_tables, dead_unfair_by_tables, earlier_asked, fair_reported_by_tables, instances_asked_there, unfair_at_goals_by_tables, unfair_by_tables, values_asked_by_tables}
use Rattle.cert_checker.proofs.checker.values.check_fairness.Goals as goal
use Rattle.cert_checker.proofs.checker.values.check_fairness.Goals.{In_ok-fairness}

-- what is reported, where the certificate's atoms have the first numbers
reports : (c : In_ok-fairness) (fairness : ValuesFairness) → c.in_ok-fairness.field-0 ≡ fairness
    → let task = task_in c.args.grounded.now in ReportsValues task (numbered_atoms task (certificate_of c.args.cert.now).atoms) (several_of c.args.functions.now) fairness
reports c fairness is =
    let task = task_in c.args.grounded.now in
    subst (λ atoms. ReportsValues task atoms (several_of c.args.functions.now) fairness) c.requires.numbered
    (subst (ReportsValues task (atoms_in c.args.grounded.now) (several_of c.args.functions.now)) is c.in_ok-fairness.ensures)

pub returns-in-Fair-clause-fair : goal.returns-in-Fair-clause-fair
returns-in-Fair-clause-fair c =
    let cert = certificate_of c.args.cert.now in
    fair_reported_by_tables (task_in c.args.grounded.now) cert c.requires.version (several_of c.args.functions.now) (length (atoms_in c.args.grounded.now)) c.requires.weights
    (reports (goal.at.returns-in-Fair-clause-fair c).In_ok-fairness reported.Fair c.in-Fair.is)

pub returns-in-Instance-clause-wrong : goal.returns-in-Instance-clause-wrong
returns-in-Instance-clause-wrong c =
    λ plan most.
    let both =
    unfair_by_tables (task_in c.args.grounded.now) (certificate_of c.args.cert.now) c.requires.version (several_of c.args.functions.now) (length (atoms_in c.args.grounded.now)) c.requires.weights
    c.in-Instance.number (instance_of c.kept_instance.result) c.kept_instance.ensures c.in-Instance.place
    (reports (goal.at.returns-in-Instance-clause-wrong c).In_ok-fairness (reported.Instance c.in-Instance.place c.in-Instance.number) c.in-Instance.is) in
    (c.in-Instance.place, both.0)

pub returns-in-Instance-clause-first : goal.returns-in-Instance-clause-first
returns-in-Instance-clause-first c =
    λ symmetric distinct allowed plan most within.
    let task = task_in c.args.grounded.now in
    let cert = certificate_of c.args.cert.now in
    let values = several_of c.args.functions.now in
    let width = length (atoms_in c.args.grounded.now) in
    let place = c.in-Instance.place in
    let report = reports (goal.at.returns-in-Instance-clause-first c).In_ok-fairness (reported.Instance place c.in-Instance.number) c.in-Instance.is in
    let both = unfair_by_tables task cert c.requires.version values width c.requires.weights c.in-Instance.number (instance_of c.kept_instance.result) c.kept_instance.ensures place report in (
      place,
      first_asked task cert unfair place plan most refl (atoms_right task cert c.requires.fluent) (states_right_all task cert distinct allowed) within symmetric
          (earlier_asked task cert c.requires.version values width c.requires.weights place report.function report.first.named report.first.earlier),
      both.1,
    )

pub returns-in-Goals-clause-wrong : goal.returns-in-Goals-clause-wrong
returns-in-Goals-clause-wrong c =
    λ plan most. (
      c.in-Goals.place,
      unfair_at_goals_by_tables (task_in c.args.grounded.now) (certificate_of c.args.cert.now) c.requires.version (several_of c.args.functions.now) (length (atoms_in c.args.grounded.now)) c.requires.weights
          c.in-Goals.place (reports (goal.at.returns-in-Goals-clause-wrong c).In_ok-fairness (reported.Goals c.in-Goals.place) c.in-Goals.is),
    )

pub returns-in-Goals-clause-first : goal.returns-in-Goals-clause-first
returns-in-Goals-clause-first c =
    λ symmetric distinct allowed plan most within.
    let task = task_in c.args.grounded.now in
    let cert = certificate_of c.args.cert.now in
    let values = several_of c.args.functions.now in
    let width = length (atoms_in c.args.grounded.now) in
    let place = c.in-Goals.place in
    let report = reports (goal.at.returns-in-Goals-clause-first c).In_ok-fairness (reported.Goals place) c.in-Goals.is in (
      place,
      unfair_at_goals_by_tables task cert c.requires.version values width c.requires.weights place report,
      first_asked task cert unfair_goal place plan most refl (atoms_right task cert c.requires.fluent) (states_right_all task cert distinct allowed) within symmetric
          (instances_asked_there task cert c.requires.version values width c.requires.weights place report.function report.first.named report.first.earlier report.instances),
    )

pub returns-in-DeadEndInstance-clause-wrong : goal.returns-in-DeadEndInstance-clause-wrong
returns-in-DeadEndInstance-clause-wrong c =
    λ plan most.
    let both =
    dead_unfair_by_tables (task_in c.args.grounded.now) (certificate_of c.args.cert.now) c.requires.version (several_of c.args.functions.now) (length (atoms_in c.args.grounded.now)) c.requires.weights
    c.in-DeadEndInstance.number (instance_of c.kept_instance-in-DeadEndInstance.result) c.kept_instance-in-DeadEndInstance.ensures
    (reports (goal.at.returns-in-DeadEndInstance-clause-wrong c).In_ok-fairness (reported.DeadEndInstance c.in-DeadEndInstance.number) c.in-DeadEndInstance.is) in
    both.0

pub returns-in-DeadEndInstance-clause-first : goal.returns-in-DeadEndInstance-clause-first
returns-in-DeadEndInstance-clause-first c =
    λ symmetric distinct allowed plan most within.
    let task = task_in c.args.grounded.now in
    let cert = certificate_of c.args.cert.now in
    let values = several_of c.args.functions.now in
    let width = length (atoms_in c.args.grounded.now) in
    let report = reports (goal.at.returns-in-DeadEndInstance-clause-first c).In_ok-fairness (reported.DeadEndInstance c.in-DeadEndInstance.number) c.in-DeadEndInstance.is in
    let both =
    dead_unfair_by_tables task cert c.requires.version values width c.requires.weights c.in-DeadEndInstance.number (instance_of c.kept_instance-in-DeadEndInstance.result)
    c.kept_instance-in-DeadEndInstance.ensures report in (
      first_asked task cert dead_unfair (length cert.values) plan most refl (atoms_right task cert c.requires.fluent) (states_right_all task cert distinct allowed) within symmetric
          (values_asked_by_tables task cert c.requires.version values width c.requires.weights report.values),
      both.1,
    )

pub returns-in-DeadEndGoals-clause-wrong : goal.returns-in-DeadEndGoals-clause-wrong
returns-in-DeadEndGoals-clause-wrong c =
    λ plan most.
    let cert = certificate_of c.args.cert.now in (
      length cert.values,
      (
        refl,
        dead_unfair_at_goals_by_tables (task_in c.args.grounded.now) cert c.requires.version (several_of c.args.functions.now) (length (atoms_in c.args.grounded.now)) c.requires.weights
            (reports (goal.at.returns-in-DeadEndGoals-clause-wrong c).In_ok-fairness reported.DeadEndGoals c.in-DeadEndGoals.is),
      ),
    )

pub returns-in-DeadEndGoals-clause-first : goal.returns-in-DeadEndGoals-clause-first
returns-in-DeadEndGoals-clause-first c =
    λ symmetric distinct allowed plan most within.
    let task = task_in c.args.grounded.now in
    let cert = certificate_of c.args.cert.now in
    let values = several_of c.args.functions.now in
    let width = length (atoms_in c.args.grounded.now) in
    let report = reports (goal.at.returns-in-DeadEndGoals-clause-first c).In_ok-fairness reported.DeadEndGoals c.in-DeadEndGoals.is in
    first_asked task cert dead_unfair_goal (length cert.values) plan most refl (atoms_right task cert c.requires.fluent) (states_right_all task cert distinct allowed) within symmetric
    (dead_instances_asked_by_tables task cert c.requires.version values width c.requires.weights report.values report.instances)
