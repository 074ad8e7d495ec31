use Rattle.std.proofs.Common.{refl, subst, arith, length}
use Rattle.std.proofs.lemmas.Option.{slice_get_within}
use Rattle.formulas.specs.State.{instance_of}
use Rattle.grounding.specs.Ground.{task_in, atoms_in}
use Rattle.lower_bounds.specs.PotentialFunctions.{PotentialFunction}
use Rattle.model.specs.Meaning.{cost_of}
use Rattle.potentials.specs.Potentials.{potentials_of}
use Rattle.potentials.specs.Fairness.{Reports}
use Rattle.certificate.specs.Certificate.{certificate_of}
use Rattle.certificate.specs.Evidence.{potential_of}
use Rattle.model.specs.StaticallyFalse.{kept_instances}
use Rattle.certificate_definitions.specs.Certificates as certificates
use Rattle.certificate_definitions.specs.Certificates.{is_weight}
use Rattle.certificate_definitions.specs.CertificateRefusals.{unfair, unfair_goal, IsUnfairAtGoalsIn}
use Rattle.lower_bounds.specs.FairPotentials.{IsFairAtGoals}
use Rattle.cert_checker.specs.Weights.{HasItsWeights}
use Rattle.cert_checker.proofs.OrderLemmas.{atoms_right, instances_asked, none_asked, states_right_all, first_asked}
use Rattle.cert_checker.proofs.PackedListingLemmas.{numbered_after}
use Rattle.cert_checker.proofs.VersionLemmas.{first_to_lose_in, none_unfair_in, unfair_in, unfair_at_goals_in}
use Rattle.cert_checker.proofs.WeightsLemmas.{fair_reported, first_reported, first_value, first_within, goals_reported, instances_reported, unfair_reported}
use Rattle.cert_checker.proofs.checker.weights.fair_potentials.Goals as goal
use Rattle.cert_checker.proofs.checker.weights.fair_potentials.Goals.{In_ok-potentials}
use Rattle.certificate.proofs.WithinLimits.{one_weight_each, potentials_in_range}

pub at_width-requires-clause-range : goal.at_width-requires-clause-range
at_width-requires-clause-range c =
    let cert = certificate_of c.args.cert.now in
    let first = c.index.result.now in
    potentials_in_range (length cert.atoms) (potential_of first)
    (first_within cert.version (length cert.atoms) c.evidence.result.now.values.items first c.evidence.ensures.value_count c.evidence.ensures.values c.index.ensures)

pub at_width-requires-clause-enough : goal.at_width-requires-clause-enough
at_width-requires-clause-enough c =
    let task = task_in c.args.grounded.now in
    let cert = certificate_of c.args.cert.now in
    let first = c.index.result.now in
    let weighed = one_weight_each is_weight (length cert.atoms) (potential_of first)
    (first_within cert.version (length cert.atoms) c.evidence.result.now.values.items first c.evidence.ensures.value_count c.evidence.ensures.values c.index.ensures) in
    omega (arith, numbered_after task (atoms_in c.args.grounded.now) cert c.requires.fluent c.requires.numbered, c.width.ensures, weighed)

-- they have the certificate's weights
has : (c : In_ok-potentials) → let cert = certificate_of c.args.cert.now in HasItsWeights (certificates.potentials_of cert) (length (atoms_in c.args.grounded.now)) (potentials_of c.in_ok-potentials.potentials)
has c =
    let cert = certificate_of c.args.cert.now in
    let p = potentials_of c.in_ok-potentials.potentials in
    let said_is = first_value cert c.evidence.result.now c.index.result.now c.evidence.ensures.value_count c.evidence.ensures.evidence c.index.ensures in
    subst (λ width. HasItsWeights (certificates.potentials_of cert) width p) c.width.ensures
    (subst (λ (said : PotentialFunction). HasItsWeights said c.width.result p) said_is c.in_ok-potentials.ensures)

pub kept_instance-requires : goal.kept_instance-requires
kept_instance-requires c =
    let task = task_in c.args.grounded.now in
    let p = potentials_of c.in_ok-potentials.potentials in
    let first = subst (Reports task (atoms_in c.args.grounded.now) p) c.in-Instance.is c.in_ok-fair.ensures in
    slice_get_within (kept_instances task) c.in-Instance.number first.instance first.named

pub returns-in-Fair-clause-fair : goal.returns-in-Fair-clause-fair
returns-in-Fair-clause-fair c =
    let task = task_in c.args.grounded.now in
    let atoms = atoms_in c.args.grounded.now in
    let cert = certificate_of c.args.cert.now in
    let p = potentials_of c.in_ok-potentials.potentials in
    fair_reported (cost_of task) task cert (certificates.potentials_of cert) atoms p c.requires.numbered (has (goal.at.returns-in-Fair-clause-fair c).In_ok-potentials)
    (subst (Reports task atoms p) c.in-Fair.is c.in_ok-fair.ensures)

pub returns-in-Fair-clause-weights : goal.returns-in-Fair-clause-weights
returns-in-Fair-clause-weights c = has (goal.at.returns-in-Fair-clause-weights c).In_ok-potentials

pub returns-in-Instance-clause-wrong : goal.returns-in-Instance-clause-wrong
returns-in-Instance-clause-wrong c =
    λ plan most.
    let task = task_in c.args.grounded.now in
    let atoms = atoms_in c.args.grounded.now in
    let cert = certificate_of c.args.cert.now in
    let p = potentials_of c.in_ok-potentials.potentials in
    let i = instance_of c.kept_instance.result in (
      0,
      unfair_in task cert cert.version c.requires.version i
          (unfair_reported (cost_of task) task cert (certificates.potentials_of cert) atoms p c.requires.numbered (has (goal.at.returns-in-Instance-clause-wrong c).In_ok-potentials) c.in-Instance.number i
          (subst (Reports task atoms p) c.in-Instance.is c.in_ok-fair.ensures) c.kept_instance.ensures),
    )

pub returns-in-Instance-clause-first : goal.returns-in-Instance-clause-first
returns-in-Instance-clause-first c =
    λ symmetric distinct allowed plan most within.
    let task = task_in c.args.grounded.now in
    let atoms = atoms_in c.args.grounded.now in
    let cert = certificate_of c.args.cert.now in
    let p = potentials_of c.in_ok-potentials.potentials in (
      0,
      first_asked task cert unfair 0 plan most refl (atoms_right task cert c.requires.fluent) (states_right_all task cert distinct allowed) within symmetric (none_asked task cert),
      first_to_lose_in task cert cert.version c.requires.version (instance_of c.kept_instance.result)
          (first_reported (cost_of task) task cert (certificates.potentials_of cert) atoms p c.requires.numbered (has (goal.at.returns-in-Instance-clause-first c).In_ok-potentials) c.in-Instance.number
          (instance_of c.kept_instance.result) (subst (Reports task atoms p) c.in-Instance.is c.in_ok-fair.ensures) c.kept_instance.ensures),
    )

-- where they are not fair at goals, the certificate's first value is not
unfair_at_goals : (c : In_ok-potentials) → (¬ IsFairAtGoals (task_in c.args.grounded.now) (atoms_in c.args.grounded.now) (potentials_of c.in_ok-potentials.potentials))
    → let cert = certificate_of c.args.cert.now in IsUnfairAtGoalsIn cert.version (task_in c.args.grounded.now) cert 0
unfair_at_goals c unfair_there =
    let task = task_in c.args.grounded.now in
    let cert = certificate_of c.args.cert.now in
    unfair_at_goals_in task cert cert.version c.requires.version
    (goals_reported (cost_of task) task cert (certificates.potentials_of cert) (atoms_in c.args.grounded.now) (potentials_of c.in_ok-potentials.potentials) c.requires.numbered (has c) unfair_there)

pub returns-in-Goal-clause-wrong : goal.returns-in-Goal-clause-wrong
returns-in-Goal-clause-wrong c =
    λ plan most.
    let task = task_in c.args.grounded.now in
    let atoms = atoms_in c.args.grounded.now in
    let cert = certificate_of c.args.cert.now in
    let p = potentials_of c.in_ok-potentials.potentials in
    (0, unfair_at_goals (goal.at.returns-in-Goal-clause-wrong c).In_ok-potentials (subst (Reports task atoms p) c.in-Goal.is c.in_ok-fair.ensures).1)

pub returns-in-Goal-clause-first : goal.returns-in-Goal-clause-first
returns-in-Goal-clause-first c =
    λ symmetric distinct allowed plan most within.
    let task = task_in c.args.grounded.now in
    let atoms = atoms_in c.args.grounded.now in
    let cert = certificate_of c.args.cert.now in
    let p = potentials_of c.in_ok-potentials.potentials in
    let here = (goal.at.returns-in-Goal-clause-first c).In_ok-potentials in
    let report = subst (Reports task atoms p) c.in-Goal.is c.in_ok-fair.ensures in (
      0,
      unfair_at_goals here report.1,
      first_asked task cert unfair_goal 0 plan most refl (atoms_right task cert c.requires.fluent) (states_right_all task cert distinct allowed) within symmetric
          (instances_asked task cert 0 (none_asked task cert)
          (none_unfair_in task cert cert.version c.requires.version (instances_reported (cost_of task) task cert (certificates.potentials_of cert) atoms p c.requires.numbered (has here) report.0) 0)),
    )
