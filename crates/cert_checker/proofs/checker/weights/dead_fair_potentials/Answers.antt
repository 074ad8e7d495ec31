use Rattle.std.proofs.Common.{refl, subst, arith, length}
use Rattle.std.proofs.lemmas.Option.{slice_get_within}
use Rattle.formulas.specs.State.{instance_of}
use Rattle.grounding.specs.Ground.{task_in, atoms_in}
use Rattle.lower_bounds.specs.FairPotentials.{nothing}
use Rattle.potentials.specs.Potentials.{potentials_of}
use Rattle.potentials.specs.Fairness.{DetectsDead}
use Rattle.certificate.specs.Certificate.{certificate_of}
use Rattle.certificate.specs.Evidence.{potential_of}
use Rattle.lower_bounds.specs.TableFunctions.{SeveralValues}
use Rattle.certificate_definitions.specs.Certificates.{is_weight}
use Rattle.model.specs.StaticallyFalse.{kept_instances}
use Rattle.certificate_definitions.specs.CertificateRefusals.{dead_unfair, dead_unfair_goal}
use Rattle.cert_checker.specs.Weights.{HasItsWeights}
use Rattle.cert_checker.proofs.OrderLemmas.{AreFairUpTo, atoms_right, dead_instances_asked, values_asked, states_right_all, first_asked}
use Rattle.cert_checker.proofs.PackedListingLemmas.{numbered_after}
use Rattle.cert_checker.proofs.VersionLemmas.{dead_unfair_in, dead_unfair_at_goals_in, first_dead_to_lose_in, goals_fair_in, none_dead_unfair_in, none_unfair_in}
use Rattle.cert_checker.proofs.WeightsLemmas.{fair_reported, first_reported, goals_reported, instances_reported, unfair_reported}
use Rattle.cert_checker.proofs.checker.weights.dead_fair_potentials.Goals as goal
use Rattle.cert_checker.proofs.checker.weights.dead_fair_potentials.Goals.{In_ok-potentials}
use Rattle.certificate.proofs.WithinLimits.{one_weight_each, potentials_in_range}

pub at_width-requires-clause-range : goal.at_width-requires-clause-range
at_width-requires-clause-range c = potentials_in_range (length (certificate_of c.args.cert.now).atoms) (potential_of c.evidence.result.now.dead_ends) c.evidence.ensures.dead_ends

pub at_width-requires-clause-enough : goal.at_width-requires-clause-enough
at_width-requires-clause-enough c =
    let task = task_in c.args.grounded.now in
    let cert = certificate_of c.args.cert.now in
    let weighed = one_weight_each is_weight (length cert.atoms) (potential_of c.evidence.result.now.dead_ends) c.evidence.ensures.dead_ends in
    omega (arith, numbered_after task (atoms_in c.args.grounded.now) cert c.requires.fluent c.requires.numbered, c.width.ensures, weighed)

-- they have the certificate's weights
has : (c : In_ok-potentials) → let cert = certificate_of c.args.cert.now in HasItsWeights cert.dead_ends (length (atoms_in c.args.grounded.now)) (potentials_of c.in_ok-potentials.potentials)
has c =
    let cert = certificate_of c.args.cert.now in
    let p = potentials_of c.in_ok-potentials.potentials in
    subst (λ width. HasItsWeights cert.dead_ends width p) c.width.ensures
    (subst (λ (s : SeveralValues). HasItsWeights s.dead_ends c.width.result p) c.evidence.ensures.evidence c.in_ok-potentials.ensures)

-- nothing is wrong with the value
values_are_asked : (c : In_ok-potentials) → let cert = certificate_of c.args.cert.now in AreFairUpTo (task_in c.args.grounded.now) cert (length cert.values) 2
values_are_asked c =
    let task = task_in c.args.grounded.now in
    let cert = certificate_of c.args.cert.now in
    values_asked task cert (none_unfair_in task cert cert.version c.requires.version c.requires.fair.instances) (goals_fair_in task cert cert.version c.requires.version c.requires.fair.goals)

pub kept_instance-requires : goal.kept_instance-requires
kept_instance-requires c =
    let task = task_in c.args.grounded.now in
    let p = potentials_of c.in_ok-potentials.potentials in
    let first = subst (DetectsDead task (atoms_in c.args.grounded.now) p) c.in-Instance.is c.in_ok-dead_fairness.ensures in
    slice_get_within (kept_instances task) c.in-Instance.number first.instance first.named

pub returns-in-Fair-clause-dead_fair : goal.returns-in-Fair-clause-dead_fair
returns-in-Fair-clause-dead_fair c =
    let task = task_in c.args.grounded.now in
    let atoms = atoms_in c.args.grounded.now in
    let cert = certificate_of c.args.cert.now in
    let p = potentials_of c.in_ok-potentials.potentials in
    fair_reported nothing task cert cert.dead_ends atoms p c.requires.numbered (has (goal.at.returns-in-Fair-clause-dead_fair c).In_ok-potentials)
    (subst (DetectsDead task atoms p) c.in-Fair.is c.in_ok-dead_fairness.ensures)

pub returns-in-Fair-clause-weights : goal.returns-in-Fair-clause-weights
returns-in-Fair-clause-weights c = has (goal.at.returns-in-Fair-clause-weights c).In_ok-potentials

pub returns-in-Instance-clause-wrong : goal.returns-in-Instance-clause-wrong
returns-in-Instance-clause-wrong c =
    λ plan most.
    let task = task_in c.args.grounded.now in
    let atoms = atoms_in c.args.grounded.now in
    let cert = certificate_of c.args.cert.now in
    let p = potentials_of c.in_ok-potentials.potentials in
    let i = instance_of c.kept_instance.result in
    dead_unfair_in task cert cert.version c.requires.version i
    (unfair_reported nothing task cert cert.dead_ends atoms p c.requires.numbered (has (goal.at.returns-in-Instance-clause-wrong c).In_ok-potentials) c.in-Instance.number i
    (subst (DetectsDead task atoms p) c.in-Instance.is c.in_ok-dead_fairness.ensures) c.kept_instance.ensures)

pub returns-in-Instance-clause-first : goal.returns-in-Instance-clause-first
returns-in-Instance-clause-first c =
    λ symmetric distinct allowed plan most within.
    let task = task_in c.args.grounded.now in
    let atoms = atoms_in c.args.grounded.now in
    let cert = certificate_of c.args.cert.now in
    let p = potentials_of c.in_ok-potentials.potentials in (
      first_asked task cert dead_unfair (length cert.values) plan most refl (atoms_right task cert c.requires.fluent) (states_right_all task cert distinct allowed) within symmetric
          (values_are_asked (goal.at.returns-in-Instance-clause-first c).In_ok-potentials),
      first_dead_to_lose_in task cert cert.version c.requires.version (instance_of c.kept_instance.result)
          (first_reported nothing task cert cert.dead_ends atoms p c.requires.numbered (has (goal.at.returns-in-Instance-clause-first c).In_ok-potentials) c.in-Instance.number
          (instance_of c.kept_instance.result) (subst (DetectsDead task atoms p) c.in-Instance.is c.in_ok-dead_fairness.ensures) c.kept_instance.ensures),
    )

pub returns-in-Goal-clause-wrong : goal.returns-in-Goal-clause-wrong
returns-in-Goal-clause-wrong c =
    λ plan most.
    let task = task_in c.args.grounded.now in
    let atoms = atoms_in c.args.grounded.now in
    let cert = certificate_of c.args.cert.now in
    let p = potentials_of c.in_ok-potentials.potentials in (
      length cert.values,
      (
        refl,
        dead_unfair_at_goals_in task cert cert.version c.requires.version
            (goals_reported nothing task cert cert.dead_ends atoms p c.requires.numbered (has (goal.at.returns-in-Goal-clause-wrong c).In_ok-potentials)
            (subst (DetectsDead task atoms p) c.in-Goal.is c.in_ok-dead_fairness.ensures).1),
      ),
    )

pub returns-in-Goal-clause-first : goal.returns-in-Goal-clause-first
returns-in-Goal-clause-first c =
    λ symmetric distinct allowed plan most within.
    let task = task_in c.args.grounded.now in
    let atoms = atoms_in c.args.grounded.now in
    let cert = certificate_of c.args.cert.now in
    let p = potentials_of c.in_ok-potentials.potentials in
    first_asked task cert dead_unfair_goal (length cert.values) plan most refl (atoms_right task cert c.requires.fluent) (states_right_all task cert distinct allowed) within symmetric
    (dead_instances_asked task cert (values_are_asked (goal.at.returns-in-Goal-clause-first c).In_ok-potentials) (none_dead_unfair_in task cert cert.version c.requires.version
    (instances_reported nothing task cert cert.dead_ends atoms p c.requires.numbered (has (goal.at.returns-in-Goal-clause-first c).In_ok-potentials) (subst (DetectsDead task atoms p) c.in-Goal.is c.in_ok-dead_fairness.ensures).0)))
