use Rattle.std.proofs.Common.{◌≡◌, ◌∙◌, Option, Some, sym, ap, subst, length, List, [], ℕ, arith}
use Rattle.std.specs.Prelude.{IfSome, IsTrue}
use Rattle.formulas.specs.State.{plan_of}
use Rattle.certificate.specs.Certificate.{certificate_of}
use Rattle.certificate.specs.declared.cert.Cert.{Cert}
use Rattle.certificate.specs.Evidence.{evidence_of, is_evidence}
use Rattle.certificate_definitions.specs.Certificates.{four}
use Rattle.grounding.specs.declared.ground.Ground.{Ground}
use Rattle.grounding.specs.Ground.{task_in, atoms_in}
use Rattle.landmark_zones.specs.Landmarks.{landmarks_of}
use Rattle.model.specs.Claims.{bound, none}
use Rattle.model.specs.Runs.{Solves}
use Rattle.model.specs.Meaning as meaning
use Rattle.model.specs.NumberedAtoms.{numbered_atoms}
use Rattle.model.specs.Grounding.{ground_system}
use Rattle.search_spaces.specs.Plans.{IsCarriedOut}
use Rattle.search_spaces.specs.SearchSpace.{ground_in, system_of}
use Rattle.search_spaces.specs.declared.ground_listing.GroundListing.{GroundListing}
use Rattle.search_spaces.proofs.TaskLemmas.{task_costs_at_least, task_unsolvable}
use Rattle.search.specs.declared.best.Outcome.{Outcome}
use Rattle.search.specs.declared.best.Outcome.TheVariants.{Found, Exhausted, States}
use Rattle.search.specs.declared.under_way.Stop.TheVariants.{Ended}
use Rattle.solver.specs.Asked.{IsAsked}
use Rattle.solver.specs.Solver.{IsUpTo}
use Rattle.solver.specs.Versions.{number_of}
use Rattle.solver.proofs.AnswerLemmas.{all_instances_of_plan, most_of_limit, plan_optimal, more_of_task}
use Rattle.solver.proofs.AskedAnswers as asked
use Rattle.solver.proofs.AskedAnswers.{IsMade}
use Rattle.solver.proofs.asked.answer_of_outcome.Goals as goal
use Rattle.solver.proofs.asked.answer_of_outcome.Goals.{In-Found, In-Exhausted, In-States}

-- what is known of a search that found a plan, that found all, and that came to the limit
found : (c : In-Found) → IsAsked c.args.setting.space (evidence_of c.args.evidence) c.args.setting.limits (record { stop = Ended (Found c.in-Found.steps c.in-Found.cost c.in-Found.states); marked = c.args.marked })
found c = subst (λ (o : Outcome GroundListing). IsAsked c.args.setting.space (evidence_of c.args.evidence) c.args.setting.limits (record { stop = Ended o; marked = c.args.marked })) c.in-Found.is c.requires.asked

exhausted : (c : In-Exhausted) → IsAsked c.args.setting.space (evidence_of c.args.evidence) c.args.setting.limits (record { stop = Ended (Exhausted c.in-Exhausted.states); marked = c.args.marked })
exhausted c = subst (λ (o : Outcome GroundListing). IsAsked c.args.setting.space (evidence_of c.args.evidence) c.args.setting.limits (record { stop = Ended o; marked = c.args.marked })) c.in-Exhausted.is c.requires.asked

limited : (c : In-States) → IsAsked c.args.setting.space (evidence_of c.args.evidence) c.args.setting.limits (record { stop = Ended (States c.in-States.bound c.in-States.states); marked = c.args.marked })
limited c = subst (λ (o : Outcome GroundListing). IsAsked c.args.setting.space (evidence_of c.args.evidence) c.args.setting.limits (record { stop = Ended o; marked = c.args.marked })) c.in-States.is c.requires.asked

-- ---- a plan

pub plan_of-requires-clause-atoms : goal.plan_of-requires-clause-atoms
plan_of-requires-clause-atoms c = subst (λ (g : Ground). atoms_in g ≡ numbered_atoms (task_in g) []) (sym c.ground.ensures) c.requires.space.atoms

pub plan_of-requires-clause-solves : goal.plan_of-requires-clause-solves
plan_of-requires-clause-solves c =
    let reported = (found (goal.at.plan_of-requires-clause-solves c).In-Found).stop.0 in
    subst (λ (g : Ground). Solves (ground_system (task_in g) (atoms_in g)) c.deref.result.now) (sym c.ground.ensures) (subst (Solves (system_of c.args.setting.space)) (sym c.deref.ensures.value) reported.0.0)

pub plan_of-requires-clause-few : goal.plan_of-requires-clause-few
plan_of-requires-clause-few c =
    let reported = (found (goal.at.plan_of-requires-clause-few c).In-Found).stop.0 in
    omega (arith, ap length c.deref.ensures.value, reported.3, most_of_limit c.args.setting.limits.states c.args.setting.limits.states_within)

pub asked_cert-requires-clause-few : goal.asked_cert-requires-clause-few
asked_cert-requires-clause-few c = asked.few_atoms c.args.setting.space c.requires.space c.args.setting.limits (evidence_of c.args.evidence) (Ended (Found c.in-Found.steps c.in-Found.cost c.in-Found.states)) c.args.marked (found (goal.at.asked_cert-requires-clause-few c).In-Found)

pub asked_cert-requires-clause-lines : goal.asked_cert-requires-clause-lines
asked_cert-requires-clause-lines c =
    let is = found (goal.at.asked_cert-requires-clause-lines c).In-Found in
    asked.lines c.args.setting.space c.requires.space c.args.setting.limits (evidence_of c.args.evidence) (Ended (Found c.in-Found.steps c.in-Found.cost c.in-Found.states)) c.args.marked is (bound c.in-Found.cost) is.stop.0.2

pub returns-in-Some : goal.returns-in-Some
returns-in-Some c =
    let at = goal.at.returns-in-Some c in
    let space = c.args.setting.space in
    let known = ground_in space in
    let task = task_in known in
    let atoms = atoms_in known in
    let s = evidence_of c.args.evidence in
    let limits = c.args.setting.limits in
    let cost = c.in-Found.cost in
    let numbers = c.in-Found.steps.items in
    let plan = plan_of c.in_ok-steps-in-Found.steps in
    let is = found at.In-Found in
    let where_to = Ended (Found c.in-Found.steps cost c.in-Found.states) in
    let reported = is.stop.0 in
    let there = c.ground.result.now in
    let carried =
    subst (λ (g : Ground). IsCarriedOut (ground_system (task_in g) (atoms_in g)) (meaning.system_of (task_in g)) numbers plan) c.ground.ensures
    (subst (λ (ns : List ℕ). IsCarriedOut (ground_system (task_in there) (atoms_in there)) (meaning.system_of (task_in there)) ns plan) c.deref.ensures.value c.in_ok-steps-in-Found.ensures) in
    let optimal = plan_optimal task atoms c.requires.space.atoms numbers plan carried reported.0 in
    let cert = c.in-Some.cert in
    let certificate = certificate_of cert in
    let made = subst (λ (o : Option Cert). IfSome o (IsMade space s (bound cost) c.args.marked c.in-Found.states)) c.in-Some.is c.in_ok-cert-in-Found.ensures.certificate in
    let evidence = subst (λ (o : Option Cert). IfSome o (λ (_ : Cert). IsTrue (is_evidence four (length atoms) s (landmarks_of c.args.marked.landmarks)))) c.in-Some.is c.in_ok-cert-in-Found.ensures.evidence in
    let version : IsUpTo (number_of limits.version) certificate = subst (IsUpTo (number_of limits.version)) (sym made) c.requires.version in (
      (
        optimal,
        carried.cost ∙ reported.1,
        all_instances_of_plan task plan optimal.0,
        asked.shown_by space c.requires.space limits s where_to c.args.marked is (bound cost) reported.2 c.requires.guidance certificate made evidence cert.within_limits,
        asked.settled_or_high space c.requires.space limits s where_to c.args.marked is (bound cost) reported.2 c.requires.guidance certificate made evidence,
        asked.expanded_within space c.requires.space limits s where_to c.args.marked is (bound cost) reported.2 c.requires.guidance certificate made evidence cost reported.4,
        c.requires.ground.within,
      ),
      version,
    )

-- ---- no plan

pub asked_cert-requires-in-Exhausted-clause-few : goal.asked_cert-requires-in-Exhausted-clause-few
asked_cert-requires-in-Exhausted-clause-few c = asked.few_atoms c.args.setting.space c.requires.space c.args.setting.limits (evidence_of c.args.evidence) (Ended (Exhausted c.in-Exhausted.states)) c.args.marked (exhausted (goal.at.asked_cert-requires-in-Exhausted-clause-few c).In-Exhausted)

pub asked_cert-requires-in-Exhausted-clause-lines : goal.asked_cert-requires-in-Exhausted-clause-lines
asked_cert-requires-in-Exhausted-clause-lines c =
    let is = exhausted (goal.at.asked_cert-requires-in-Exhausted-clause-lines c).In-Exhausted in
    asked.lines c.args.setting.space c.requires.space c.args.setting.limits (evidence_of c.args.evidence) (Ended (Exhausted c.in-Exhausted.states)) c.args.marked is (none) is.stop.0.1

pub returns-in-Some-2 : goal.returns-in-Some-2
returns-in-Some-2 c =
    let at = goal.at.returns-in-Some-2 c in
    let space = c.args.setting.space in
    let known = ground_in space in
    let s = evidence_of c.args.evidence in
    let limits = c.args.setting.limits in
    let is = exhausted at.In-Exhausted in
    let where_to = Ended (Exhausted c.in-Exhausted.states) in
    let cert = c.in-Some-2.cert in
    let certificate = certificate_of cert in
    let made = subst (λ (o : Option Cert). IfSome o (IsMade space s none c.args.marked c.in-Exhausted.states)) c.in-Some-2.is c.in_ok-cert-in-Exhausted.ensures.certificate in
    let evidence = subst (λ (o : Option Cert). IfSome o (λ (_ : Cert). IsTrue (is_evidence four (length (atoms_in known)) s (landmarks_of c.args.marked.landmarks)))) c.in-Some-2.is c.in_ok-cert-in-Exhausted.ensures.evidence in
    let version : IsUpTo (number_of limits.version) certificate = subst (IsUpTo (number_of limits.version)) (sym made) c.requires.version in (
      (
        task_unsolvable (task_in known) (atoms_in known) c.requires.space.atoms is.stop.0.0,
        asked.shown_by space c.requires.space limits s where_to c.args.marked is none is.stop.0.1 c.requires.guidance certificate made evidence cert.within_limits,
        asked.settled_or_high space c.requires.space limits s where_to c.args.marked is none is.stop.0.1 c.requires.guidance certificate made evidence,
        c.requires.ground.within,
      ),
      version,
    )

-- ---- the limit of states

pub asked_cert-requires-in-States-clause-few : goal.asked_cert-requires-in-States-clause-few
asked_cert-requires-in-States-clause-few c = asked.few_atoms c.args.setting.space c.requires.space c.args.setting.limits (evidence_of c.args.evidence) (Ended (States c.in-States.bound c.in-States.states)) c.args.marked (limited (goal.at.asked_cert-requires-in-States-clause-few c).In-States)

pub asked_cert-requires-in-States-clause-lines : goal.asked_cert-requires-in-States-clause-lines
asked_cert-requires-in-States-clause-lines c =
    let is = limited (goal.at.asked_cert-requires-in-States-clause-lines c).In-States in
    asked.lines c.args.setting.space c.requires.space c.args.setting.limits (evidence_of c.args.evidence) (Ended (States c.in-States.bound c.in-States.states)) c.args.marked is (bound c.in-States.bound) is.stop.0.1.found

pub returns-in-Some-3 : goal.returns-in-Some-3
returns-in-Some-3 c =
    let at = goal.at.returns-in-Some-3 c in
    let space = c.args.setting.space in
    let known = ground_in space in
    let task = task_in known in
    let atoms = atoms_in known in
    let s = evidence_of c.args.evidence in
    let limits = c.args.setting.limits in
    let least = c.in-States.bound in
    let is = limited at.In-States in
    let where_to = Ended (States least c.in-States.states) in
    let limit = is.stop.0.1 in
    let cert = c.in-Some-3.cert in
    let certificate = certificate_of cert in
    let made = subst (λ (o : Option Cert). IfSome o (IsMade space s (bound least) c.args.marked c.in-States.states)) c.in-Some-3.is c.in_ok-cert-in-States.ensures.certificate in
    let evidence = subst (λ (o : Option Cert). IfSome o (λ (_ : Cert). IsTrue (is_evidence four (length atoms) s (landmarks_of c.args.marked.landmarks)))) c.in-Some-3.is c.in_ok-cert-in-States.ensures.evidence in
    let version : IsUpTo (number_of limits.version) certificate = subst (IsUpTo (number_of limits.version)) (sym made) c.requires.version in (
      (
        more_of_task task atoms c.requires.space.atoms is.value is.is_dead limits.states is.stop.0.0,
        c.requires.ground.within,
        task_costs_at_least task atoms c.requires.space.atoms least limit.costs_at_least,
        asked.shown_by space c.requires.space limits s where_to c.args.marked is (bound least) limit.found c.requires.guidance certificate made evidence cert.within_limits,
        asked.settled_or_high space c.requires.space limits s where_to c.args.marked is (bound least) limit.found c.requires.guidance certificate made evidence,
        asked.at_limit space c.requires.space limits s where_to c.args.marked is least limits.states limit c.requires.guidance certificate made,
      ),
      version,
    )
