use Rattle.std.proofs.Common.{◌≡◌, ◌∙◌, [], refl, sym, ap, subst, length, List, ℕ, arith}
use Rattle.std.proofs.lemmas.List.{length-map}
use Rattle.task.specs.TaskParts.{atom_of}
use Rattle.formulas.specs.State.{plan_of}
use Rattle.search.specs.Outcome.{IsTrueOutcome}
use Rattle.search.specs.declared.best.Outcome.{Outcome}
use Rattle.certificate.specs.Certificate.{certificate_of}
use Rattle.grounding.specs.declared.ground.Ground.{Ground}
use Rattle.grounding.specs.Ground.{task_in, atoms_in}
use Rattle.model.specs.Claims.{bound, none}
use Rattle.model.specs.Runs.{Solves}
use Rattle.model.specs.Meaning as meaning
use Rattle.model.specs.NumberedAtoms.{numbered_atoms}
use Rattle.model.specs.Grounding.{ground_system}
use Rattle.search_spaces.specs.GroundListing.{listed_states}
use Rattle.search_spaces.specs.Plans.{IsCarriedOut}
use Rattle.search_spaces.specs.SearchSpace.{class_in, ground_in, exchanges_in, system_of}
use Rattle.search_spaces.specs.declared.ground_listing.GroundListing.{GroundListing}
use Rattle.search_spaces.proofs.TaskLemmas.{task_unsolvable, task_costs_at_least, classes_reach_alike}
use Rattle.solver.specs.Guidance.{estimate_by, reports_dead}
use Rattle.solver.specs.Guided.{found_in, AreMarksOf}
use Rattle.solver.specs.Solver.{IsUpTo}
use Rattle.solver.specs.Versions.{number_of}
use Rattle.solver.specs.Written.{guidance_of}
use Rattle.solver.proofs.AnswerLemmas.{all_instances_of_plan, most_of_limit, found_among_more, claim_allowed, limit_allowed, plan_optimal, more_of_task}
use Rattle.solver.proofs.ClassLemmas.{classes_by}
use Rattle.solver.proofs.ListingLemmas.{shown, opened_within, settled_or_high}
use Rattle.solver.proofs.ConsistentLemmas.{consistent_by}
use Rattle.solver.proofs.LimitLemmas.{at_limit_of}
use Rattle.solver.proofs.answer.answer_of_search.Goals as goal

-- ---- a plan

pub cert_of-requires-clause-claim : goal.cert_of-requires-clause-claim
cert_of-requires-clause-claim c =
    let space = c.args.setting.space in
    let known = ground_in space in
    let task = task_in known in
    let atoms = atoms_in known in
    let guidance = guidance_of c.args.guidance in
    let reported = subst (IsTrueOutcome (system_of space) (class_in space) (estimate_by guidance) (reports_dead guidance) listed_states c.args.setting.limits.states) c.in-Found.is c.requires.searched.outcome_is in
    claim_allowed task atoms c.requires.space.atoms (class_in space) guidance c.args.setting.limits.states (listed_states c.in-Found.states.store) c.in-Found.states.nodes.items c.requires.guidance.written
    (omega (arith, known.numbering.few_atoms, length-map known.numbering.atoms.keys atom_of))
    (most_of_limit c.args.setting.limits.states c.args.setting.limits.states_within) c.in-Found.cost c.in-Found.steps.items reported.0.0 reported.2
    (classes_reach_alike space c.requires.space) c.requires.searched.admissible c.requires.searched.reports

pub cert_of-requires-clause-guidance : goal.cert_of-requires-clause-guidance
cert_of-requires-clause-guidance c = c.requires.guidance.written

pub cert_of-requires-clause-marks : goal.cert_of-requires-clause-marks
cert_of-requires-clause-marks c =
    let guidance = guidance_of c.args.guidance in
    subst (λ (o : Outcome GroundListing). AreMarksOf (estimate_by guidance) (reports_dead guidance) (found_in o) c.args.searched.marks.items) c.in-Found.is c.requires.searched.marked

pub cert_of-requires-clause-found : goal.cert_of-requires-clause-found
cert_of-requires-clause-found c =
    let space = c.args.setting.space in
    let guidance = guidance_of c.args.guidance in
    let reported = subst (IsTrueOutcome (system_of space) (class_in space) (estimate_by guidance) (reports_dead guidance) listed_states c.args.setting.limits.states) c.in-Found.is c.requires.searched.outcome_is in
    found_among_more reported.2 (most_of_limit c.args.setting.limits.states c.args.setting.limits.states_within)

pub plan_of-requires-clause-atoms : goal.plan_of-requires-clause-atoms
plan_of-requires-clause-atoms c = subst (λ (g : Ground). atoms_in g ≡ numbered_atoms (task_in g) []) (sym c.ground.ensures) c.requires.space.atoms

pub plan_of-requires-clause-solves : goal.plan_of-requires-clause-solves
plan_of-requires-clause-solves c =
    let space = c.args.setting.space in
    let guidance = guidance_of c.args.guidance in
    let reported = subst (IsTrueOutcome (system_of space) (class_in space) (estimate_by guidance) (reports_dead guidance) listed_states c.args.setting.limits.states) c.in-Found.is c.requires.searched.outcome_is in
    subst (λ (g : Ground). Solves (ground_system (task_in g) (atoms_in g)) c.deref.result.now) (sym c.ground.ensures) (subst (Solves (system_of space)) (sym c.deref.ensures.value) reported.0.0)

pub plan_of-requires-clause-few : goal.plan_of-requires-clause-few
plan_of-requires-clause-few c =
    let space = c.args.setting.space in
    let guidance = guidance_of c.args.guidance in
    let reported = subst (IsTrueOutcome (system_of space) (class_in space) (estimate_by guidance) (reports_dead guidance) listed_states c.args.setting.limits.states) c.in-Found.is c.requires.searched.outcome_is in
    omega (arith, ap length c.deref.ensures.value, reported.3, most_of_limit c.args.setting.limits.states c.args.setting.limits.states_within)

pub returns-in_ok-cert-in-Found : goal.returns-in_ok-cert-in-Found
returns-in_ok-cert-in-Found c =
    let space = c.args.setting.space in
    let known = ground_in space in
    let task = task_in known in
    let atoms = atoms_in known in
    let guidance = guidance_of c.args.guidance in
    let exchanges = exchanges_in space in
    let most = c.args.setting.limits.states in
    let states = listed_states c.in-Found.states.store in
    let nodes = c.in-Found.states.nodes.items in
    let cost = c.in-Found.cost in
    let cert = certificate_of c.in_ok-cert-in-Found.cert in
    let numbered = c.requires.space.atoms in
    let numbers = c.in-Found.steps.items in
    let plan = plan_of c.in_ok-steps-in-Found.steps in
    let reported = subst (IsTrueOutcome (system_of space) (class_in space) (estimate_by guidance) (reports_dead guidance) listed_states c.args.setting.limits.states) c.in-Found.is c.requires.searched.outcome_is in
    let there = c.ground.result.now in
    let carried =
    subst (λ (g : Ground). IsCarriedOut (ground_system (task_in g) (atoms_in g)) (meaning.system_of (task_in g)) numbers plan) c.ground.ensures
    (subst (λ (ns : List ℕ). IsCarriedOut (ground_system (task_in there) (atoms_in there)) (meaning.system_of (task_in there)) ns plan) c.deref.ensures.value c.in_ok-steps-in-Found.ensures) in
    let optimal = plan_optimal task atoms numbered numbers plan carried reported.0 in
    let made = c.in_ok-cert-in-Found.ensures in
    let version : IsUpTo (number_of c.args.setting.limits.version) cert = subst (IsUpTo (number_of c.args.setting.limits.version)) (sym made) c.requires.version in (
      (
        optimal,
        carried.cost ∙ reported.1,
        all_instances_of_plan task plan optimal.0,
        shown task (bound cost) most exchanges guidance states nodes atoms numbered (class_in space) reported.2 cert made most reported.2.within_limit c.requires.space.typed (classes_by space c.requires.space)
            c.requires.space.named c.requires.guidance.written c.requires.guidance.fair c.in_ok-cert-in-Found.cert.within_limits,
        settled_or_high task (bound cost) most exchanges guidance states nodes atoms numbered (class_in space) reported.2 cert made c.requires.guidance.improved c.requires.guidance.dead_ends_improved c.requires.guidance.no_lower,
        opened_within task (bound cost) most exchanges guidance states nodes atoms numbered (class_in space) reported.2 cert made cost reported.4,
        c.requires.ground.within,
      ),
      version,
    )

-- ---- no plan

pub cert_of-requires-in-Exhausted-clause-guidance : goal.cert_of-requires-in-Exhausted-clause-guidance
cert_of-requires-in-Exhausted-clause-guidance c = c.requires.guidance.written

pub cert_of-requires-in-Exhausted-clause-marks : goal.cert_of-requires-in-Exhausted-clause-marks
cert_of-requires-in-Exhausted-clause-marks c =
    let guidance = guidance_of c.args.guidance in
    subst (λ (o : Outcome GroundListing). AreMarksOf (estimate_by guidance) (reports_dead guidance) (found_in o) c.args.searched.marks.items) c.in-Exhausted.is c.requires.searched.marked

pub cert_of-requires-in-Exhausted-clause-found : goal.cert_of-requires-in-Exhausted-clause-found
cert_of-requires-in-Exhausted-clause-found c =
    let space = c.args.setting.space in
    let guidance = guidance_of c.args.guidance in
    let reported = subst (IsTrueOutcome (system_of space) (class_in space) (estimate_by guidance) (reports_dead guidance) listed_states c.args.setting.limits.states) c.in-Exhausted.is c.requires.searched.outcome_is in
    found_among_more reported.1 (most_of_limit c.args.setting.limits.states c.args.setting.limits.states_within)

pub returns-in_ok-cert-in-Exhausted : goal.returns-in_ok-cert-in-Exhausted
returns-in_ok-cert-in-Exhausted c =
    let space = c.args.setting.space in
    let known = ground_in space in
    let task = task_in known in
    let atoms = atoms_in known in
    let guidance = guidance_of c.args.guidance in
    let exchanges = exchanges_in space in
    let most = c.args.setting.limits.states in
    let states = listed_states c.in-Exhausted.states.store in
    let nodes = c.in-Exhausted.states.nodes.items in
    let cert = certificate_of c.in_ok-cert-in-Exhausted.cert in
    let numbered = c.requires.space.atoms in
    let reported = subst (IsTrueOutcome (system_of space) (class_in space) (estimate_by guidance) (reports_dead guidance) listed_states c.args.setting.limits.states) c.in-Exhausted.is c.requires.searched.outcome_is in
    let made = c.in_ok-cert-in-Exhausted.ensures in
    let version : IsUpTo (number_of c.args.setting.limits.version) cert = subst (IsUpTo (number_of c.args.setting.limits.version)) (sym made) c.requires.version in (
      (
        task_unsolvable task atoms numbered reported.0,
        shown task none most exchanges guidance states nodes atoms numbered (class_in space) reported.1 cert made most reported.1.within_limit c.requires.space.typed (classes_by space c.requires.space)
            c.requires.space.named c.requires.guidance.written c.requires.guidance.fair c.in_ok-cert-in-Exhausted.cert.within_limits,
        settled_or_high task none most exchanges guidance states nodes atoms numbered (class_in space) reported.1 cert made c.requires.guidance.improved c.requires.guidance.dead_ends_improved c.requires.guidance.no_lower,
        c.requires.ground.within,
      ),
      version,
    )

-- ---- the limit of states

pub cert_of-requires-in-States-clause-claim : goal.cert_of-requires-in-States-clause-claim
cert_of-requires-in-States-clause-claim c =
    let space = c.args.setting.space in
    let known = ground_in space in
    let task = task_in known in
    let atoms = atoms_in known in
    let guidance = guidance_of c.args.guidance in
    let reported = subst (IsTrueOutcome (system_of space) (class_in space) (estimate_by guidance) (reports_dead guidance) listed_states c.args.setting.limits.states) c.in-States.is c.requires.searched.outcome_is in
    limit_allowed task atoms c.requires.space.atoms (class_in space) guidance c.args.setting.limits.states (listed_states c.in-States.states.store) c.in-States.states.nodes.items c.requires.guidance.written
    (omega (arith, known.numbering.few_atoms, length-map known.numbering.atoms.keys atom_of))
    (most_of_limit c.args.setting.limits.states c.args.setting.limits.states_within) c.in-States.bound reported.1

pub cert_of-requires-in-States-clause-guidance : goal.cert_of-requires-in-States-clause-guidance
cert_of-requires-in-States-clause-guidance c = c.requires.guidance.written

pub cert_of-requires-in-States-clause-marks : goal.cert_of-requires-in-States-clause-marks
cert_of-requires-in-States-clause-marks c =
    let guidance = guidance_of c.args.guidance in
    subst (λ (o : Outcome GroundListing). AreMarksOf (estimate_by guidance) (reports_dead guidance) (found_in o) c.args.searched.marks.items) c.in-States.is c.requires.searched.marked

pub cert_of-requires-in-States-clause-found : goal.cert_of-requires-in-States-clause-found
cert_of-requires-in-States-clause-found c =
    let space = c.args.setting.space in
    let guidance = guidance_of c.args.guidance in
    let reported = subst (IsTrueOutcome (system_of space) (class_in space) (estimate_by guidance) (reports_dead guidance) listed_states c.args.setting.limits.states) c.in-States.is c.requires.searched.outcome_is in
    found_among_more reported.1.found (most_of_limit c.args.setting.limits.states c.args.setting.limits.states_within)

pub returns-in_ok-cert-in-States : goal.returns-in_ok-cert-in-States
returns-in_ok-cert-in-States c =
    let space = c.args.setting.space in
    let known = ground_in space in
    let task = task_in known in
    let atoms = atoms_in known in
    let guidance = guidance_of c.args.guidance in
    let exchanges = exchanges_in space in
    let most = c.args.setting.limits.states in
    let states = listed_states c.in-States.states.store in
    let nodes = c.in-States.states.nodes.items in
    let least = c.in-States.bound in
    let cert = certificate_of c.in_ok-cert-in-States.cert in
    let numbered = c.requires.space.atoms in
    let reported = subst (IsTrueOutcome (system_of space) (class_in space) (estimate_by guidance) (reports_dead guidance) listed_states c.args.setting.limits.states) c.in-States.is c.requires.searched.outcome_is in
    let consistent = consistent_by known numbered guidance c.requires.guidance.written c.requires.guidance.fair in
    let made = c.in_ok-cert-in-States.ensures in
    let version : IsUpTo (number_of c.args.setting.limits.version) cert = subst (IsUpTo (number_of c.args.setting.limits.version)) (sym made) c.requires.version in (
      (
        more_of_task task atoms numbered (estimate_by guidance) (reports_dead guidance) most reported.0,
        c.requires.ground.within,
        task_costs_at_least task atoms numbered least reported.1.costs_at_least,
        shown task (bound least) most exchanges guidance states nodes atoms numbered (class_in space) reported.1.found cert made most reported.1.found.within_limit c.requires.space.typed
            (classes_by space c.requires.space) c.requires.space.named c.requires.guidance.written c.requires.guidance.fair c.in_ok-cert-in-States.cert.within_limits,
        settled_or_high task (bound least) most exchanges guidance states nodes atoms numbered (class_in space) reported.1.found cert made c.requires.guidance.improved c.requires.guidance.dead_ends_improved c.requires.guidance.no_lower,
        at_limit_of task least most exchanges guidance states nodes atoms numbered (class_in space) consistent reported.1 cert made most refl,
      ),
      version,
    )
