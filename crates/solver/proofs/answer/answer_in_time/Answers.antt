use Rattle.std.proofs.Common.{◌≡◌, ◌≤◌, ℕ, refl, sym, subst, length, arith}
use Rattle.std.proofs.lemmas.List.{length-map}
use Rattle.task.specs.TaskParts.{atom_of}
use Rattle.certificate.specs.Certificate.{certificate_of}
use Rattle.grounding.specs.Ground.{task_in, atoms_in}
use Rattle.model.specs.Claims.{bound}
use Rattle.search_spaces.specs.GroundListing.{listed_states}
use Rattle.search_spaces.specs.SearchSpace.{class_in, ground_in, exchanges_in}
use Rattle.search_spaces.proofs.TaskLemmas.{task_costs_at_least}
use Rattle.solver.specs.AtLimit.{IsAtLimit}
use Rattle.solver.specs.Solver.{IsUpTo}
use Rattle.solver.specs.Versions.{number_of}
use Rattle.solver.specs.Written.{guidance_of}
use Rattle.solver.proofs.AnswerLemmas.{most_of_limit, found_among_more, limit_allowed}
use Rattle.solver.proofs.ClassLemmas.{classes_by}
use Rattle.solver.proofs.ListingLemmas.{shown, settled_or_high}
use Rattle.solver.proofs.ConsistentLemmas.{consistent_by}
use Rattle.solver.proofs.LimitLemmas.{at_limit_of}
use Rattle.solver.proofs.answer.answer_in_time.Goals as goal

pub cert_of-requires-clause-claim : goal.cert_of-requires-clause-claim
cert_of-requires-clause-claim c =
    let space = c.args.setting.space in
    let known = ground_in space in
    let states = listed_states c.args.halted.states.store in
    let few : length states ≤ 16777216 = omega (arith, c.requires.halted.within_limit, most_of_limit c.args.setting.limits.states c.args.setting.limits.states_within) in
    limit_allowed (task_in known) (atoms_in known) c.requires.space.atoms (class_in space) (guidance_of c.args.guidance) (length states) states c.args.halted.states.nodes.items c.requires.guidance.written
    (omega (arith, known.numbering.few_atoms, length-map known.numbering.atoms.keys atom_of)) few c.args.halted.bound c.requires.halted.at_limit

pub cert_of-requires-clause-guidance : goal.cert_of-requires-clause-guidance
cert_of-requires-clause-guidance c = c.requires.guidance.written

pub cert_of-requires-clause-found : goal.cert_of-requires-clause-found
cert_of-requires-clause-found c =
    found_among_more c.requires.halted.at_limit.found (omega (arith, c.requires.halted.within_limit, most_of_limit c.args.setting.limits.states c.args.setting.limits.states_within))

pub returns : goal.returns
returns c =
    let space = c.args.setting.space in
    let known = ground_in space in
    let task = task_in known in
    let atoms = atoms_in known in
    let guidance = guidance_of c.args.guidance in
    let exchanges = exchanges_in space in
    let states = listed_states c.args.halted.states.store in
    let nodes = c.args.halted.states.nodes.items in
    let count = length states in
    let least = c.args.halted.bound in
    let cert = certificate_of c.in_ok-cert.cert in
    let numbered = c.requires.space.atoms in
    let limit = c.requires.halted.at_limit in
    let made = c.in_ok-cert.ensures in
    let consistent = consistent_by known numbered guidance c.requires.guidance.written c.requires.guidance.fair in
    let at_limit : IsAtLimit task least count cert = at_limit_of task least count exchanges guidance states nodes atoms numbered (class_in space) consistent limit cert made count refl in
    let version : IsUpTo (number_of c.args.setting.limits.version) cert = subst (IsUpTo (number_of c.args.setting.limits.version)) (sym made) c.requires.version in (
      (
        c.requires.limited,
        c.requires.ground.within,
        task_costs_at_least task atoms numbered least limit.costs_at_least,
        shown task (bound least) count exchanges guidance states nodes atoms numbered (class_in space) limit.found cert made c.args.setting.limits.states c.requires.halted.within_limit c.requires.space.typed
            (classes_by space c.requires.space) c.requires.space.named c.requires.guidance.written c.requires.guidance.fair c.in_ok-cert.cert.within_limits,
        settled_or_high task (bound least) count exchanges guidance states nodes atoms numbered (class_in space) limit.found cert made c.requires.guidance.improved c.requires.guidance.dead_ends_improved c.requires.guidance.no_lower,
        subst (λ (n : ℕ). IsAtLimit task least n cert) (sym at_limit.full) at_limit,
      ),
      version,
    )
