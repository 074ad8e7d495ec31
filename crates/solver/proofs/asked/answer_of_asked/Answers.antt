use Rattle.std.proofs.Common.{Option, ℕ, length, sym, subst}
use Rattle.std.specs.Prelude.{IfSome, IsTrue}
use Rattle.certificate.specs.Certificate.{certificate_of}
use Rattle.certificate.specs.declared.cert.Cert.{Cert}
use Rattle.certificate.specs.Evidence.{evidence_of, is_evidence}
use Rattle.certificate_definitions.specs.Certificates.{four}
use Rattle.grounding.specs.Ground.{task_in, atoms_in}
use Rattle.landmark_zones.specs.Landmarks.{landmarks_of}
use Rattle.model.specs.Claims.{bound}
use Rattle.search_spaces.specs.GroundListing.{listed_states}
use Rattle.search_spaces.specs.SearchSpace.{ground_in}
use Rattle.search_spaces.specs.declared.ground_listing.GroundListing.{GroundListing}
use Rattle.search_spaces.proofs.TaskLemmas.{task_costs_at_least}
use Rattle.search.specs.declared.under_way.Stop.{Stop}
use Rattle.search.specs.declared.under_way.Stop.TheVariants.{Waiting}
use Rattle.solver.specs.Asked.{IsAsked}
use Rattle.solver.specs.AtLimit.{IsAtLimit}
use Rattle.solver.specs.Solver.{IsUpTo}
use Rattle.solver.specs.Versions.{number_of}
use Rattle.solver.proofs.AnswerLemmas.{found_among_more}
use Rattle.solver.proofs.AskedAnswers as asked
use Rattle.solver.proofs.AskedAnswers.{IsMade}
use Rattle.solver.proofs.asked.answer_of_asked.Goals as goal
use Rattle.solver.proofs.asked.answer_of_asked.Goals.{In-Waiting}

pub answer_of_outcome-requires-clause-asked : goal.answer_of_outcome-requires-clause-asked
answer_of_outcome-requires-clause-asked c =
    subst (λ (s : Stop GroundListing). IsAsked c.args.setting.space (evidence_of c.args.evidence) c.args.setting.limits (record { stop = s; marked = c.args.asked.marked })) c.in-Ended.is c.requires.asked

waiting : (c : In-Waiting) → IsAsked c.args.setting.space (evidence_of c.args.evidence) c.args.setting.limits (record { stop = Waiting c.in-Waiting.bound c.in-Waiting.states; marked = c.args.asked.marked })
waiting c = subst (λ (s : Stop GroundListing). IsAsked c.args.setting.space (evidence_of c.args.evidence) c.args.setting.limits (record { stop = s; marked = c.args.asked.marked })) c.in-Waiting.is c.requires.asked

pub asked_cert-requires-clause-few : goal.asked_cert-requires-clause-few
asked_cert-requires-clause-few c =
    asked.few_atoms c.args.setting.space c.requires.space c.args.setting.limits (evidence_of c.args.evidence) (Waiting c.in-Waiting.bound c.in-Waiting.states) c.args.asked.marked
    (waiting (goal.at.asked_cert-requires-clause-few c).In-Waiting)

-- what it found, among as many states as there may be
pub asked_cert-requires-clause-lines : goal.asked_cert-requires-clause-lines
asked_cert-requires-clause-lines c =
    let is = waiting (goal.at.asked_cert-requires-clause-lines c).In-Waiting in
    asked.lines c.args.setting.space c.requires.space c.args.setting.limits (evidence_of c.args.evidence) (Waiting c.in-Waiting.bound c.in-Waiting.states) c.args.asked.marked is
    (bound c.in-Waiting.bound) (found_among_more is.stop.1.found is.stop.0)

pub returns-in-Some : goal.returns-in-Some
returns-in-Some c =
    let at = goal.at.returns-in-Some c in
    let space = c.args.setting.space in
    let known = ground_in space in
    let task = task_in known in
    let atoms = atoms_in known in
    let s = evidence_of c.args.evidence in
    let limits = c.args.setting.limits in
    let marked = c.args.asked.marked in
    let least = c.in-Waiting.bound in
    let is = waiting at.In-Waiting in
    let where_to = Waiting least c.in-Waiting.states in
    let limit = is.stop.1 in
    let found = found_among_more limit.found is.stop.0 in
    let cert = c.in-Some.cert in
    let certificate = certificate_of cert in
    let made = subst (λ (o : Option Cert). IfSome o (IsMade space s (bound least) marked c.in-Waiting.states)) c.in-Some.is c.in_ok-cert-in-Waiting.ensures.certificate in
    let evidence = subst (λ (o : Option Cert). IfSome o (λ (_ : Cert). IsTrue (is_evidence four (length atoms) s (landmarks_of marked.landmarks)))) c.in-Some.is c.in_ok-cert-in-Waiting.ensures.evidence in
    let at_limit : IsAtLimit task least (length (listed_states c.in-Waiting.states.store)) certificate =
    asked.at_limit space c.requires.space limits s where_to marked is least (length (listed_states c.in-Waiting.states.store)) limit c.requires.guidance certificate made in
    let version : IsUpTo (number_of limits.version) certificate = subst (IsUpTo (number_of limits.version)) (sym made) c.requires.version in (
      (
        is.within,
        c.requires.ground.within,
        task_costs_at_least task atoms c.requires.space.atoms least limit.costs_at_least,
        asked.shown_by space c.requires.space limits s where_to marked is (bound least) found c.requires.guidance certificate made evidence cert.within_limits,
        asked.settled_or_high space c.requires.space limits s where_to marked is (bound least) found c.requires.guidance certificate made evidence,
        subst (λ (n : ℕ). IsAtLimit task least n certificate) (sym at_limit.full) at_limit,
      ),
      version,
    )
