use Rattle.std.proofs.Common.{◌≡◌, ◌∙◌, ℕ, true, length, sym, ap, subst}
use Rattle.grounding.specs.declared.ground.Ground.{Ground}
use Rattle.grounding.specs.Ground.{task_in, atoms_in}
use Rattle.lower_bounds.specs.TableFunctions.{SeveralValues}
use Rattle.lower_bounds.specs.LandmarkLines.{keep_limits}
use Rattle.landmark_zones.specs.Landmarks.{landmarks_of}
use Rattle.landmarks.specs.Fairness.{AreFairness}
use Rattle.landmarks.proofs.Kept.{kept-sorted}
use Rattle.guides.specs.FairTables.{ground_in}
use Rattle.tables.specs.Several.{several_of}
use Rattle.line_evidence.proofs.ShownLemmas.{found_here}
use Rattle.line_evidence.proofs.shown.fairness_beside.Goals as goal
use Rattle.line_evidence.proofs.shown.fairness_beside.Goals.{After-keep_limits}

-- they keep the limits for as many atoms
kept : (c : After-keep_limits) → c.keep_limits.result ≡ true → keep_limits (length (atoms_in (ground_in c.args.guide.now))) (landmarks_of c.args.landmarks.now) ≡ true
kept c is =
    let count : c.width.result ≡ length (atoms_in (ground_in c.args.guide.now)) = c.width.ensures ∙ ap (λ (k : Ground). length (atoms_in k)) c.ground-ground.ensures in
    subst (λ (n : ℕ). keep_limits n (landmarks_of c.args.landmarks.now) ≡ true) count (sym c.keep_limits.ensures ∙ is)

pub fairness_of_all-requires-clause-sorted : goal.fairness_of_all-requires-clause-sorted
fairness_of_all-requires-clause-sorted c =
    (kept-sorted (length (atoms_in (ground_in c.args.guide.now))) (landmarks_of c.args.landmarks.now) (kept (goal.at.fairness_of_all-requires-clause-sorted c).After-keep_limits c.if-not-keep_limits.false)).0

pub fairness_of_all-requires-clause-few : goal.fairness_of_all-requires-clause-few
fairness_of_all-requires-clause-few c =
    (kept-sorted (length (atoms_in (ground_in c.args.guide.now))) (landmarks_of c.args.landmarks.now) (kept (goal.at.fairness_of_all-requires-clause-few c).After-keep_limits c.if-not-keep_limits.false)).1

pub returns-clause-limits : goal.returns-clause-limits
returns-clause-limits c = kept (goal.at.returns-clause-limits c).After-keep_limits c.if-not-keep_limits.false

pub returns-clause-fairness : goal.returns-clause-fairness
returns-clause-fairness c =
    let l = landmarks_of c.args.landmarks.now in
    let found = c.in_ok-found.found.items in
    let there = c.ground-ground.result.now in
    let here = found_here (task_in there) _ (atoms_in there) _ c.in_ok-asked.asked.items _ (several_of c.functions-functions.result.now).tables l found c.in_ok-index.ensures.task c.in_ok-index.ensures.atoms
    (c.in_ok-index.ensures.asked ∙ c.deref.ensures.value) c.in_ok-asked.ensures.asked c.in_ok-found.ensures in
    subst (λ (s : SeveralValues). AreFairness (task_in (ground_in c.args.guide.now)) (atoms_in (ground_in c.args.guide.now)) s.tables l found) c.functions-functions.ensures
    (subst (λ (k : Ground). AreFairness (task_in k) (atoms_in k) (several_of c.functions-functions.result.now).tables l found) c.ground-ground.ensures here)
