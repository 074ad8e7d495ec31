use Rattle.std.proofs.Common.{◌≡◌, ◌∙◌, ◌<◌, ◌≤◌, ℕ, Bool, true, List, [], Option, length, sym, ap, subst, arith}
use Rattle.std.specs.Prelude.{IfSome}
use Rattle.grounding.specs.declared.ground.Ground.{Ground}
use Rattle.grounding.specs.Ground.{task_in, atoms_in}
use Rattle.model.specs.Grounding.{ground_system}
use Rattle.model.specs.Runs.{System}
use Rattle.model.specs.Task.{Atom, Task}
use Rattle.lower_bounds.specs.TableLaws.{AreAllNumbered}
use Rattle.landmark_zones.specs.Landmarks.{landmarks_of}
use Rattle.landmarks.specs.CutIndex.{asked_in, atoms_of, task_of}
use Rattle.landmarks.specs.Fairness.{AreAsked}
use Rattle.landmarks.specs.declared.cut_index.CutIndex.{CutIndex}
use Rattle.guides.specs.FairTables as guides
use Rattle.guides.specs.FairTables.{functions_in}
use Rattle.guides.proofs.GuideLemmas.{all_numbered}
use Rattle.search_spaces.specs.GroundListing.{listed_states, listed_width}
use Rattle.search_spaces.specs.declared.ground_listing.GroundListing.{GroundListing}
use Rattle.lower_bounds.specs.TableFunctions.{dead_ends_of, functions_of, greatest_value, is_dead_by}
use Rattle.search.specs.declared.nodes.FoundStates.{FoundStates}
use Rattle.line_evidence.specs.Roles.{CanBeMarked, HaveRolesOf, marks_in}
use Rattle.line_evidence.specs.Shown.{AreSupported}
use Rattle.line_evidence.specs.declared.marked.Marked.{Marked}
use Rattle.search.specs.UnderWay.{IsTrueStopBy}
use Rattle.search.specs.declared.under_way.Stop.{Stop}
use Rattle.search_spaces.specs.SearchSpace.{class_in, ground_in, system_of}
use Rattle.solver.specs.Asked.{IsStoppedWithin, found_at}
use Rattle.solver.proofs.AnswerLemmas.{most_of_limit}
use Rattle.solver.proofs.AskedEnd.{asked_of, states_by, wide_by}
use Rattle.solver.proofs.asking.search_asking.Given.{Over}
use Rattle.solver.proofs.asking.search_asking.Goals as goal
use Rattle.solver.proofs.asking.search_asking.Goals.{In-Some}

abbrev means : Ground → System (List Bool) ℕ
means k = ground_system (task_in k) (atoms_in k)

-- ---- what is asked

pub new-requires-2-clause-numbered : goal.new-requires-2-clause-numbered
new-requires-2-clause-numbered g c =
    let known = ground_in c.args.setting.space in
    let task_is = c.in_ok-index.ensures.task ∙ ap task_in c.ground-ground.ensures in
    let atoms_are = c.in_ok-index.ensures.atoms ∙ ap atoms_in c.ground-ground.ensures in
    subst (λ (t : Task). AreAllNumbered t (atoms_of c.in_ok-index.index)) (sym task_is)
    (subst (λ (those : List Atom). AreAllNumbered (task_in known) those) (sym atoms_are) (all_numbered known [] c.requires.space.atoms))

pub new-requires-2-clause-asked : goal.new-requires-2-clause-asked
new-requires-2-clause-asked g c =
    let k = c.ground-ground.result.now in
    subst (λ (t : Task). AreAsked t (atoms_of c.in_ok-index.index) [] (asked_in c.in_ok-index.index)) (sym c.in_ok-index.ensures.task)
    (subst (λ (those : List Atom). AreAsked (task_in k) those [] (asked_in c.in_ok-index.index)) (sym c.in_ok-index.ensures.atoms)
    (subst (λ (numbers : List ℕ). AreAsked (task_in k) (atoms_in k) [] numbers) (sym (c.in_ok-index.ensures.asked ∙ c.deref.ensures.value)) c.in_ok-instances.ensures.asked))

-- ---- the search

pub search_to_stop-requires-clause-system : goal.search_to_stop-requires-clause-system
search_to_stop-requires-clause-system g c = ap means c.requires.ground

pub search_to_stop-requires-clause-width : goal.search_to_stop-requires-clause-width
search_to_stop-requires-clause-width g c = ap (λ (k : Ground). length (atoms_in k)) c.requires.ground

pub search_to_stop-requires-clause-values_system : goal.search_to_stop-requires-clause-values_system
search_to_stop-requires-clause-values_system g c =
    ap (λ (index : CutIndex). ground_system (task_of index) (atoms_of index)) c.in_ok-values.ensures.index
    ∙ (λ i. ground_system (c.in_ok-index.ensures.task i) (c.in_ok-index.ensures.atoms i)) ∙ ap means c.ground-ground.ensures

pub search_to_stop-requires-clause-values_width : goal.search_to_stop-requires-clause-values_width
search_to_stop-requires-clause-values_width g c =
    ap (λ (index : CutIndex). length (atoms_of index)) c.in_ok-values.ensures.index ∙ ap length c.in_ok-index.ensures.atoms ∙ ap (λ (k : Ground). length (atoms_in k)) c.ground-ground.ensures

-- ---- where it was stopped

stopped_by : (g : Over) (c : In-Some g) → IsTrueStopBy (system_of c.args.setting.space) (class_in c.args.setting.space) (greatest_value (functions_of (functions_in c.args.guide.now)))
    (is_dead_by (dead_ends_of (functions_in c.args.guide.now))) true listed_states c.args.setting.limits.states c.in-Some.stop
stopped_by g c =
    let s = functions_in c.args.guide.now in
    subst (λ (o : Option (Stop GroundListing)). IfSome o (IsTrueStopBy (system_of c.args.setting.space) (class_in c.args.setting.space) (greatest_value (functions_of s)) (is_dead_by (dead_ends_of s))
    true listed_states c.args.setting.limits.states)) c.in-Some.is c.in_ok-stop.ensures.stop

-- ---- its lines

pub tested_marks-requires-clause-width : goal.tested_marks-requires-clause-width
tested_marks-requires-clause-width g c =
    let s = functions_in c.args.guide.now in
    ap (λ (found : FoundStates GroundListing). listed_width found.store) c.found_at.ensures
    ∙ wide_by c.args.setting.space c.requires.space (greatest_value (functions_of s)) (is_dead_by (dead_ends_of s)) true c.args.setting.limits c.in-Some.stop (stopped_by g (goal.at.tested_marks-requires-clause-width g c).In-Some)
    ∙ ap (λ (k : Ground). length (atoms_in k)) (sym c.requires.ground)

pub tested_marks-requires-clause-one_for_each : goal.tested_marks-requires-clause-one_for_each
tested_marks-requires-clause-one_for_each g c =
    let s = functions_in c.args.guide.now in
    subst (λ (found : FoundStates GroundListing). length found.nodes.items ≡ length (listed_states found.store)) (sym c.found_at.ensures)
    (states_by c.args.setting.space (greatest_value (functions_of s)) (is_dead_by (dead_ends_of s)) true c.args.setting.limits c.in-Some.stop (stopped_by g (goal.at.tested_marks-requires-clause-one_for_each g c).In-Some)).0

pub tested_marks-requires-clause-estimates : goal.tested_marks-requires-clause-estimates
tested_marks-requires-clause-estimates g c =
    let s = functions_in c.args.guide.now in
    subst (λ (found : FoundStates GroundListing). length found.estimates.items ≡ length found.nodes.items) (sym c.found_at.ensures)
    (states_by c.args.setting.space (greatest_value (functions_of s)) (is_dead_by (dead_ends_of s)) true c.args.setting.limits c.in-Some.stop (stopped_by g (goal.at.tested_marks-requires-clause-estimates g c).In-Some)).1

pub tested_marks-requires-clause-few : goal.tested_marks-requires-clause-few
tested_marks-requires-clause-few g c =
    let s = functions_in c.args.guide.now in
    let few = (states_by c.args.setting.space (greatest_value (functions_of s)) (is_dead_by (dead_ends_of s)) true c.args.setting.limits c.in-Some.stop (stopped_by g (goal.at.tested_marks-requires-clause-few g c).In-Some)).2 in
    let same : length c.found_at.result.now.nodes.items ≡ length (found_at c.in-Some.stop).nodes.items = ap (λ (found : FoundStates GroundListing). length found.nodes.items) c.found_at.ensures in
    omega (arith, few, same, most_of_limit c.args.setting.limits.states c.args.setting.limits.states_within)

pub returns-in-Some-2-clause-asked : goal.returns-in-Some-2-clause-asked
returns-in-Some-2-clause-asked g c =
    let space = c.args.setting.space in
    let s = functions_in c.args.guide.now in
    let stop = c.in-Some.stop in
    let marked = c.in-Some-2.marked in
    let roles = subst (λ (o : Option Marked). IfSome o (λ (m : Marked). (value : List Bool → ℕ) (is_dead : List Bool → Bool)
    → CanBeMarked value is_dead (listed_states c.found_at.result.now.store) c.found_at.result.now.nodes.items c.found_at.result.now.estimates.items
    → HaveRolesOf value is_dead (listed_states c.found_at.result.now.store) c.found_at.result.now.nodes.items m.marks.items)) c.in-Some-2.is c.in_ok-marked.ensures.roles in
    let supported = subst (λ (o : Option Marked). IfSome o (λ (m : Marked). AreSupported (task_in (guides.ground_in c.args.guide.now)) (atoms_in (guides.ground_in c.args.guide.now)) s
    (landmarks_of m.landmarks) (listed_states c.found_at.result.now.store) (marks_in m.marks.items))) c.in-Some-2.is c.in_ok-marked.ensures.supported in
    asked_of space s c.args.setting.limits true marked stop (stopped_by g (goal.at.returns-in-Some-2-clause-asked g c).In-Some) (subst (λ (o : Option (Stop GroundListing)). IfSome o (IsStoppedWithin c.args.setting.limits)) c.in-Some.is c.in_ok-stop.ensures.within)
    (subst (λ (found : FoundStates GroundListing). (value : List Bool → ℕ) (is_dead : List Bool → Bool) → CanBeMarked value is_dead (listed_states found.store) found.nodes.items found.estimates.items
    → HaveRolesOf value is_dead (listed_states found.store) found.nodes.items marked.marks.items) c.found_at.ensures roles)
    (subst (λ (k : Ground). AreSupported (task_in k) (atoms_in k) s (landmarks_of marked.landmarks) (listed_states (found_at stop).store) (marks_in marked.marks.items)) c.requires.ground
    (subst (λ (found : FoundStates GroundListing). AreSupported (task_in (guides.ground_in c.args.guide.now)) (atoms_in (guides.ground_in c.args.guide.now)) s (landmarks_of marked.landmarks)
    (listed_states found.store) (marks_in marked.marks.items)) c.found_at.ensures supported))
