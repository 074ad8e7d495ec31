use Rattle.std.proofs.Common.{◌≡◌, ◌∙◌, ℕ, Bool, List, sym, ap, subst, length, arith}
use Rattle.grounding.specs.declared.ground.Ground.{Ground}
use Rattle.grounding.specs.Ground.{task_in, atoms_in}
use Rattle.model.specs.Grounding.{ground_system}
use Rattle.model.specs.Runs.{System}
use Rattle.search_spaces.specs.GroundListing.{listed_class, listed_states, listed_width}
use Rattle.search_spaces.specs.SearchSpace.{class_in, ground_in, system_of}
use Rattle.search_spaces.specs.declared.ground_listing.GroundListing.{GroundListing}
use Rattle.search_spaces.proofs.TaskLemmas.{classes_reach_alike}
use Rattle.search.specs.Outcome.{AreClassesOf}
use Rattle.search.specs.UnderWay as under_way
use Rattle.search.specs.UnderWay.{IsTrueHalt, store_in}
use Rattle.search.specs.declared.nodes.FoundStates.{FoundStates}
use Rattle.solver.specs.Guided.{AreMarksOf, CanBeMarked}
use Rattle.solver.specs.Stretches.{IsUnderWay}
use Rattle.solver.proofs.AnswerLemmas.{can_be_marked, searched, most_of_limit}
use Rattle.solver.proofs.searched.stretch_by.Given.{Over}
use Rattle.solver.proofs.searched.stretch_by.Goals as goal
use Rattle.solver.proofs.searched.stretch_by.Goals.{In_ok-outcome}

abbrev means : Ground → System (List Bool) ℕ
means k = ground_system (task_in k) (atoms_in k)

pub go_on-requires-clause-made_for : goal.go_on-requires-clause-made_for
go_on-requires-clause-made_for g c = c.requires.system ∙ ap means (sym c.ground.ensures)

pub go_on-requires-clause-guide_width : goal.go_on-requires-clause-guide_width
go_on-requires-clause-guide_width g c = c.requires.width ∙ ap (λ (k : Ground). length (atoms_in k)) (sym c.ground.ensures)

pub go_on-requires-clause-limit : goal.go_on-requires-clause-limit
go_on-requires-clause-limit g c = omega (arith, c.states.ensures, most_of_limit c.args.session.now.setting.limits.states c.args.session.now.setting.limits.states_within)

pub go_on-requires-clause-classes : goal.go_on-requires-clause-classes
go_on-requires-clause-classes g c =
    subst (λ (k : Ground). AreClassesOf (means k) (listed_class (store_in c.args.search))) (sym c.ground.ensures)
    (subst (AreClassesOf (system_of c.args.session.now.setting.space)) (sym c.requires.under_way.store_classes) (classes_reach_alike c.args.session.now.setting.space c.requires.space))

pub go_on-requires-clause-under_way : goal.go_on-requires-clause-under_way
go_on-requires-clause-under_way g c =
    let guide = c.args.session.now.guide.now in
    let space = c.args.session.now.setting.space in
    let estimate = g.G.Guide.estimate_of guide in
    let is_dead = g.G.Guide.is_dead guide in
    let fits = g.G.Guide.fits guide in
    subst (λ (k : Ground). under_way.IsUnderWay (means k) (listed_class (store_in c.args.search)) estimate is_dead fits listed_states listed_class listed_width (length (atoms_in k)) c.states.result c.args.search) (sym c.ground.ensures)
    (subst (λ (class_of : List Bool → List Bool). under_way.IsUnderWay (system_of space) class_of estimate is_dead fits listed_states listed_class listed_width (length (atoms_in (ground_in space))) c.states.result c.args.search)
    (sym c.requires.under_way.store_classes) (subst (λ (n : ℕ). IsUnderWay space estimate is_dead fits n c.args.search) (sym c.states.ensures) c.requires.under_way))

-- where it halts is told in terms of the space
halts : (g : Over) (c : In_ok-outcome g) → IsTrueHalt (system_of c.args.session.now.setting.space) (class_in c.args.session.now.setting.space) (g.G.Guide.estimate_of c.args.session.now.guide.now) (g.G.Guide.is_dead c.args.session.now.guide.now) (g.G.Guide.fits c.args.session.now.guide.now) listed_states listed_class
    listed_width (length (atoms_in (ground_in c.args.session.now.setting.space))) c.args.pause c.args.session.now.setting.limits.states c.in_ok-outcome.field-0
halts g c =
    let guide = c.args.session.now.guide.now in
    let space = c.args.session.now.setting.space in
    let estimate = g.G.Guide.estimate_of guide in
    let is_dead = g.G.Guide.is_dead guide in
    let fits = g.G.Guide.fits guide in
    let halt = c.in_ok-outcome.field-0 in
    subst (λ (n : ℕ). IsTrueHalt (system_of space) (class_in space) estimate is_dead fits listed_states listed_class listed_width (length (atoms_in (ground_in space))) c.args.pause n halt) c.states.ensures
    (subst (λ (class_of : List Bool → List Bool). IsTrueHalt (system_of space) class_of estimate is_dead fits listed_states listed_class listed_width (length (atoms_in (ground_in space))) c.args.pause c.states.result halt)
    c.requires.under_way.store_classes
    (subst (λ (k : Ground). IsTrueHalt (means k) (listed_class (store_in c.args.search)) estimate is_dead fits listed_states listed_class listed_width (length (atoms_in k)) c.args.pause c.states.result halt) c.ground.ensures
    c.in_ok-outcome.ensures))

pub marks-requires : goal.marks-requires
marks-requires g c =
    let space = c.args.session.now.setting.space in
    let guide = c.args.session.now.guide.now in
    let estimate = g.G.Guide.estimate_of guide in
    let is_dead = g.G.Guide.is_dead guide in
    let outcome = c.in-Ended.outcome in
    let is =
    subst (IsTrueHalt (system_of space) (class_in space) estimate is_dead (g.G.Guide.fits guide) listed_states listed_class listed_width (length (atoms_in (ground_in space))) c.args.pause c.args.session.now.setting.limits.states) c.in-Ended.is
    (halts g (goal.at.marks-requires g c).In_ok-outcome) in
    subst (λ (f : FoundStates GroundListing). length f.estimates.items ≡ length f.nodes.items) (sym c.found_in.ensures) (can_be_marked space estimate is_dead c.args.session.now.setting.limits outcome is.0 is.1).estimates.0

pub returns-in_ok-marks-in-Ended : goal.returns-in_ok-marks-in-Ended
returns-in_ok-marks-in-Ended g c =
    let space = c.args.session.now.setting.space in
    let guide = c.args.session.now.guide.now in
    let estimate = g.G.Guide.estimate_of guide in
    let is_dead = g.G.Guide.is_dead guide in
    let outcome = c.in-Ended.outcome in
    let is =
    subst (IsTrueHalt (system_of space) (class_in space) estimate is_dead (g.G.Guide.fits guide) listed_states listed_class listed_width (length (atoms_in (ground_in space))) c.args.pause c.args.session.now.setting.limits.states) c.in-Ended.is
    (halts g (goal.at.returns-in_ok-marks-in-Ended g c).In_ok-outcome) in
    let marks = c.in_ok-marks-in-Ended.marks.items in
    searched space estimate is_dead c.args.session.now.setting.limits outcome is.0 (g.G.Guide.system_of guide) c.requires.system (g.met.G.Guide.is_admissible guide) (g.met.G.Guide.reports_dead_ends guide) marks
    ((subst (λ (f : FoundStates GroundListing). CanBeMarked estimate is_dead f → AreMarksOf estimate is_dead f marks) c.found_in.ensures (c.in_ok-marks-in-Ended.ensures estimate is_dead))
    (can_be_marked space estimate is_dead c.args.session.now.setting.limits outcome is.0 is.1))

pub returns-in-Paused : goal.returns-in-Paused
returns-in-Paused g c =
    let space = c.args.session.now.setting.space in
    let guide = c.args.session.now.guide.now in
    subst (IsTrueHalt (system_of space) (class_in space) (g.G.Guide.estimate_of guide) (g.G.Guide.is_dead guide) (g.G.Guide.fits guide) listed_states listed_class listed_width (length (atoms_in (ground_in space))) c.args.pause c.args.session.now.setting.limits.states)
    c.in-Paused.is (halts g (goal.at.returns-in-Paused g c).In_ok-outcome)
