use Rattle.std.proofs.Common.{◌≡◌, ℕ, Bool, List, sym, subst, length}
use Rattle.model.specs.Runs.{System}
use Rattle.search_spaces.specs.SearchSpace.{class_in, system_of}
use Rattle.search_spaces.specs.GroundListing.{listed_class, listed_states}
use Rattle.search_spaces.specs.declared.ground_listing.GroundListing.{GroundListing}
use Rattle.search_spaces.proofs.TaskLemmas.{classes_reach_alike}
use Rattle.search.specs.Nodes.{AreClosed}
use Rattle.search.specs.Outcome.{AreClassesOf}
use Rattle.search.specs.Progress.{IsSearch, nodes_in}
use Rattle.search.specs.UnderWay.{IsTrueStop, store_in}
use Rattle.search.specs.declared.nodes.FoundStates.{FoundStates}
use Rattle.solver.specs.Guided.{AreMarksOf, CanBeMarked}
use Rattle.solver.proofs.AnswerLemmas.{can_be_marked, searched}
use Rattle.solver.proofs.searched.stop_by.Given.{Over}
use Rattle.solver.proofs.searched.stop_by.Goals as goal
use Rattle.solver.proofs.searched.stop_by.Goals.{In_ok-outcome}

pub stop_at_pause-requires-clause-search : goal.stop_at_pause-requires-clause-search
stop_at_pause-requires-clause-search g c =
    let guide = c.args.session.now.guide.now in
    let estimate = g.G.Guide.estimate_of guide in
    let is_dead = g.G.Guide.is_dead guide in
    let p = c.args.search.progress in
    subst (λ (u : System (List Bool) ℕ). IsSearch u (listed_class (store_in c.args.search)) estimate is_dead listed_states p) (sym c.requires.system)
    (subst (λ (k : List Bool → List Bool). IsSearch (system_of c.args.session.now.setting.space) k estimate is_dead listed_states p) (sym c.requires.under_way.store_classes) c.requires.under_way.search)

pub stop_at_pause-requires-clause-successors : goal.stop_at_pause-requires-clause-successors
stop_at_pause-requires-clause-successors g c =
    let p = c.args.search.progress in
    subst (λ (u : System (List Bool) ℕ). AreClosed u (listed_class (store_in c.args.search)) (nodes_in listed_states p)) (sym c.requires.system)
    (subst (λ (k : List Bool → List Bool). AreClosed (system_of c.args.session.now.setting.space) k (nodes_in listed_states p)) (sym c.requires.under_way.store_classes) c.requires.under_way.are_open)

pub stop_at_pause-requires-clause-classes : goal.stop_at_pause-requires-clause-classes
stop_at_pause-requires-clause-classes g c =
    let space = c.args.session.now.setting.space in
    subst (λ (u : System (List Bool) ℕ). AreClassesOf u (listed_class (store_in c.args.search))) (sym c.requires.system)
    (subst (AreClassesOf (system_of space)) (sym c.requires.under_way.store_classes) (classes_reach_alike space c.requires.space))

-- what the stop shows is told in terms of the space
shows : (g : Over) (c : In_ok-outcome g) → IsTrueStop (system_of c.args.session.now.setting.space) (class_in c.args.session.now.setting.space) (g.G.Guide.estimate_of c.args.session.now.guide.now) (g.G.Guide.is_dead c.args.session.now.guide.now) listed_states
    c.args.session.now.setting.limits.states c.in_ok-outcome.field-0
shows g c =
    let guide = c.args.session.now.guide.now in
    let space = c.args.session.now.setting.space in
    let estimate = g.G.Guide.estimate_of guide in
    let is_dead = g.G.Guide.is_dead guide in
    let most = c.args.session.now.setting.limits.states in
    let stop = c.in_ok-outcome.field-0 in
    subst (λ (k : List Bool → List Bool). IsTrueStop (system_of space) k estimate is_dead listed_states most stop) c.requires.under_way.store_classes
    (subst (λ (u : System (List Bool) ℕ). IsTrueStop u (listed_class (store_in c.args.search)) estimate is_dead listed_states most stop) c.requires.system
    (c.in_ok-outcome.ensures most c.requires.under_way.within))

-- ---- no state waits

pub marks-requires : goal.marks-requires
marks-requires g c =
    let space = c.args.session.now.setting.space in
    let guide = c.args.session.now.guide.now in
    let estimate = g.G.Guide.estimate_of guide in
    let is_dead = g.G.Guide.is_dead guide in
    let is =
    subst (IsTrueStop (system_of space) (class_in space) estimate is_dead listed_states c.args.session.now.setting.limits.states) c.in-Ended.is (shows g (goal.at.marks-requires g c).In_ok-outcome) in
    subst (λ (f : FoundStates GroundListing). length f.estimates.items ≡ length f.nodes.items) (sym c.found_in.ensures)
    (can_be_marked space estimate is_dead c.args.session.now.setting.limits c.in-Ended.outcome is.0 is.1).estimates.0

pub returns-in_ok-marks-in-Ended : goal.returns-in_ok-marks-in-Ended
returns-in_ok-marks-in-Ended g c =
    let space = c.args.session.now.setting.space in
    let guide = c.args.session.now.guide.now in
    let estimate = g.G.Guide.estimate_of guide in
    let is_dead = g.G.Guide.is_dead guide in
    let outcome = c.in-Ended.outcome in
    let is =
    subst (IsTrueStop (system_of space) (class_in space) estimate is_dead listed_states c.args.session.now.setting.limits.states) c.in-Ended.is (shows g (goal.at.returns-in_ok-marks-in-Ended g c).In_ok-outcome) in
    let marks = c.in_ok-marks-in-Ended.marks.items in
    searched space estimate is_dead c.args.session.now.setting.limits outcome is.0 (g.G.Guide.system_of guide) c.requires.system (g.met.G.Guide.is_admissible guide) (g.met.G.Guide.reports_dead_ends guide) marks
    ((subst (λ (f : FoundStates GroundListing). CanBeMarked estimate is_dead f → AreMarksOf estimate is_dead f marks) c.found_in.ensures (c.in_ok-marks-in-Ended.ensures estimate is_dead))
    (can_be_marked space estimate is_dead c.args.session.now.setting.limits outcome is.0 is.1))

-- ---- states wait

pub marks-requires-in-Waiting : goal.marks-requires-in-Waiting
marks-requires-in-Waiting g c =
    let space = c.args.session.now.setting.space in
    let guide = c.args.session.now.guide.now in
    let is =
    subst (IsTrueStop (system_of space) (class_in space) (g.G.Guide.estimate_of guide) (g.G.Guide.is_dead guide) listed_states c.args.session.now.setting.limits.states) c.in-Waiting.is (shows g (goal.at.marks-requires-in-Waiting g c).In_ok-outcome) in
    is.2.0

pub returns-in_ok-marks-in-Waiting : goal.returns-in_ok-marks-in-Waiting
returns-in_ok-marks-in-Waiting g c =
    let space = c.args.session.now.setting.space in
    let guide = c.args.session.now.guide.now in
    let estimate = g.G.Guide.estimate_of guide in
    let is_dead = g.G.Guide.is_dead guide in
    let is =
    subst (IsTrueStop (system_of space) (class_in space) estimate is_dead listed_states c.args.session.now.setting.limits.states) c.in-Waiting.is (shows g (goal.at.returns-in_ok-marks-in-Waiting g c).In_ok-outcome) in
    let can : CanBeMarked estimate is_dead c.in-Waiting.states = record { one_for_each = is.1.found.one_for_each; marked = is.1.found.marked; estimates = is.2 } in (
      c.requires.limited,
      record { within_limit = is.0; at_limit = is.1; marked = c.in_ok-marks-in-Waiting.ensures estimate is_dead can },
    )
