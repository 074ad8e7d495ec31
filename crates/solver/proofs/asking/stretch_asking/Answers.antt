use Rattle.std.proofs.Common.{◌≡◌, ◌∙◌, ℕ, Bool, List, Result, Ok, Err, sym, ap, subst, length, arith}
use Rattle.std.specs.Prelude.{IfOk}
use Rattle.grounding.specs.declared.ground.Ground.{Ground}
use Rattle.grounding.specs.Ground.{task_in, atoms_in}
use Rattle.model.specs.Grounding.{ground_system}
use Rattle.model.specs.Runs.{System}
use Rattle.search_spaces.specs.GroundListing.{listed_class, listed_states, listed_width}
use Rattle.search_spaces.specs.SearchSpace.{class_in, ground_in, system_of}
use Rattle.search_spaces.proofs.TaskLemmas.{classes_reach_alike}
use Rattle.search.specs.Outcome.{AreClassesOf}
use Rattle.search.specs.UnderWay as under_way
use Rattle.search.specs.UnderWay.{store_in}
use Rattle.solver.specs.Stretches.{IsUnderWayBy}
use Rattle.solver.proofs.AnswerLemmas.{most_of_limit}
use Rattle.solver.proofs.asking.stretch_asking.Goals as goal

abbrev means : Ground → System (List Bool) ℕ
means k = ground_system (task_in k) (atoms_in k)

pub go_on_asking-requires-clause-made_for : goal.go_on_asking-requires-clause-made_for
go_on_asking-requires-clause-made_for g c = c.requires.system ∙ ap means (sym c.ground.ensures)

pub go_on_asking-requires-clause-values_for : goal.go_on_asking-requires-clause-values_for
go_on_asking-requires-clause-values_for g c = c.requires.values_system ∙ ap means (sym c.ground.ensures)

pub go_on_asking-requires-clause-guide_width : goal.go_on_asking-requires-clause-guide_width
go_on_asking-requires-clause-guide_width g c = c.requires.width ∙ ap (λ (k : Ground). length (atoms_in k)) (sym c.ground.ensures)

pub go_on_asking-requires-clause-values_width : goal.go_on_asking-requires-clause-values_width
go_on_asking-requires-clause-values_width g c = c.requires.values_width ∙ ap (λ (k : Ground). length (atoms_in k)) (sym c.ground.ensures)

pub go_on_asking-requires-clause-limit : goal.go_on_asking-requires-clause-limit
go_on_asking-requires-clause-limit g c = omega (arith, c.states.ensures, most_of_limit c.args.session.now.setting.limits.states c.args.session.now.setting.limits.states_within)

pub go_on_asking-requires-clause-classes : goal.go_on_asking-requires-clause-classes
go_on_asking-requires-clause-classes g c =
    subst (λ (k : Ground). AreClassesOf (means k) (listed_class (store_in c.args.search))) (sym c.ground.ensures)
    (subst (AreClassesOf (system_of c.args.session.now.setting.space)) (sym c.requires.under_way.holds.store_classes) (classes_reach_alike c.args.session.now.setting.space c.requires.space))

pub go_on_asking-requires-clause-under_way : goal.go_on_asking-requires-clause-under_way
go_on_asking-requires-clause-under_way g c =
    let guide = c.args.session.now.guide.now in
    let space = c.args.session.now.setting.space in
    let estimate = g.G.Guide.estimate_of guide in
    let is_dead = g.G.Guide.is_dead guide in
    let fits = g.G.Guide.fits guide in
    let answers = g.V.ValuesOnDemand.answers in
    subst (λ (k : Ground). under_way.IsUnderWayBy (means k) (listed_class (store_in c.args.search)) estimate is_dead answers fits listed_states listed_class listed_width (length (atoms_in k)) c.states.result c.args.search) (sym c.ground.ensures)
    (subst (λ (class_of : List Bool → List Bool). under_way.IsUnderWayBy (system_of space) class_of estimate is_dead answers fits listed_states listed_class listed_width (length (atoms_in (ground_in space))) c.states.result c.args.search)
    (sym c.requires.under_way.holds.store_classes) (subst (λ (n : ℕ). IsUnderWayBy space estimate is_dead answers fits n c.args.search) (sym c.states.ensures) c.requires.under_way))

-- what follows from what is so where it succeeded
weaker : {X E P Q : Type 0} (result : Result X E) → (P → Q) → IfOk result (λ _. P) → IfOk result (λ _. Q)
weaker (Ok x) f p = f p
weaker (Err e) f p = tt

pub returns-clause-values_system : goal.returns-clause-values_system
returns-clause-values_system g c = weaker c.go_on_asking.result (λ same. same ∙ c.requires.values_system) c.go_on_asking.ensures.values_for

pub returns-clause-values_width : goal.returns-clause-values_width
returns-clause-values_width g c = weaker c.go_on_asking.result (λ same. same ∙ c.requires.values_width) c.go_on_asking.ensures.values_width

pub returns-clause-halt : goal.returns-clause-halt
returns-clause-halt g c =
    let guide = c.args.session.now.guide.now in
    let space = c.args.session.now.setting.space in
    let estimate = g.G.Guide.estimate_of guide in
    let is_dead = g.G.Guide.is_dead guide in
    let fits = g.G.Guide.fits guide in
    let answers = g.V.ValuesOnDemand.answers in
    let result = c.go_on_asking.result in
    subst (λ (n : ℕ). IfOk result (under_way.IsTrueHaltBy (system_of space) (class_in space) estimate is_dead answers fits listed_states listed_class listed_width (length (atoms_in (ground_in space))) c.args.pause n)) c.states.ensures
    (subst (λ (class_of : List Bool → List Bool). IfOk result (under_way.IsTrueHaltBy (system_of space) class_of estimate is_dead answers fits listed_states listed_class listed_width (length (atoms_in (ground_in space))) c.args.pause c.states.result))
    c.requires.under_way.holds.store_classes
    (subst (λ (k : Ground). IfOk result (under_way.IsTrueHaltBy (means k) (listed_class (store_in c.args.search)) estimate is_dead answers fits listed_states listed_class listed_width (length (atoms_in k)) c.args.pause c.states.result)) c.ground.ensures
    c.go_on_asking.ensures.halt))
