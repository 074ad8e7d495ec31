use Rattle.std.proofs.Common.{◌∙◌, ◌≤◌, ℕ, Bool, List, Result, Ok, Err, sym, ap, subst, length}
use Rattle.std.specs.Prelude.{nat_le, IfOk}
use Rattle.std.proofs.lemmas.Bool.{and_parts, leb-true}
use Rattle.grounding.specs.declared.ground.Ground.{Ground}
use Rattle.grounding.specs.Ground.{task_in, atoms_in}
use Rattle.model.specs.Grounding.{ground_system}
use Rattle.model.specs.Runs.{System}
use Rattle.search_spaces.specs.GroundListing.{listed_class, listed_states, listed_width}
use Rattle.search_spaces.specs.SearchSpace.{class_in}
use Rattle.search.specs.UnderWay as under_way
use Rattle.solver.specs.Stretches.{IsUnderWayBy}
use Rattle.solver.proofs.asking.begin_asking_by.Goals as goal

abbrev means : Ground → System (List Bool) ℕ
means k = ground_system (task_in k) (atoms_in k)

pub begin_asking-requires-clause-made_for : goal.begin_asking-requires-clause-made_for
begin_asking-requires-clause-made_for g c = c.requires.system ∙ ap means (sym c.ground.ensures)

pub begin_asking-requires-clause-guide_width : goal.begin_asking-requires-clause-guide_width
begin_asking-requires-clause-guide_width g c = c.requires.width ∙ ap (λ (k : Ground). length (atoms_in k)) (sym c.ground.ensures)

pub begin_asking-requires-clause-width : goal.begin_asking-requires-clause-width
begin_asking-requires-clause-width g c = c.in_ok-listing.ensures.width ∙ ap (λ (k : Ground). length (atoms_in k)) (sym c.ground.ensures)

-- what is so for each limit of at least one state is so for this one
for_limit : {X E : Type 0} (P : ℕ → X → Type 0) (result : Result X E) (limit : ℕ) → IfOk result (λ x. (n : ℕ) → 1 ≤ n → P n x) → 1 ≤ limit → IfOk result (P limit)
for_limit P (Ok x) limit each some = each limit some
for_limit P (Err e) limit each some = tt

pub returns : goal.returns
returns g c =
    let guide = c.args.session.now.guide.now in
    let estimate = g.G.Guide.estimate_of guide in
    let is_dead = g.G.Guide.is_dead guide in
    let fits = g.G.Guide.fits guide in
    let answers = g.V.ValuesOnDemand.answers in
    let space = c.args.session.now.setting.space in
    let limit = c.args.session.now.setting.limits.states in
    let some = leb-true 1 limit (and_parts (nat_le 1 limit) (nat_le limit 16777216) c.args.session.now.setting.limits.states_within).0 in
    for_limit (IsUnderWayBy space estimate is_dead answers fits) c.begin_asking.result limit
    (subst (λ (k : Ground). IfOk c.begin_asking.result (λ s. (n : ℕ) → 1 ≤ n
    → under_way.IsUnderWayBy (means k) (class_in space) estimate is_dead answers fits listed_states listed_class listed_width (length (atoms_in k)) n s)) c.ground.ensures
    (subst (λ (class_of : List Bool → List Bool). IfOk c.begin_asking.result (λ s. (n : ℕ) → 1 ≤ n
    → under_way.IsUnderWayBy (means c.ground.result.now) class_of estimate is_dead answers fits listed_states listed_class listed_width (length (atoms_in c.ground.result.now)) n s))
    c.in_ok-listing.ensures.class c.begin_asking.ensures)) some
