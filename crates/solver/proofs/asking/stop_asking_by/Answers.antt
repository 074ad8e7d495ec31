use Rattle.std.proofs.Common.{◌≡◌, ◌≤◌, ℕ, Bool, List, Result, Ok, Err, sym, subst, length}
use Rattle.std.specs.Prelude.{IfOk}
use Rattle.model.specs.Runs.{System}
use Rattle.search_spaces.specs.SearchSpace.{class_in, system_of}
use Rattle.search_spaces.specs.GroundListing.{listed_class, listed_states}
use Rattle.search_spaces.proofs.TaskLemmas.{classes_reach_alike}
use Rattle.search.specs.Nodes.{AreClosed}
use Rattle.search.specs.OnDemand.{AreValued}
use Rattle.search.specs.Outcome.{AreClassesOf}
use Rattle.search.specs.Progress.{HoldsIn, IsSearch, nodes_in}
use Rattle.search.specs.UnderWay.{IsTrueStopBy, store_in}
use Rattle.solver.proofs.asking.stop_asking_by.Goals as goal

pub stop_asking-requires-clause-search : goal.stop_asking-requires-clause-search
stop_asking-requires-clause-search g c =
    let guide = c.args.session.now.guide.now in
    let estimate = g.G.Guide.estimate_of guide in
    let is_dead = g.G.Guide.is_dead guide in
    let answers = g.V.ValuesOnDemand.answers in
    let p = c.args.search.progress in
    let by = c.requires.under_way in
    subst (λ (u : System (List Bool) ℕ). HoldsIn u estimate is_dead answers listed_states p (λ value dead. IsSearch u (listed_class (store_in c.args.search)) value dead listed_states p)) (sym c.requires.system)
    (subst (λ (k : List Bool → List Bool). HoldsIn (system_of c.args.session.now.setting.space) estimate is_dead answers listed_states p (λ value dead. IsSearch (system_of c.args.session.now.setting.space) k value dead listed_states p))
    (sym by.holds.store_classes) (record { value = by.value; is_dead = by.is_dead; valued = by.valued; holds = by.holds.search }))

pub stop_asking-requires-clause-successors : goal.stop_asking-requires-clause-successors
stop_asking-requires-clause-successors g c =
    let p = c.args.search.progress in
    subst (λ (u : System (List Bool) ℕ). AreClosed u (listed_class (store_in c.args.search)) (nodes_in listed_states p)) (sym c.requires.system)
    (subst (λ (k : List Bool → List Bool). AreClosed (system_of c.args.session.now.setting.space) k (nodes_in listed_states p)) (sym c.requires.under_way.holds.store_classes) c.requires.under_way.holds.are_open)

pub stop_asking-requires-clause-classes : goal.stop_asking-requires-clause-classes
stop_asking-requires-clause-classes g c =
    let space = c.args.session.now.setting.space in
    subst (λ (u : System (List Bool) ℕ). AreClassesOf u (listed_class (store_in c.args.search))) (sym c.requires.system)
    (subst (AreClassesOf (system_of space)) (sym c.requires.under_way.holds.store_classes) (classes_reach_alike space c.requires.space))

-- what is so for each limit that is kept is so for this one
for_limit : {X E : Type 0} (P : ℕ → X → Type 0) (result : Result X E) (count limit : ℕ) → IfOk result (λ x. (n : ℕ) → count ≤ n → P n x) → count ≤ limit → IfOk result (P limit)
for_limit P (Ok x) count limit each kept = each limit kept
for_limit P (Err e) count limit each kept = tt

pub returns : goal.returns
returns g c =
    let guide = c.args.session.now.guide.now in
    let space = c.args.session.now.setting.space in
    let estimate = g.G.Guide.estimate_of guide in
    let is_dead = g.G.Guide.is_dead guide in
    let answers = g.V.ValuesOnDemand.answers in
    let most = c.args.session.now.setting.limits.states in
    let result = c.stop_asking.result in
    subst (λ (k : List Bool → List Bool). IfOk result (IsTrueStopBy (system_of space) k estimate is_dead answers listed_states most)) c.requires.under_way.holds.store_classes
    (subst (λ (u : System (List Bool) ℕ). IfOk result (IsTrueStopBy u (listed_class (store_in c.args.search)) estimate is_dead answers listed_states most)) c.requires.system
    (for_limit (IsTrueStopBy (g.G.Guide.system_of guide) (listed_class (store_in c.args.search)) estimate is_dead answers listed_states) result (length (listed_states (store_in c.args.search))) most c.stop_asking.ensures c.requires.under_way.holds.within))
