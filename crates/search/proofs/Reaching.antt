-- A state is reached by an action, with the value that it stands on.
use Rattle.std.proofs.Common.{◌≡◌, ℕ, ◌+◌, ◌<◌, ◌≤◌, ◌≢◌, ◌⊎◌, inl, inr, List, ◌∷◌, [], ◌++◌, length, set, Bool, Option, Some, None, true, false, refl, sym, ap, ◌∙◌, subst, arith}
use Rattle.std.specs.Prelude.{slice_get, Contains, if◌then◌else◌}
use Rattle.std.proofs.lemmas.Bool.{false≢true}
use Rattle.std.proofs.lemmas.Option.{same_Some, slice_get_within}
use Rattle.model.proofs.ListLemmas.{Contains-got}
use Rattle.model.specs.Runs.{System}
use Rattle.search.specs.declared.bases.Bases.{Bases}
use Rattle.search.specs.declared.listing.Place.{Place}
use Rattle.search.specs.declared.listing.Place.TheVariants.{New, Listed, Alike}
use Rattle.search.specs.declared.nodes.Node.{Node}
use Rattle.search.specs.declared.bases.Rest.{Rest}
use Rattle.search.specs.declared.progress.Progress.{Progress}
use Rattle.search.specs.declared.turns.Standing.{Standing}
use Rattle.search.specs.declared.turns.Standing.TheVariants.{Dead, Based}
use Rattle.search.specs.Estimates.{IsAdmissible}
use Rattle.search.specs.DeadEnds.{ReportsDeadEnds, IsValueUnlessDead}
use Rattle.search.specs.Listing.{IsPlacedBy}
use Rattle.search.specs.Outcome.{is_expanded_status, is_dead_status, is_marked_dead}
use Rattle.search.specs.Nodes.{status_of_reached, status_again, parent_of, Found, found_of, dearest, AreSingle, AreNodes, AreClosedBut, IsTurn}
use Rattle.search.specs.OnDemand.{noted_at, IsNoted, IsRestOf, value_on, AreValued, HoldsBy}
use Rattle.search.specs.OpenList.{waiting_in, IsOpenList}
use Rattle.search.specs.Progress.{IsReachedCheaper, TakesPlace}
use Rattle.search.specs.Standing.{rest_value, IsEstimateBy, IsStandingAt}
use Rattle.search.proofs.Linked.{length-found_of, found_of-get, get-found_of, after_new, after_cheaper, after_replaced, cases_push, cases_set, set_was}
use Rattle.search.proofs.NodesLemmas.{Stepped}
use Rattle.search.proofs.Raised.{nodes_alike, turn_alike}
use Rattle.search.proofs.Reached.{IsChild, taken}
use Rattle.search.proofs.Steps.{marked_by}
use Rattle.search.proofs.Updated.{with_other}
use Rattle.search.proofs.Valued.{valued_same, new_value, new_dead, reported_new, valued_new}

-- the node is that of a state to which its action leads from the one that is being expanded, and which has this estimate
pub record IsStepTo (t : System (List Bool) ℕ) (one : Found (List Bool)) (i : ℕ) (s : List Bool) (now : Node) (result : Option ℕ) : Type 0 where
  pub status : now.status ≡ status_of_reached result
  pub parent : parent_of now ≡ i
  pub cost : now.cost ≡ one.node.cost + t.cost now.action
  pub affordable : t.cost now.action ≤ dearest
  pub step : t.step one.state now.action ≡ Some s

child_of : (t : System (List Bool) ℕ) (value : List Bool → ℕ) (is_dead : List Bool → Bool) (one : Found (List Bool)) (i : ℕ) (s : List Bool) (now : Node) (result : Option ℕ)
    → IsStepTo t one i s now result → IsValueUnlessDead value is_dead s result → IsChild t value is_dead one i s now
child_of t value is_dead one i s now result step of =
    let marks = marked_by value is_dead s result of in
    record {
      waits = ap is_expanded_status step.status ∙ marks.0;
      parent = step.parent;
      cost = step.cost;
      affordable = step.affordable;
      step = step.step;
      reported = ap is_dead_status step.status ∙ marks.1;
    }

-- all that the search keeps by these values once the state is reached
pub record HasReached {Store : Type 0} (t : System (List Bool) ℕ) (class_of : List Bool → List Bool) (value : List Bool → ℕ) (is_dead : List Bool → Bool) (states_of : Store → List (List Bool)) (states : List (List Bool))
    (old new : Progress Store) (i max_states a : ℕ) (s : List Bool) : Type 0 where
  pub each : length new.nodes.items ≡ length (states_of new.store)
  pub stepped : Stepped t class_of value is_dead (found_of states old.nodes.items) (found_of (states_of new.store) new.nodes.items) (waiting_in new.open_list) i a s
  pub within : length (states_of new.store) ≤ max_states
  pub heap : IsOpenList old.open_list → IsOpenList new.open_list
  pub single : AreSingle (waiting_in old.open_list) → AreSingle (waiting_in new.open_list)
  pub noted : noted_at new.bases i ≡ noted_at old.bases i

-- what a listed state stands on gives it the value by which the search stands
listed_value : (t : System (List Bool) ℕ) (estimate : List Bool → ℕ) (reported : List Bool → Bool) (answers : Bool) (nodes : List (Found (List Bool))) (bases : Bases) (value : List Bool → ℕ) (is_dead : List Bool → Bool)
    → AreValued t estimate reported answers nodes bases value is_dead → (k : ℕ) (n : Found (List Bool)) → slice_get nodes k ≡ Some n → is_dead n.state ≡ false
    → (result : Option ℕ) → IsValueUnlessDead (value_on estimate (noted_at bases k)) reported n.state result → IsValueUnlessDead value is_dead n.state result
listed_value t estimate reported answers nodes bases value is_dead valued k n at alive None dead = absurd (false≢true (sym (valued.alive k n at alive) ∙ dead))
listed_value t estimate reported answers nodes bases value is_dead valued k n at alive (Some e) (living, is, fits) = (alive, is ∙ sym (valued.value_is k n at alive), fits)

module _ {Store : Type 0} (t : System (List Bool) ℕ) (class_of : List Bool → List Bool) (estimate : List Bool → ℕ) (reported : List Bool → Bool) (answers : Bool) (states_of : Store → List (List Bool)) (states : List (List Bool))
    (old new : Progress Store) (i max_states : ℕ) (one_each : length old.nodes.items ≡ length states) (value : List Bool → ℕ) (is_dead : List Bool → Bool)
    (valued : AreValued t estimate reported answers (found_of states old.nodes.items) old.bases value is_dead)
    (nodes : AreNodes t class_of value is_dead (found_of states old.nodes.items) (waiting_in old.open_list)) (turn : IsTurn t value (found_of states old.nodes.items) i)
    (others : AreClosedBut t class_of (found_of states old.nodes.items) i) (admissible : IsAdmissible t estimate) (reports : ReportsDeadEnds t reported)
    (is_current : ℕ → Type 0) (s : List Bool) (now : Node) (result : Option ℕ) (step : IsStepTo t turn.found i s now result) (within : length states ≤ max_states) where
  abbrev found : List (Found (List Bool))
  found = found_of states old.nodes.items

  abbrev after : List (Found (List Bool))
  after = found_of (states_of new.store) new.nodes.items

  abbrev m : Found (List Bool)
  m = record { state = s; node = now }

  -- the state is reached by these values
  abbrev IsReached : (List Bool → ℕ) → (List Bool → Bool) → Type 0
  IsReached v d = HasReached t class_of v d states_of states old new i max_states now.action s

  -- the place of the parent is not one that is reached at less
  parent_elsewhere : (place : ℕ) (node : Node) → slice_get old.nodes.items place ≡ Some node → now.cost < node.cost → i ≢ place
  parent_elsewhere place node at cheaper is =
      let same : turn.found.node ≡ node = same_Some turn.found.node node (sym (found_of-get states old.nodes.items i turn.found turn.occurs).1 ∙ ap (slice_get old.nodes.items) is ∙ at) in
      absurd (omega (arith, ap (λ (r : Node). r.cost) same, step.cost, cheaper))

  parent_before : (place : ℕ) → place ≡ length states → i ≢ place
  parent_before place last is = absurd (omega (arith, is, last, slice_get_within states i turn.found.state (found_of-get states old.nodes.items i turn.found turn.occurs).0))

  -- a state that was not listed is at this place now
  reached_anew : (rest : Rest) (right : IsRestOf answers t s rest.value) (place : Place) → IsPlacedBy class_of is_current states (states_of old.store) s max_states (Some place) → IsReachedCheaper old.nodes.items now.cost place
      → (is_new : ¬ Contains states s) → IsValueUnlessDead (value_on estimate rest.value) reported s result → TakesPlace states_of old new s now result rest max_states place
      → (j : ℕ) → IsNoted old.bases new.bases j rest.value → i ≢ j
      → ((k : ℕ) (n : Found (List Bool)) → slice_get after k ≡ Some n → ((k ≡ j) × (n.state ≡ s)) ⊎ ((k ≢ j) × (slice_get found k ≡ Some n)))
      → HoldsBy t estimate reported answers after new.bases IsReached
  reached_anew rest right place placed cheaper is_new of takes j noted elsewhere cases =
      let other : (k : ℕ) (n : Found (List Bool)) → slice_get found k ≡ Some n → n.state ≢ s =
      λ k n at is. is_new (subst (λ (x : List Bool). Contains states x) is (Contains-got states k n.state (found_of-get states old.nodes.items k n at).0)) in
      let v : List Bool → ℕ = new_value t estimate reported answers value is_dead s found old.bases valued other rest.value right admissible reports in
      let d : List Bool → Bool = new_dead t estimate reported answers value is_dead s found old.bases valued other rest.value right admissible reports in
      let of' : IsValueUnlessDead v d s result = reported_new t estimate reported answers value is_dead s found old.bases valued other rest.value right admissible reports result of in
      let same : (k : ℕ) (n : Found (List Bool)) → slice_get found k ≡ Some n → v n.state ≡ value n.state = λ k n at. with_other value s (value_on estimate rest.value s) n.state (other k n at) in
      let same_dead : (k : ℕ) (n : Found (List Bool)) → slice_get found k ≡ Some n → d n.state ≡ is_dead n.state = λ k n at. with_other is_dead s (reported s) n.state (other k n at) in
      let nodes' = nodes_alike value v is_dead d found same same_dead t class_of (waiting_in old.open_list) nodes in
      let turn' = turn_alike value v is_dead d found same same_dead t i turn in
      let is = taken t class_of v d states_of states old new i max_states one_each nodes' turn' others is_current s now (child_of t v d turn.found i s now result step of') result of' rest
      within place placed cheaper takes in
      record {
        value = v;
        is_dead = d;
        valued = valued_new t estimate reported answers value is_dead s found old.bases valued other rest.value right admissible reports after new.bases j noted cases;
        holds = record { each = is.each; stepped = is.stepped; within = is.within; heap = is.heap; single = is.single; noted = noted.others i elsewhere };
      }

  -- what it stands on is what it rests on
  right_of : (rest : Rest) (standing : Standing) → rest.value ≡ rest_value standing → (other : Rest) → IsRestOf answers t s other.value → standing ≡ Based other → IsRestOf answers t s rest.value
  right_of rest standing same other right is = subst (IsRestOf answers t s) (sym (same ∙ ap rest_value is)) right

  estimate_of : (rest : Rest) (standing : Standing) → rest.value ≡ rest_value standing → (other : Rest) → standing ≡ Based other → IsEstimateBy estimate reported s standing result
      → IsValueUnlessDead (value_on estimate rest.value) reported s result
  estimate_of rest standing same other is of =
      subst (λ (v : ℕ). IsValueUnlessDead (value_on estimate v) reported s result) (sym (same ∙ ap rest_value is)) (subst (λ (x : Standing). IsEstimateBy estimate reported s x result) is of)

  pub reached_placed : (place : Place) → IsPlacedBy class_of is_current states (states_of old.store) s max_states (Some place) → IsReachedCheaper old.nodes.items now.cost place
      → (standing : Standing) → IsStandingAt answers t old.nodes.items old.bases s place standing → IsEstimateBy estimate reported s standing result
      → (rest : Rest) → rest.value ≡ rest_value standing → TakesPlace states_of old new s now result rest max_states place → HoldsBy t estimate reported answers after new.bases IsReached
  reached_placed (New place) placed cheaper standing (other, right, is) of rest same takes =
      let at_end : place ≡ length found = placed.3 ∙ sym (length-found_of states old.nodes.items one_each) in
      let grown = after_new states old.nodes.items s now (states_of new.store) new.nodes.items one_each (takes.states ∙ placed.2) takes.nodes in
      reached_anew rest (right_of rest standing same other right is) (New place) placed cheaper placed.0 (estimate_of rest standing same other is of) takes place takes.bases (parent_before place placed.3)
      (λ k n at. cases_push found m place at_end k n (ap (λ (ns : List (Found (List Bool))). slice_get ns k) (sym grown) ∙ at))
  reached_placed (Alike place) placed cheaper standing (other, right, is) of rest same (inl replaces) =
      let n : Found (List Bool) = record { state = placed.1.other; node = replaces.other } in
      let stood : slice_get found place ≡ Some n = get-found_of states old.nodes.items place placed.1.other replaces.other placed.1.there replaces.there in
      let put = after_replaced states old.nodes.items s now (states_of new.store) new.nodes.items place n stood (replaces.states ∙ ap (λ (ss : List (List Bool)). set ss place s) placed.3) replaces.nodes in
      reached_anew rest (right_of rest standing same other right is) (Alike place) placed cheaper placed.0 (estimate_of rest standing same other is of) (inl replaces) place
      replaces.bases (parent_elsewhere place cheaper.0 cheaper.1 cheaper.2)
      (λ k x at. cases_set found m place n stood k x (ap (λ (ns : List (Found (List Bool))). slice_get ns k) (sym put) ∙ at))
  reached_placed (Alike place) placed cheaper standing (other, right, is) of rest same (inr appends) =
      let last = length old.nodes.items in
      let at_end : last ≡ length found = one_each ∙ sym (length-found_of states old.nodes.items one_each) in
      let grown = after_new states old.nodes.items s now (states_of new.store) new.nodes.items one_each (appends.states ∙ ap (λ (ss : List (List Bool)). ss ++ s ∷ []) placed.3) appends.nodes in
      reached_anew rest (right_of rest standing same other right is) (Alike place) placed cheaper placed.0 (estimate_of rest standing same other is of) (inr appends) last
      appends.bases (parent_before last one_each)
      (λ k n at. cases_push found m last at_end k n (ap (λ (ns : List (Found (List Bool))). slice_get ns k) (sym grown) ∙ at))
  reached_placed (Listed place) placed cheaper standing (node, kept, at, noted, is) of rest same takes =
      let n : Found (List Bool) = record { state = s; node = node } in
      let stood : slice_get found place ≡ Some n = get-found_of states old.nodes.items place s node placed.0 at in
      let marked : is_marked_dead node ≡ is_dead s = nodes.marked place n stood in
      let of' : IsValueUnlessDead value is_dead s result =
      elim (is_dead s) as (λ (b : Bool). is_dead s ≡ b → IsValueUnlessDead value is_dead s result) [
        | true ↦ λ dead.
            let it : standing ≡ Dead = is ∙ ap (λ (b : Bool). if b then Dead else Based kept) (marked ∙ dead) in
            let none : result ≡ None = subst (λ (x : Standing). IsEstimateBy estimate reported s x result) it of in
            subst (λ (r : Option ℕ). IsValueUnlessDead value is_dead s r) (sym none) dead
        | false ↦ λ alive.
            let it : standing ≡ Based kept = is ∙ ap (λ (b : Bool). if b then Dead else Based kept) (marked ∙ alive) in
            listed_value t estimate reported answers found old.bases value is_dead valued place n stood alive result
            (subst (λ (v : ℕ). IsValueUnlessDead (value_on estimate v) reported s result) noted (subst (λ (x : Standing). IsEstimateBy estimate reported s x result) it of))
      ] refl in
      let is_taken = taken t class_of value is_dead states_of states old new i max_states one_each nodes turn others is_current s now (child_of t value is_dead turn.found i s now result step of') result of' rest
      within (Listed place) placed cheaper takes in
      let again : Node = record now { status = status_again takes.known.status result } in
      let put = after_cheaper states old.nodes.items s again (states_of new.store) new.nodes.items place n stood refl (takes.states ∙ placed.1) takes.nodes in
      record {
        value = value;
        is_dead = is_dead;
        valued = valued_same t estimate reported answers found after old.bases new.bases value is_dead (λ k. ap (λ (b : Bases). noted_at b k) takes.bases)
            (λ k x at_x. set_was found (record { state = s; node = again }) place n stood refl k x (ap (λ (ns : List (Found (List Bool))). slice_get ns k) (sym put) ∙ at_x)) valued;
        holds = record { each = is_taken.each; stepped = is_taken.stepped; within = is_taken.within; heap = is_taken.heap; single = is_taken.single; noted = ap (λ (b : Bases). noted_at b i) takes.bases };
      }
