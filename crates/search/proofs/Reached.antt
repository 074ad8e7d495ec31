-- A state is reached from the one that is being expanded: it comes last, or takes a place.
use Rattle.std.proofs.Common.{◌≡◌, ℕ, ◌+◌, ◌<◌, ◌≤◌, inl, inr, List, [], ◌∷◌, ◌++◌, length, set, Bool, Option, None, Some, true, false, refl, sym, ap, ◌∙◌, subst, le_refl, arith}
use Rattle.std.specs.Prelude.{slice_get, Contains, MatchBool}
use Rattle.std.proofs.lemmas.Bool.{false≢true}
use Rattle.std.proofs.lemmas.Option.{same_Some, slice_get_within}
use Rattle.std.proofs.lemmas.List.{length-set, length-append}
use Rattle.std.proofs.Math.Nat.{mul-le-mul_right}
use Rattle.model.proofs.ListLemmas.{Contains-got}
use Rattle.model.specs.Runs.{System}
use Rattle.search.specs.declared.listing.Place.{Place}
use Rattle.search.specs.declared.listing.Place.TheVariants.{New, Listed, Alike}
use Rattle.search.specs.declared.nodes.Node.{Node}
use Rattle.search.specs.declared.nodes.NodeStatus.{NodeStatus}
use Rattle.search.specs.declared.nodes.NodeStatus.TheVariants.{Unexpanded, Reopened, Expanded, Dead}
use Rattle.search.specs.declared.bases.Rest.{Rest}
use Rattle.search.specs.declared.progress.Progress.{Progress}
use Rattle.search.specs.DeadEnds.{IsValueUnlessDead}
use Rattle.search.specs.Listing.{IsAlikeAt, IsPlacedBy}
use Rattle.search.specs.Outcome.{AreOfOneClass, is_expanded_status, is_dead_status, is_expanded, is_marked_dead}
use Rattle.search.specs.Nodes.{Waiting, entry, AreSingle, has_been_expanded_status, has_been_expanded, status_again, parent_of, Found, found_of, dearest, AreNodes, AreClosedBut, IsTurn}
use Rattle.search.specs.OpenList.{waiting_in, IsOpenList}
use Rattle.search.specs.Progress.{IsPlaceAmong, IsFreeFor, IsReachedWithin, IsReachedCheaper, TakesPlace}
use Rattle.search.proofs.Lists.{get-push_new}
use Rattle.search.proofs.Linked.{length-found_of, found_of-get, get-found_of, found_of-push, found_of-set, found_of-replace, updates-push, updates-set}
use Rattle.search.proofs.NodesLemmas.{IsJoined, Stepped, stepped}
use Rattle.search.proofs.Single.{single_joined}
use Rattle.search.proofs.Steps.{joined_by}

-- the node is that of a state to which its action leads from the one that is being expanded
pub record IsChild {S : Type 0} (t : System S ℕ) (value : S → ℕ) (is_dead : S → Bool) (one : Found S) (i : ℕ) (s : S) (now : Node) : Type 0 where
  pub waits : is_expanded now ≡ false
  pub parent : parent_of now ≡ i
  pub cost : now.cost ≡ one.node.cost + t.cost now.action
  pub affordable : t.cost now.action ≤ dearest
  pub step : t.step one.state now.action ≡ Some s
  pub reported : is_marked_dead now ≡ is_dead s

-- how a state is marked that is reached again, by what is reported for it
again_marks : {S : Type 0} (value : S → ℕ) (is_dead : S → Bool) (s : S) (before : NodeStatus) (estimate : Option ℕ) → IsValueUnlessDead value is_dead s estimate
    → (is_expanded_status (status_again before estimate) ≡ false) × (is_dead_status (status_again before estimate) ≡ is_dead s)
again_marks value is_dead s before None dead = (refl, sym dead)
again_marks value is_dead s Unexpanded (Some estimate) of = (refl, sym of.0)
again_marks value is_dead s Reopened (Some estimate) of = (refl, sym of.0)
again_marks value is_dead s Expanded (Some estimate) of = (refl, sym of.0)
again_marks value is_dead s Dead (Some estimate) of = (refl, sym of.0)

-- it has been expanded if it was
again_expanded : {S : Type 0} (value : S → ℕ) (is_dead : S → Bool) (s : S) (before : NodeStatus) (estimate : Option ℕ) → IsValueUnlessDead value is_dead s estimate → is_dead_status before ≡ is_dead s
    → has_been_expanded_status before ≡ true → has_been_expanded_status (status_again before estimate) ≡ true
again_expanded value is_dead s Unexpanded estimate of marked expanded = absurd (false≢true expanded)
again_expanded value is_dead s Dead estimate of marked expanded = absurd (false≢true expanded)
again_expanded value is_dead s Reopened None dead marked expanded = absurd (false≢true (marked ∙ dead))
again_expanded value is_dead s Reopened (Some estimate) of marked expanded = refl
again_expanded value is_dead s Expanded None dead marked expanded = absurd (false≢true (marked ∙ dead))
again_expanded value is_dead s Expanded (Some estimate) of marked expanded = refl

module _ {S : Type 0} (t : System S ℕ) (class_of : S → S) (value : S → ℕ) (is_dead : S → Bool) (states : List S) (all : List Node) (open_list : List Waiting) (i : ℕ)
    (one_each : length all ≡ length states)
    (nodes : AreNodes t class_of value is_dead (found_of states all) open_list) (turn : IsTurn t value (found_of states all) i) (others : AreClosedBut t class_of (found_of states all) i) (s : S) where
  -- all that the step keeps
  abbrev IsStepped : List S → List Node → List Waiting → ℕ → Type 0
  IsStepped states' all' open_list' a = (length all' ≡ length states') × Stepped t class_of value is_dead (found_of states all) (found_of states' all') open_list' i a s

  module _ (now : Node) (child : IsChild t value is_dead turn.found i s now) where
    -- the state comes last
    stepped_last : (¬ Contains states s) → (open_list' : List Waiting) → IsJoined (is_dead s) (entry now.cost (value s) (length states)) open_list open_list'
        → Stepped t class_of value is_dead (found_of states all) (found_of (states ++ s ∷ []) (all ++ now ∷ [])) open_list' i now.action s
    stepped_last is_new open_list' joins =
        let m : Found S = record { state = s; node = now } in
        let place : length (found_of states all) ≡ length states = length-found_of states all one_each in
        let updates = updates-push class_of (found_of states all) m child.waits
        (λ k n at same. is_new (subst (λ x. Contains states x) same (Contains-got states k n.state (found_of-get states all k n at).0))) in
        let joins' : IsJoined (is_dead s) (entry now.cost (value s) (length (found_of states all))) open_list open_list' = subst (λ p. IsJoined (is_dead s) (entry now.cost (value s) p) open_list open_list') (sym place) joins in
        subst (λ after. Stepped t class_of value is_dead (found_of states all) after open_list' i now.action s) (sym (found_of-push states all s now one_each))
        (stepped class_of (found_of states all) (found_of states all ++ m ∷ []) (length (found_of states all)) m updates t value is_dead i turn open_list nodes child.parent child.cost open_list' others
        (omega (arith, child.cost, child.affordable, nodes.cheap i turn.found turn.occurs, length-append (found_of states all) (m ∷ []))) child.step child.reported joins')

    stepped_new : (¬ Contains states s) → (states' : List S) (all' : List Node) (place : ℕ) (open_list' : List Waiting)
        → states' ≡ states ++ s ∷ [] → all' ≡ all ++ now ∷ [] → place ≡ length states
        → IsJoined (is_dead s) (entry now.cost (value s) place) open_list open_list' → IsStepped states' all' open_list' now.action
    stepped_new is_new states' all' place open_list' is_states is_all at_end joins =
        let joins' : IsJoined (is_dead s) (entry now.cost (value s) (length states)) open_list open_list' = subst (λ p. IsJoined (is_dead s) (entry now.cost (value s) p) open_list open_list') at_end joins in
        let same : found_of states' all' ≡ found_of (states ++ s ∷ []) (all ++ now ∷ []) = cc in
        let count_states : length states' ≡ length states + 1 = ap length is_states ∙ length-append states (s ∷ []) in
        let count_all : length all' ≡ length all + 1 = ap length is_all ∙ length-append all (now ∷ []) in (
          omega (arith, count_states, count_all, one_each),
          subst (λ after. Stepped t class_of value is_dead (found_of states all) after open_list' i now.action s) (sym same) (stepped_last is_new open_list' joins'),
        )

    -- the state is reached at less than the one at its place, which is the same or one of its class that was never expanded
    module _ (j : ℕ) (n : Found S) (stood : slice_get (found_of states all) j ≡ Some n) (alike : AreOfOneClass class_of s n.state)
        (same : has_been_expanded n.node ≡ true → (s ≡ n.state) × (has_been_expanded now ≡ true)) (cheaper : now.cost < n.node.cost)
        (only : (k : ℕ) (x : Found S) → slice_get (found_of states all) k ≡ Some x → x.state ≡ s → k ≡ j) where
      stepped_at : (open_list' : List Waiting) → IsJoined (is_dead s) (entry now.cost (value s) j) open_list open_list'
          → Stepped t class_of value is_dead (found_of states all) (set (found_of states all) j (record { state = s; node = now })) open_list' i now.action s
      stepped_at open_list' joins =
          let m : Found S = record { state = s; node = now } in
          let updates = updates-set class_of (found_of states all) j n m stood child.waits alike same cheaper only in
          stepped class_of (found_of states all) (set (found_of states all) j m) j m updates t value is_dead i turn open_list nodes child.parent child.cost open_list' others
          (omega (arith, cheaper, nodes.cheap j n stood, mul-le-mul_right dearest updates.longer)) child.step child.reported joins

      -- it was there
      stepped_cheaper : s ≡ n.state → (states' : List S) (all' : List Node) (open_list' : List Waiting) → states' ≡ states → all' ≡ set all j now
          → IsJoined (is_dead s) (entry now.cost (value s) j) open_list open_list' → IsStepped states' all' open_list' now.action
      stepped_cheaper is states' all' open_list' is_states is_all joins =
          let after : found_of states' all' ≡ set (found_of states all) j (record { state = s; node = now }) =
          ap (λ ss. found_of ss all') is_states ∙ ap (found_of states) is_all ∙ found_of-set states all j n now stood
          ∙ ap (λ (x : S). set (found_of states all) j (record { state = x; node = now })) (sym is) in
          let count_states : length states' ≡ length states = ap length is_states in
          let count_all : length all' ≡ length all = ap length is_all ∙ length-set all j now in (
            omega (arith, count_states, count_all, one_each),
            subst (λ ns. Stepped t class_of value is_dead (found_of states all) ns open_list' i now.action s) (sym after) (stepped_at open_list' joins),
          )

      -- it takes the place
      stepped_replaced : (states' : List S) (all' : List Node) (open_list' : List Waiting) → states' ≡ set states j s → all' ≡ set all j now
          → IsJoined (is_dead s) (entry now.cost (value s) j) open_list open_list' → IsStepped states' all' open_list' now.action
      stepped_replaced states' all' open_list' is_states is_all joins =
          let after : found_of states' all' ≡ set (found_of states all) j (record { state = s; node = now }) =
          ap (λ ss. found_of ss all') is_states ∙ ap (found_of (set states j s)) is_all ∙ found_of-replace states all j n s now stood in
          let count_states : length states' ≡ length states = ap length is_states ∙ length-set states j s in
          let count_all : length all' ≡ length all = ap length is_all ∙ length-set all j now in (
            omega (arith, count_states, count_all, one_each),
            subst (λ ns. Stepped t class_of value is_dead (found_of states all) ns open_list' i now.action s) (sym after) (stepped_at open_list' joins),
          )

  -- a state of its class is found already, at no higher cost
  stepped_known : (a cost : ℕ) → cost ≡ turn.found.node.cost + t.cost a → (j : ℕ) (n : Found S) → slice_get (found_of states all) j ≡ Some n → AreOfOneClass class_of n.state s → n.node.cost ≤ cost
      → Stepped t class_of value is_dead (found_of states all) (found_of states all) open_list i a s
  stepped_known a cost costs j n stood alike no_dearer =
      record {
        sound = nodes;
        turn = turn;
        others = others;
        continues = record { found = λ _ _ found. found; stays = λ _ at. at; longer = omega arith; less = λ most _. le_refl _ };
        listed = λ x at.
            let same : turn.found ≡ x = same_Some turn.found x (sym turn.occurs ∙ at) in
            (j, n, stood, alike, omega (arith, costs, no_dearer, ap (λ (y : Found S). y.node.cost) same));
      }

  -- where the state is to be listed
  module _ (is_current : ℕ → Type 0) (states' : List S) (max_states : ℕ) where
    -- its place, or that of another of its class, is reached at no more already
    pub reached_before : (a cost : ℕ) → cost ≡ turn.found.node.cost + t.cost a → (place : Place) → IsPlacedBy class_of is_current states states' s max_states (Some place) → IsReachedWithin all cost place
        → (states' ≡ states) × IsStepped states' all open_list a
    reached_before a cost costs (New place) placed reached = absurd (reached)
    reached_before a cost costs (Listed place) (there, stored) (node, at, within) =
        let n : Found S = record { state = s; node = node } in (
          stored,
          (
            one_each ∙ sym (ap length stored),
            subst (λ ss. Stepped t class_of value is_dead (found_of states all) (found_of ss all) open_list i a s) (sym stored)
                (stepped_known a cost costs place n (get-found_of states all place s node there at) refl within),
          ),
        )
    reached_before a cost costs (Alike place) (is_new, alike, current, stored) (node, at, within) =
        let n : Found S = record { state = alike.other; node = node } in (
          stored,
          (
            one_each ∙ sym (ap length stored),
            subst (λ ss. Stepped t class_of value is_dead (found_of states all) (found_of ss all) open_list i a s) (sym stored)
                (stepped_known a cost costs place n (get-found_of states all place alike.other node alike.there at) alike.alike within),
          ),
        )

-- what is known of the place where a state is to be listed
module _ {S : Type 0} (class_of : S → S) (is_current : ℕ → Type 0) (old new : List S) (s : S) (max_states : ℕ) where
  pub place_among : (count : ℕ) → count ≡ length old → length old ≤ max_states → max_states ≤ 16777216 → (place : Place) → IsPlacedBy class_of is_current old new s max_states (Some place) → IsPlaceAmong count place
  place_among count one_each within limit (New place) (is_new, room, is, at_end) = (at_end ∙ sym one_each, omega (arith, one_each, room, limit))
  place_among count one_each within limit (Listed place) (there, is) = (omega (arith, one_each, slice_get_within old place s there), omega (arith, one_each, within, limit))
  place_among count one_each within limit (Alike place) (is_new, alike, current, is) =
      (omega (arith, one_each, slice_get_within old place alike.other alike.there), omega (arith, one_each, within, limit))

  pub placed_within : length old ≤ max_states → (place : Place) → IsPlacedBy class_of is_current old new s max_states (Some place) → length new ≤ max_states
  placed_within within (New place) (is_new, room, is, at_end) = omega (arith, ap length is, length-append old (s ∷ []), room)
  placed_within within (Listed place) (there, is) = omega (arith, ap length is, within)
  placed_within within (Alike place) (is_new, alike, current, is) = omega (arith, ap length is, within)

  -- a state that is not there, though it has a place, changed nothing
  pub placed_nowhere : (¬ Contains new s) → (place : Place) → IsPlacedBy class_of is_current old new s max_states (Some place) → new ≡ old
  placed_nowhere not_listed (New place) (is_new, room, is, at_end) =
      absurd (not_listed (subst (λ (ss : List S). Contains ss s) (sym is) (Contains-got (old ++ s ∷ []) (length old) s (get-push_new old s))))
  placed_nowhere not_listed (Listed place) (there, is) = is
  placed_nowhere not_listed (Alike place) (is_new, alike, current, is) = is

  pub free_for : (class_of' : S → S) → class_of' ≡ class_of → (count : ℕ) → count ≡ length old → (place : Place) → IsPlacedBy class_of is_current old new s max_states (Some place)
      → IsFreeFor class_of' is_current new count s place
  free_for class_of' same count one_each (New place) placed = tt
  free_for class_of' same count one_each (Listed place) placed = tt
  free_for class_of' same count one_each (Alike place) (is_new, alike, current, is) = (
    one_each ∙ sym (ap length is),
    subst (λ (ss : List S). ¬ Contains ss s) (sym is) is_new,
    subst (λ (ss : List S). IsAlikeAt class_of' ss s place) (sym is) (subst (λ (by : S → S). IsAlikeAt by old s place) (sym same) alike),
    current,
  )

-- the first state of a list
pub placed_first : {S : Type 0} (class_of : S → S) (is_current : ℕ → Type 0) (old new : List S) (s : S) (place : Option Place) → old ≡ [] → IsPlacedBy class_of is_current old new s 1 place → new ≡ s ∷ []
placed_first {S} class_of is_current old new s None empty (is_new, full, is) = absurd (omega (arith, full, ap length empty))
placed_first {S} class_of is_current old new s (Some (New place)) empty (is_new, room, is, at_end) = is ∙ ap (λ (ss : List S). ss ++ s ∷ []) empty
placed_first {S} class_of is_current old new s (Some (Listed place)) empty (there, is) =
    absurd (omega (arith, slice_get_within old place s there, ap length empty))
placed_first {S} class_of is_current old new s (Some (Alike place)) empty (is_new, alike, current, is) =
    absurd (omega (arith, slice_get_within old place alike.other alike.there, ap length empty))

-- what follows from either of two
pub match_each : {A B C D : Type 0} (b : Bool) → (A → C) → (B → D) → MatchBool b A B → MatchBool b C D
match_each true f h it = f it
match_each false f h it = h it

-- the state takes its place
module _ {S Store : Type 0} (t : System S ℕ) (class_of : S → S) (value : S → ℕ) (is_dead : S → Bool) (states_of : Store → List S) (states : List S) (old new : Progress Store) (i max_states : ℕ)
    (one_each : length old.nodes.items ≡ length states)
    (nodes : AreNodes t class_of value is_dead (found_of states old.nodes.items) (waiting_in old.open_list)) (turn : IsTurn t value (found_of states old.nodes.items) i)
    (others : AreClosedBut t class_of (found_of states old.nodes.items) i)
    (is_current : ℕ → Type 0) (s : S) (now : Node) (child : IsChild t value is_dead turn.found i s now) (estimate : Option ℕ) (of : IsValueUnlessDead value is_dead s estimate) (rest : Rest) where
  pub record IsTaken : Type 0 where
    pub each : length new.nodes.items ≡ length (states_of new.store)
    pub stepped : Stepped t class_of value is_dead (found_of states old.nodes.items) (found_of (states_of new.store) new.nodes.items) (waiting_in new.open_list) i now.action s
    pub within : length (states_of new.store) ≤ max_states
    pub heap : IsOpenList old.open_list → IsOpenList new.open_list
    pub single : AreSingle (waiting_in old.open_list) → AreSingle (waiting_in new.open_list)

  -- the entry that joins is cheaper than what is at its place
  joins_single : (dead : Bool) (cost estimate place : ℕ) → ((n : Found S) → slice_get (found_of states old.nodes.items) place ≡ Some n → cost < n.node.cost)
      → IsJoined dead (entry cost estimate place) (waiting_in old.open_list) (waiting_in new.open_list) → AreSingle (waiting_in old.open_list) → AreSingle (waiting_in new.open_list)
  joins_single = single_joined value is_dead (found_of states old.nodes.items) (waiting_in old.open_list) (waiting_in new.open_list) nodes.entries

  last_free : (place : ℕ) → place ≡ length states → (n : Found S) → slice_get (found_of states old.nodes.items) place ≡ Some n → now.cost < n.node.cost
  last_free place at_end n at =
      absurd (omega (arith, slice_get_within (found_of states old.nodes.items) place n at, length-found_of states old.nodes.items one_each, at_end))

  lower_at : (place : ℕ) (node : Node) → slice_get old.nodes.items place ≡ Some node → now.cost < node.cost → (n : Found S) → slice_get (found_of states old.nodes.items) place ≡ Some n → now.cost < n.node.cost
  lower_at place node at_node cheaper n at =
      let same : node ≡ n.node = same_Some node n.node (sym at_node ∙ (found_of-get states old.nodes.items place n at).1) in
      subst (λ (r : Node). now.cost < r.cost) same cheaper

  pub taken : length states ≤ max_states → (place : Place) → IsPlacedBy class_of is_current states (states_of old.store) s max_states (Some place) → IsReachedCheaper old.nodes.items now.cost place
      → TakesPlace states_of old new s now estimate rest max_states place → IsTaken
  taken within (New place) (is_new, room, stored, at_end) cheaper takes =
      let joined = joined_by value is_dead s estimate old.open_list new.open_list now.cost place of takes.open_list in
      let is : states_of new.store ≡ states ++ s ∷ [] = takes.states ∙ stored in
      let step = stepped_new t class_of value is_dead states old.nodes.items (waiting_in old.open_list) i one_each nodes turn others s now child is_new
      (states_of new.store) new.nodes.items place (waiting_in new.open_list) is takes.nodes at_end joined.0 in
      record {
        each = step.0;
        stepped = step.1;
        within = omega (arith, ap length is, length-append states (s ∷ []), room);
        heap = joined.1;
        single = joins_single (is_dead s) now.cost (value s) place (last_free place at_end) joined.0;
      }
  taken within (Listed place) (there, stored) (node, at, cheaper) takes =
      let known = takes.known in
      let again : Node = record now { status = status_again known.status estimate } in
      let marks = again_marks value is_dead s known.status estimate of in
      let child' : IsChild t value is_dead turn.found i s again = record {
        waits = marks.0;
        parent = child.parent;
        cost = child.cost;
        affordable = child.affordable;
        step = child.step;
        reported = marks.1;
      } in
      let n : Found S = record { state = s; node = known } in
      let stood : slice_get (found_of states old.nodes.items) place ≡ Some n = get-found_of states old.nodes.items place s known there takes.there in
      let same_node : node ≡ known = same_Some node known (sym at ∙ takes.there) in
      let joined = joined_by value is_dead s estimate old.open_list new.open_list now.cost place of takes.open_list in
      let is : states_of new.store ≡ states = takes.states ∙ stored in
      let step = stepped_cheaper t class_of value is_dead states old.nodes.items (waiting_in old.open_list) i one_each nodes turn others s again child' place n stood refl
      (λ expanded. (refl, again_expanded value is_dead s known.status estimate of (nodes.marked place n stood) expanded))
      (omega (arith, cheaper, ap (λ (r : Node). r.cost) same_node))
      (λ k x at_x same. nodes.distinct k place x n at_x stood same)
      refl (states_of new.store) new.nodes.items (waiting_in new.open_list) is takes.nodes joined.0 in
      record {
        each = step.0;
        stepped = step.1;
        within = omega (arith, ap length is, within);
        heap = joined.1;
        single = joins_single (is_dead s) now.cost (value s) place (lower_at place node at cheaper) joined.0;
      }
  taken within (Alike place) (is_new, alike, current, stored) (node, at, cheaper) (inl replaces) =
      let other = replaces.other in
      let n : Found S = record { state = alike.other; node = other } in
      let stood : slice_get (found_of states old.nodes.items) place ≡ Some n = get-found_of states old.nodes.items place alike.other other alike.there replaces.there in
      let same_node : node ≡ other = same_Some node other (sym at ∙ replaces.there) in
      let joined = joined_by value is_dead s estimate old.open_list new.open_list now.cost place of replaces.open_list in
      let is : states_of new.store ≡ set states place s = replaces.states ∙ ap (λ (ss : List S). set ss place s) stored in
      let step = stepped_replaced t class_of value is_dead states old.nodes.items (waiting_in old.open_list) i one_each nodes turn others s now child place n stood (sym alike.alike)
      (λ expanded. absurd (false≢true (sym replaces.waits ∙ expanded)))
      (omega (arith, cheaper, ap (λ (r : Node). r.cost) same_node))
      (λ k x at_x same. absurd (is_new (subst (λ (y : S). Contains states y) same (Contains-got states k x.state (found_of-get states old.nodes.items k x at_x).0))))
      (states_of new.store) new.nodes.items (waiting_in new.open_list) is replaces.nodes joined.0 in
      record {
        each = step.0;
        stepped = step.1;
        within = omega (arith, ap length is, length-set states place s, within);
        heap = joined.1;
        single = joins_single (is_dead s) now.cost (value s) place (lower_at place node at cheaper) joined.0;
      }
  taken within (Alike place) (is_new, alike, current, stored) cheaper (inr appends) =
      let joined = joined_by value is_dead s estimate old.open_list new.open_list now.cost (length old.nodes.items) of appends.open_list in
      let is : states_of new.store ≡ states ++ s ∷ [] = appends.states ∙ ap (λ (ss : List S). ss ++ s ∷ []) stored in
      let step = stepped_new t class_of value is_dead states old.nodes.items (waiting_in old.open_list) i one_each nodes turn others s now child is_new
      (states_of new.store) new.nodes.items (length old.nodes.items) (waiting_in new.open_list) is appends.nodes one_each joined.0 in
      record {
        each = step.0;
        stepped = step.1;
        within = omega (arith, ap length is, ap length stored, length-append states (s ∷ []), appends.room);
        heap = joined.1;
        single = joins_single (is_dead s) now.cost (value s) (length old.nodes.items) (last_free (length old.nodes.items) one_each) joined.0;
      }
