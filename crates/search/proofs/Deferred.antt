-- The state whose turn it is gets another value, or is dead: it is not expanded now.
use Rattle.std.proofs.Common.{◌≡◌, ℕ, ◌+◌, ◌-◌, ◌*◌, ◌<◌, ◌≤◌, ◌≢◌, List, ◌∷◌, length, set, Bool, Some, true, false, refl, sym, ap, ◌∙◌, subst, arith}
use Rattle.std.specs.Prelude.{◌^◌, slice_get, slice_set, IsPermutation}
use Rattle.std.proofs.lemmas.List.{length-set}
use Rattle.std.proofs.lemmas.Option.{same_Some}
use Rattle.model.specs.Runs.{System}
use Rattle.search.specs.declared.nodes.NodeStatus.TheVariants as status
use Rattle.search.specs.declared.on_demand.Answer.TheVariants.{Raised, Dead}
use Rattle.search.specs.declared.on_demand.Basis.{Basis}
use Rattle.search.specs.declared.progress.Progress.{Progress}
use Rattle.search.specs.declared.turns.Turn.{Turn}
use Rattle.search.specs.Nodes.{Waiting, entry, Found, found_of, dearest, has_been_expanded, work_left, AreSingle, AreNodes, AreClosed, marked, marked_as}
use Rattle.search.specs.OnDemand.{IsAnswer, IsNoted, AreValued}
use Rattle.search.specs.OpenList.{waiting_in, IsOpenList, Joins}
use Rattle.search.specs.declared.buffers.Buffers.{Buffers}
use Rattle.search.specs.Progress.{HoldsIn, IsAtTurn, Defers, Expands, TurnsOver, nodes_in}
use Rattle.search.proofs.Linked.{found_of-get, found_of-set, set_was}
use Rattle.search.proofs.Lists.{get-set_here, get-set_other}
use Rattle.search.proofs.Raised.{nodes_raised, nodes_dead, open_dead}
use Rattle.search.proofs.Single.{single_cons, single_permutation}
use Rattle.search.proofs.Valued.{valued_same, raised, raised_is, differs_raised, valued_raised, buried, buried_is, differs_buried, valued_buried}
use Rattle.search.proofs.Work.{less_by_ask, less_by_work, work_same}

-- the sum by a greater value fits
pub raised_fits : (sum estimate cost value count higher : ℕ) → sum ≡ cost + value → estimate ≡ value → cost ≤ count * dearest → count ≤ 16777216 → higher < 2 ^ 63 → (estimate ≤ sum) × (sum - estimate + higher < 2 ^ 64)
raised_fits sum estimate cost value count higher is_sum is_estimate cheap few fits = (omega (arith, is_sum, is_estimate), omega (arith, is_sum, is_estimate, cheap, few, fits))

module _ {Store : Type 0} (t : System (List Bool) ℕ) (class_of : List Bool → List Bool) (estimate : List Bool → ℕ) (reported : List Bool → Bool) (answers : Bool) (states_of : Store → List (List Bool))
    (old new : Progress Store) (turn : Turn)
    (by : HoldsIn t estimate reported answers states_of old (λ value is_dead. IsAtTurn t class_of value is_dead states_of old turn)) (are_open : AreClosed t class_of (nodes_in states_of old))
    (s : List Bool) (state : slice_get (states_of old.store) turn.id.0 ≡ Some s)
    (fresh : has_been_expanded by.holds.found.node ≡ false) (stored : states_of new.store ≡ states_of old.store) where
  abbrev i : ℕ
  i = turn.id.0

  abbrev one : Found (List Bool)
  one = by.holds.found

  abbrev nodes : List (Found (List Bool))
  nodes = nodes_in states_of old

  is_s : one.state ≡ s
  is_s = same_Some one.state s (sym (found_of-get (states_of old.store) old.nodes.items i one by.holds.occurs).0 ∙ state)

  only : (k : ℕ) (n : Found (List Bool)) → slice_get nodes k ≡ Some n → n.state ≡ s → k ≡ i
  only k n at same = by.holds.nodes.distinct k i n one at by.holds.occurs (same ∙ sym is_s)

  alive : by.is_dead s ≡ false
  alive = ap by.is_dead (sym is_s) ∙ by.holds.waits.1

  its_cost : turn.sum - turn.estimate ≡ one.node.cost
  its_cost = omega (arith, by.holds.sum, by.holds.estimate)

  -- it is raised, and joins the open list again
  pub defers_raised : (basis : Basis) (higher : ℕ) → IsAnswer answers t s turn.estimate (Raised basis higher) → IsNoted old.bases new.bases i higher → new.nodes.items ≡ old.nodes.items
      → Joins old.open_list new.open_list (entry (turn.sum - turn.estimate) higher i)
      → HoldsIn t estimate reported answers states_of new (λ value is_dead. Defers t class_of value is_dead states_of old new)
  defers_raised basis higher (answered, bound, above, fits) noted same_nodes joins =
      let above' : by.value s < higher = omega (arith, above, by.holds.estimate, ap by.value is_s) in
      let v : List Bool → ℕ = raised t estimate reported answers by.value by.is_dead s nodes old.bases new.bases by.valued i one by.holds.occurs is_s only fresh alive answered higher fits noted bound above' in
      let v_is : v one.state ≡ higher = ap v is_s ∙ raised_is t estimate reported answers by.value by.is_dead s nodes old.bases new.bases by.valued i one by.holds.occurs is_s only fresh alive answered higher fits noted bound above' in
      let differs = differs_raised t estimate reported answers by.value by.is_dead s nodes old.bases new.bases by.valued i one by.holds.occurs is_s only fresh alive answered higher fits noted bound above' in
      let first = entry one.node.cost higher i in
      let joined : IsPermutation (first ∷ waiting_in old.open_list) (waiting_in new.open_list) = subst (λ (c : ℕ). IsPermutation (entry c higher i ∷ waiting_in old.open_list) (waiting_in new.open_list)) its_cost joins.joins in
      let joined' : IsPermutation (entry one.node.cost (v one.state) i ∷ waiting_in old.open_list) (waiting_in new.open_list) = subst (λ (e : ℕ). IsPermutation (entry one.node.cost e i ∷ waiting_in old.open_list) (waiting_in new.open_list)) (sym v_is) joined in
      let same : nodes_in states_of new ≡ nodes = ap (λ (ss : List (List Bool)). found_of ss new.nodes.items) stored ∙ ap (found_of (states_of old.store)) same_nodes in
      let e = by.holds in
      let nodes' = nodes_raised t class_of by.value v by.is_dead nodes i differs one e.occurs e.waits.1 e.open_list (waiting_in old.open_list) (waiting_in new.open_list) e.nodes e.gone e.rest e.entries joined' in
      record {
        value = v;
        is_dead = by.is_dead;
        valued = subst (λ (ns : List (Found (List Bool))). AreValued t estimate reported answers ns new.bases v by.is_dead) (sym same)
            (valued_raised t estimate reported answers by.value by.is_dead s nodes old.bases new.bases by.valued i one by.holds.occurs is_s only fresh alive answered higher fits noted bound above');
        holds = record {
          search = record {
            one_each = ap length same_nodes ∙ e.one_each ∙ sym (ap length stored);
            nodes = subst (λ (ns : List (Found (List Bool))). AreNodes t class_of v by.is_dead ns (waiting_in new.open_list)) (sym same) nodes';
            heap = joins.heap e.heap;
            single = single_permutation (first ∷ waiting_in old.open_list) (waiting_in new.open_list) joined (single_cons first (waiting_in old.open_list) one.node.cost refl e.gone e.single);
          };
          are_open = subst (AreClosed t class_of) (sym same) are_open;
          work = λ most. ap (work_left most) same;
        };
      }

  -- it is dead, and is marked so
  pub defers_dead : (basis : Basis) → IsAnswer answers t s turn.estimate (Dead basis) → IsNoted old.bases new.bases i 0 → new.nodes.items ≡ slice_set old.nodes.items i (marked_as status.Dead one.node)
      → new.open_list ≡ old.open_list
      → HoldsIn t estimate reported answers states_of new (λ value is_dead. Defers t class_of value is_dead states_of old new)
  defers_dead basis (answered, dead) noted marks same_list =
      let fits : 0 < 2 ^ 63 = omega arith in
      let d : List Bool → Bool = buried t estimate reported answers by.value by.is_dead s nodes old.bases new.bases by.valued i one by.holds.occurs is_s only fresh alive answered 0 fits noted dead in
      let d_is : d one.state ≡ true = ap d is_s ∙ buried_is t estimate reported answers by.value by.is_dead s nodes old.bases new.bases by.valued i one by.holds.occurs is_s only fresh alive answered 0 fits noted dead in
      let differs = differs_buried t estimate reported answers by.value by.is_dead s nodes old.bases new.bases by.valued i one by.holds.occurs is_s only fresh alive answered 0 fits noted dead in
      let e = by.holds in
      let it : Found (List Bool) = marked status.Dead one in
      let now = nodes_in states_of new in
      let same : now ≡ set nodes i it =
      ap (λ (ss : List (List Bool)). found_of ss new.nodes.items) stored ∙ ap (found_of (states_of old.store)) marks ∙ found_of-set (states_of old.store) old.nodes.items i one (marked_as status.Dead one.node) e.occurs in
      let here : slice_get now i ≡ Some it = ap (λ (ns : List (Found (List Bool))). slice_get ns i) same ∙ get-set_here nodes i it one e.occurs in
      let others : (k : ℕ) → k ≢ i → slice_get now k ≡ slice_get nodes k = λ k other. ap (λ (ns : List (Found (List Bool))). slice_get ns k) same ∙ get-set_other nodes i it k other in
      let long : length now ≡ length nodes = ap length same ∙ length-set nodes i it in
      let nodes' = nodes_dead t class_of by.value by.is_dead d nodes now i differs one e.occurs d_is here others long e.open_list (waiting_in old.open_list) e.nodes e.gone e.rest e.entries in
      record {
        value = by.value;
        is_dead = d;
        valued = valued_same t estimate reported answers nodes now new.bases new.bases by.value d (λ _. refl)
            (λ k n at. set_was nodes it i one e.occurs refl k n (ap (λ (ns : List (Found (List Bool))). slice_get ns k) (sym same) ∙ at))
            (valued_buried t estimate reported answers by.value by.is_dead s nodes old.bases new.bases by.valued i one by.holds.occurs is_s only fresh alive answered 0 fits noted dead);
        holds = record {
          search = record {
            one_each = ap length marks ∙ length-set old.nodes.items i (marked_as status.Dead one.node) ∙ e.one_each ∙ sym (ap length stored);
            nodes = subst (λ (ws : List Waiting). AreNodes t class_of by.value d now ws) (ap waiting_in (sym same_list)) nodes';
            heap = subst IsOpenList (sym same_list) e.heap;
            single = subst AreSingle (ap waiting_in (sym same_list)) e.single;
          };
          are_open = open_dead t class_of by.value by.is_dead d nodes now i differs one e.occurs d_is here others long e.open_list (waiting_in old.open_list) e.nodes e.gone e.rest e.entries are_open;
          work = λ most. ap (work_left most) same ∙ work_same nodes i one it most e.occurs e.waits.0 refl refl;
        };
      }

-- the state keeps its value, and its turn is over once it is expanded
pub over_by_work : {Store R : Type 0} (t : System (List Bool) ℕ) (class_of : List Bool → List Bool) (estimate : List Bool → ℕ) (reported : List Bool → Bool) (answers : Bool) (states_of : Store → List (List Bool))
    (old new : Progress Store) (before after : Buffers R) (max_states : ℕ) → after.asks ≡ before.asks → HoldsIn t estimate reported answers states_of new (λ value is_dead. Expands t class_of value is_dead states_of old new max_states)
    → HoldsIn t estimate reported answers states_of new (λ value is_dead. TurnsOver t class_of value is_dead states_of old new before after max_states)
over_by_work t class_of estimate reported answers states_of old new before after max_states same by = record {
  value = by.value;
  is_dead = by.is_dead;
  valued = by.valued;
  holds = record {
    search = by.holds.search;
    are_open = by.holds.are_open;
    within = by.holds.within;
    less = less_by_work (work_left max_states (nodes_in states_of old)) (work_left max_states (nodes_in states_of new)) before.asks after.asks by.holds.less same;
  };
}

-- its value has changed, and its turn is over
pub over_by_ask : {Store R : Type 0} (t : System (List Bool) ℕ) (class_of : List Bool → List Bool) (estimate : List Bool → ℕ) (reported : List Bool → Bool) (answers : Bool) (states_of : Store → List (List Bool))
    (old new : Progress Store) (before after : Buffers R) (max_states : ℕ) → after.asks < before.asks → length (states_of new.store) ≤ max_states
    → HoldsIn t estimate reported answers states_of new (λ value is_dead. Defers t class_of value is_dead states_of old new)
    → HoldsIn t estimate reported answers states_of new (λ value is_dead. TurnsOver t class_of value is_dead states_of old new before after max_states)
over_by_ask t class_of estimate reported answers states_of old new before after max_states fewer within by = record {
  value = by.value;
  is_dead = by.is_dead;
  valued = by.valued;
  holds = record {
    search = by.holds.search;
    are_open = by.holds.are_open;
    within = within;
    less = less_by_ask (work_left max_states (nodes_in states_of old)) (work_left max_states (nodes_in states_of new)) before.asks after.asks (by.holds.work max_states) fewer;
  };
}
