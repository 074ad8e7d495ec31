-- The steps of an expansion, over the lists of a search.
use Rattle.std.proofs.Common.{◌≡◌, ℕ, zero, suc, ◌+◌, ◌*◌, ◌<◌, ◌≤◌, ◌≢◌, ◌⊎◌, inl, inr, List, [], ◌∷◌, length, set, Bool, Option, None, Some, true, false, refl, sym, ap, ◌∙◌, subst, le_refl, arith}
use Rattle.std.specs.Prelude.{◌^◌, slice_get, Contains, All, IfSome, IsPermutation, IsTrue, is_some}
use Rattle.std.proofs.lemmas.Bool.{false≢true}
use Rattle.std.proofs.lemmas.Option.{same_Some, slice_get_within}
use Rattle.std.proofs.lemmas.List.{length-set}
use Rattle.std.proofs.lemmas.List.Elements.{All-cons, All-nil, All-weaker, All-contains}
use Rattle.std.proofs.lemmas.List.Sorted.{Contains-permutation, All-permutation}
use Rattle.std.proofs.Math.Nat.{le_trans}
use Rattle.model.proofs.ListLemmas.{Contains-here, Contains-there, Contains-cases, Contains-none}
use Rattle.model.specs.Runs.{System, CostsAtLeast}
use Rattle.search.specs.declared.nodes.Node.{Node}
use Rattle.search.specs.declared.nodes.NodeStatus.TheVariants.{Expanded}
use Rattle.search.specs.declared.nodes.NodeStatus.{NodeStatus}
use Rattle.search.specs.declared.nodes.ShortId.{ShortId}
use Rattle.search.specs.Transitions.{AreApplicable}
use Rattle.search.specs.declared.turns.Turn.{Turn}
use Rattle.search.specs.Estimates.{IsAdmissible}
use Rattle.search.specs.DeadEnds.{ReportsDeadEnds, IsValueUnlessDead}
use Rattle.search.specs.Outcome.{AreClassesOf, is_expanded_status, is_dead_status, is_expanded, is_marked_dead, IsReachableAt, ReachingCostsAtLeast}
use Rattle.search.specs.Nodes.{Waiting, place_of, sum_of, estimate_of, entry, entries_at, AreSingle, IsEntry, IsWaiting, total_of, IsEntryOf, status_of_reached, begins, HasWay, Found, found_of, dearest, work_left, Leads, AreNodes, IsFoundWithin, IsClosedAt, AreClosed, AreClosedBut, IsTurn, IsCurrent, marked_as, marked}
use Rattle.search.specs.declared.open_list.OpenList.{OpenList}
use Rattle.search.specs.OpenList.{waiting_in, IsOpenList, JoinsBy}
use Rattle.search.specs.Progress.{Continues, IsListed, TakesNext}
use Rattle.search.proofs.Lists.{get-set_here, get-set_other}
use Rattle.search.proofs.Linked.{length-found_of, found_of-get, found_of-set, set_was}
use Rattle.search.proofs.Closed.{no_plan_cheaper}
use Rattle.search.proofs.Kept.{later_before, alive_before}
use Rattle.search.proofs.Marked.{kept_marked, nodes_marked, turn_marked, open_but_marked}
use Rattle.search.proofs.Ways.{cheapest_way}
use Rattle.search.proofs.Work.{work_marked}
use Rattle.search.proofs.NodesLemmas.{IsJoined}
use Rattle.search.proofs.Single.{single_gone, single_tail}

-- the open list after a state is found, by what is reported for the state
pub joined_by : {S : Type 0} (value : S → ℕ) (is_dead : S → Bool) (s : S) (reported : Option ℕ) (old new : OpenList) (cost place : ℕ) → IsValueUnlessDead value is_dead s reported → JoinsBy old new cost place reported
    → IsJoined (is_dead s) (entry cost (value s) place) (waiting_in old) (waiting_in new) × (IsOpenList old → IsOpenList new)
joined_by value is_dead s None old new cost place dead same = (
  subst (λ b. IsJoined b (entry cost (value s) place) (waiting_in old) (waiting_in new)) (sym dead) (ap waiting_in same),
  subst (λ (q : OpenList). IsOpenList old → IsOpenList q) (sym same) (λ was. was),
)
joined_by value is_dead s (Some estimate) old new cost place (alive, is, fits) joins = (
  subst (λ b. IsJoined b (entry cost (value s) place) (waiting_in old) (waiting_in new)) (sym alive)
      (subst (λ v. IsPermutation (entry cost v place ∷ waiting_in old) (waiting_in new)) is joins.joins),
  joins.heap,
)

-- how a state is marked that is reached anew, by what is reported for it
pub marked_by : {S : Type 0} (value : S → ℕ) (is_dead : S → Bool) (s : S) (reported : Option ℕ) → IsValueUnlessDead value is_dead s reported
    → (is_expanded_status (status_of_reached reported) ≡ false) × (is_dead_status (status_of_reached reported) ≡ is_dead s)
marked_by value is_dead s None dead = (refl, sym dead)
marked_by value is_dead s (Some estimate) (alive, is, fits) = (refl, sym alive)

-- the sum of a cost and what is reported for a state fits
pub value_fits : {S : Type 0} (value : S → ℕ) (is_dead : S → Bool) (s : S) (reported : Option ℕ) (cost : ℕ) → IsValueUnlessDead value is_dead s reported → cost < 2 ^ 63 → IfSome reported (λ v. cost + v < 2 ^ 64)
value_fits value is_dead s None cost reported small = tt
value_fits value is_dead s (Some estimate) cost (alive, is, fits) small = omega (arith, fits, small)

-- the sums fit
pub turn_limits : {S : Type 0} (t : System S ℕ) (class_of : S → S) (value : S → ℕ) (is_dead : S → Bool) (nodes : List (Found S)) (open_list : List Waiting) → AreNodes t class_of value is_dead nodes open_list
    → (i max_states : ℕ) (turn : IsTurn t value nodes i) → length nodes ≤ max_states → max_states ≤ 16777216 → turn.found.node.cost + 4294967295 ≤ 72057598316118015
turn_limits t class_of value is_dead nodes open_list old i max_states turn within limit = omega (arith, old.cheap i turn.found turn.occurs, within, limit)

-- the initial state alone
module _ {S : Type 0} (t : System S ℕ) (class_of : S → S) (value : S → ℕ) (is_dead : S → Bool) (states : List S) (all : List Node) (open_list open_list' : List Waiting) (s : S) (place : ℕ)
    (status : NodeStatus) (parent : ShortId) (action : ℕ) (waits : is_expanded_status status ≡ false) (reported : is_dead_status status ≡ is_dead s) where
  one_node : Found S
  one_node = record { state = s; node = record { cost = 0; status = status; parent = parent; action = action } }

  only : (k : ℕ) (n : Found S) → slice_get (one_node ∷ []) k ≡ Some n → (k ≡ 0) × (one_node ≡ n)
  only zero n at = (refl, same_Some one_node n at)
  only (suc k) n at = absurd (cc)

  each : (P : ℕ → Found S → Type 0) → P 0 one_node → (k : ℕ) (n : Found S) → slice_get (one_node ∷ []) k ≡ Some n → P k n
  each P one k n at = let is = only k n at in subst (λ i. P i n) (sym is.0) (subst (λ x. P 0 x) is.1 one)

  -- the open list has its entry, or none since it is reported dead
  record HasStarted : Type 0 where
    pub queued : IsWaiting is_dead one_node → Contains open_list' (entry 0 (value s) 0)
    pub entries : All (IsEntryOf value is_dead (one_node ∷ [])) open_list'

  has_started : open_list ≡ [] → IsJoined (is_dead s) (entry 0 (value s) 0) open_list open_list' → HasStarted
  unfolding one_node
  has_started empty =
      let only_entry = entry 0 (value s) 0 in
      elim (is_dead s) as (λ d. is_dead s ≡ d → IsJoined d only_entry open_list open_list' → HasStarted) [
        | true ↦ λ dead same. record {
          queued = λ waits. absurd (false≢true (sym waits.1 ∙ dead));
          entries = subst (λ q. All (IsEntryOf value is_dead (one_node ∷ [])) q) (sym (same ∙ empty)) (All-nil (IsEntryOf value is_dead (one_node ∷ [])));
        }
        | false ↦ λ alive joins.
            let joins' : IsPermutation (only_entry ∷ []) open_list' = subst (λ q. IsPermutation (only_entry ∷ q) open_list') empty joins in
            let of : IsEntryOf value is_dead (one_node ∷ []) only_entry = record { found = one_node; occurs = refl; no_dearer = omega arith; alive = λ _. alive; estimate = λ _. refl } in
            record {
              queued = λ _. Contains-permutation (only_entry ∷ []) open_list' only_entry joins' (Contains-here only_entry []);
              entries = All-permutation (IsEntryOf value is_dead (one_node ∷ [])) (only_entry ∷ []) open_list' joins'
                  (All-cons (IsEntryOf value is_dead (one_node ∷ [])) only_entry [] of (All-nil (IsEntryOf value is_dead (one_node ∷ []))));
            }
      ] refl

  pub nodes_start : states ≡ s ∷ [] → all ≡ record { cost = 0; status = status; parent = parent; action = action } ∷ [] → s ≡ t.initial → place ≡ 0 → open_list ≡ [] → IsJoined (is_dead s) (entry 0 (value s) place) open_list open_list'
      → (length all ≡ length states) × AreNodes t class_of value is_dead (found_of states all) open_list'
  unfolding one_node
  nodes_start is_states is_all initial first empty joins =
      let nodes : found_of states all ≡ one_node ∷ [] = cc in
      let started = has_started empty (subst (λ p. IsJoined (is_dead s) (entry 0 (value s) p) open_list open_list') first joins) in (
        ap length is_all ∙ sym (ap length is_states),
        subst (λ ns. AreNodes t class_of value is_dead ns open_list') (sym nodes) (record {
          root = (one_node, refl, initial, refl);
          linked = each (λ k n. k ≢ 0 → Leads t value is_dead (one_node ∷ []) n) (λ elsewhere. absurd (elsewhere refl));
          distinct = λ j k m n at_j at_k _. (only j m at_j).0 ∙ sym (only k n at_k).0;
          cheap = each (λ k n. n.node.cost ≤ length (one_node ∷ []) * dearest) (omega arith);
          reached = each (λ k n. HasWay (one_node ∷ []) k) ([], begins refl refl);
          reachable = each (λ k n. IsReachableAt t n.state n.node.cost) ([], ap Some (sym initial), refl);
          no_goal = each (λ k n. is_expanded n.node ≡ true → t.meets_goal n.state ≡ false) (λ expanded. absurd (false≢true (sym waits ∙ expanded)));
          no_dearer = each (λ k n. is_expanded n.node ≡ true → CostsAtLeast t (total_of value n)) (λ expanded. absurd (false≢true (sym waits ∙ expanded)));
          cheapest = λ _ _ _ _ _ _. each (λ k n. is_expanded n.node ≡ true → ReachingCostsAtLeast t n.state n.node.cost) (λ expanded. absurd (false≢true (sym waits ∙ expanded)));
          alive = each (λ k n. is_expanded n.node ≡ true → is_dead n.state ≡ false) (λ expanded. absurd (false≢true (sym waits ∙ expanded)));
          marked = each (λ k n. is_marked_dead n.node ≡ is_dead n.state) reported;
          ordered = λ _ _ _ j k m n at_j _ expanded _ _. absurd (each (λ j m. is_expanded m.node ≡ true → ⊥) (λ expanded. false≢true (sym waits ∙ expanded)) j m at_j expanded);
          queued = each (λ k n. IsWaiting is_dead n → Contains open_list' (entry n.node.cost (value n.state) k)) started.queued;
          entries = started.entries;
        }),
      )

-- of the actions that are applicable in the state at a place, those whose successors are still to be listed
pub record AreLeft {S : Type 0} (t : System S ℕ) (class_of : S → S) (nodes : List (Found S)) (i : ℕ) (rest : List ℕ) : Type 0 where
  pub sound : (n : Found S) → slice_get nodes i ≡ Some n → (a : ℕ) → Contains rest a → IsTrue (is_some (t.step n.state a))
  pub complete : (n : Found S) → slice_get nodes i ≡ Some n → (a : ℕ) (next : S) → t.step n.state a ≡ Some next
      → IsFoundWithin class_of nodes next (n.node.cost + t.cost a) ⊎ Contains rest a

module _ {S : Type 0} (t : System S ℕ) (class_of : S → S) (nodes : List (Found S)) (i : ℕ) (one : Found S) (occurs : slice_get nodes i ≡ Some one) where
  pub left_start : (s : S) (numbers : List ℕ) → s ≡ one.state → AreApplicable t s numbers → AreLeft t class_of nodes i numbers
  left_start s numbers is applicable =
      let same : (n : Found S) → slice_get nodes i ≡ Some n → s ≡ n.state = λ n at. is ∙ ap (λ (x : Found S). x.state) (same_Some one n (sym occurs ∙ at)) in
      record {
        sound = λ n at a among. subst (λ x. IsTrue (is_some (t.step x a))) (same n at) ((applicable a).0 among);
        complete = λ n at a next step. inr ((applicable a).1 (ap is_some (ap (λ x. t.step x a) (same n at) ∙ step)));
      }

  pub left_more : (after : List (Found S)) (a : ℕ) (s : S) (rest : List ℕ) → AreLeft t class_of nodes i (a ∷ rest) → t.step one.state a ≡ Some s → Continues class_of nodes after i → IsListed t class_of after i a s → AreLeft t class_of after i rest
  left_more after a s rest left leads continues listed =
      let now = continues.stays one occurs in
      let was : (n : Found S) → slice_get after i ≡ Some n → slice_get nodes i ≡ Some n = λ n at. occurs ∙ sym now ∙ at in
      record {
        sound = λ n at b among. left.sound n (was n at) b (Contains-there a rest b among);
        complete = λ n at b next step.
            elim (left.complete n (was n at) b next step) [
              | inl found ↦ inl (continues.found next (n.node.cost + t.cost b) found)
              | inr among ↦
                  elim (Contains-cases a rest b among) [
                    | inl is ↦
                        let same : one ≡ n = same_Some one n (sym now ∙ at) in
                        let is_s : s ≡ next = same_Some s next (sym leads ∙ ap (λ (x : Found S). t.step x.state a) same ∙ ap (t.step n.state) is ∙ step) in
                        inl (subst (λ x. IsFoundWithin class_of after x (n.node.cost + t.cost b)) is_s (subst (λ b. IsFoundWithin class_of after s (n.node.cost + t.cost b)) is (listed n at)))
                    | inr later ↦ inr later
                  ]
            ];
      }

  pub left_end : (rest : List ℕ) → rest ≡ [] → AreLeft t class_of nodes i rest → IsClosedAt t class_of nodes one
  left_end rest none left a next step =
      elim (left.complete one occurs a next step) [
        | inl found ↦ found
        | inr among ↦ absurd (Contains-none a (subst (λ r. Contains r a) none among))
      ]

pub continues_trans : {S : Type 0} (class_of : S → S) (first second third : List (Found S)) (i : ℕ) → Continues class_of first second i → Continues class_of second third i → Continues class_of first third i
continues_trans class_of first second third i one two = record {
  found = λ s cost found. two.found s cost (one.found s cost found);
  stays = λ n at. two.stays n (one.stays n at);
  longer = omega (arith, one.longer, two.longer);
  less = λ most within. le_trans (two.less most within) (one.less most (omega (arith, two.longer, within)));
}

pub continues_same : {S : Type 0} (class_of : S → S) (nodes : List (Found S)) (i : ℕ) → Continues class_of nodes nodes i
continues_same class_of nodes i = record { found = λ _ _ found. found; stays = λ _ at. at; longer = omega arith; less = λ most _. le_refl _ }

-- the state at the place stays there
pub occurs_still : {S : Type 0} (class_of : S → S) (states states' : List S) (all all' : List Node) (i : ℕ) (n : Found S) (s : S) → slice_get (found_of states all) i ≡ Some n
    → Continues class_of (found_of states all) (found_of states' all') i → slice_get states i ≡ Some s → slice_get states' i ≡ Some s
occurs_still class_of states states' all all' i n s at continues occurs =
    (found_of-get states' all' i n (continues.stays n at)).0 ∙ sym (found_of-get states all i n at).0 ∙ occurs

-- the state whose turn it is: it waits, and of those that wait none has a lesser sum; the others are in the open list that is left
pub record IsNext {S : Type 0} (value : S → ℕ) (is_dead : S → Bool) (states : List S) (all : List Node) (open_list' : List Waiting) (turn : Turn) : Type 0 where
  pub found : Found S
  pub occurs : slice_get (found_of states all) turn.id.0 ≡ Some found
  pub state : slice_get states turn.id.0 ≡ Some found.state
  pub node : slice_get all turn.id.0 ≡ Some found.node
  pub waits : IsWaiting is_dead found
  pub sum : turn.sum ≡ total_of value found
  pub least : (k : ℕ) (n : Found S) → slice_get (found_of states all) k ≡ Some n → IsWaiting is_dead n → total_of value found ≤ total_of value n
  pub rest : (k : ℕ) (n : Found S) → slice_get (found_of states all) k ≡ Some n → IsWaiting is_dead n → k ≢ turn.id.0 → Contains open_list' (entry n.node.cost (value n.state) k)
  pub estimate : turn.estimate ≡ value found.state
  pub single : AreSingle open_list'
  pub gone : entries_at turn.id.0 found.node.cost open_list' ≡ 0

-- whose turn it is
module _ {S : Type 0} (t : System S ℕ) (class_of : S → S) (value : S → ℕ) (is_dead : S → Bool) (states : List S) (all : List Node) (open_list : List Waiting)
    (one_each : length all ≡ length states) (nodes : AreNodes t class_of value is_dead (found_of states all) open_list) where
  -- the entries are of the nodes
  pub entries_of : All (IsEntry (length all)) open_list
  entries_of =
      All-weaker (IsEntryOf value is_dead (found_of states all)) (IsEntry (length all))
      (λ w of. (omega (arith, slice_get_within (found_of states all) (place_of w) of.found of.occurs, length-found_of states all one_each, one_each), omega (arith, of.no_dearer))) open_list nodes.entries

  -- a node that waits has a current entry
  pub current_entry : (k : ℕ) (n : Found S) → slice_get (found_of states all) k ≡ Some n → IsWaiting is_dead n → IsCurrent all (entry n.node.cost (value n.state) k)
  current_entry k n at waits = (n.node, (found_of-get states all k n at).1, refl, waits.0)

  pub none_waits : ((w : Waiting) → Contains open_list w → ¬ IsCurrent all w) → (k : ℕ) (n : Found S) → slice_get (found_of states all) k ≡ Some n → IsWaiting is_dead n → ⊥
  none_waits none k n at waits = none (entry n.node.cost (value n.state) k) (nodes.queued k n at waits) (current_entry k n at waits)

  -- a current entry is that of a state that waits
  pub entry_waits : (w : Waiting) → Contains open_list w → IsCurrent all w
      → (n : Found S) × (slice_get (found_of states all) (place_of w) ≡ Some n) × IsWaiting is_dead n × (total_of value n ≡ sum_of w) × (estimate_of w ≡ value n.state)
  entry_waits w among (node, occurs, sums, waits) =
      let of = All-contains (IsEntryOf value is_dead (found_of states all)) open_list w nodes.entries among in
      let same : node ≡ of.found.node = same_Some node of.found.node (sym occurs ∙ (found_of-get states all (place_of w) of.found of.occurs).1) in
      let current : of.found.node.cost + estimate_of w ≡ sum_of w = ap (λ (r : Node). r.cost + estimate_of w) (sym same) ∙ sums in
      let estimate = of.estimate current in
      (of.found, of.occurs, (ap (λ (r : Node). is_expanded r) (sym same) ∙ waits, of.alive current), omega (arith, current, estimate), estimate)

  pub at_turn : (single : AreSingle open_list) (open_list' : List Waiting) (turn : Turn) → TakesNext open_list open_list' all turn → IsNext value is_dead states all open_list' turn
  at_turn single open_list' turn takes =
      let i = turn.id.0 in
      let (one, there, waits, sum, estimate) = entry_waits takes.next takes.among takes.current in
      let at_one : slice_get (found_of states all) i ≡ Some one = ap (slice_get (found_of states all)) (sym takes.occurs) ∙ there in
      let parts = found_of-get states all i one at_one in
      record {
        found = one;
        occurs = at_one;
        state = parts.0;
        node = parts.1;
        waits = waits;
        sum = omega (arith, takes.sum, sum);
        least = λ k m at waits. omega (arith, sum, takes.least (entry m.node.cost (value m.state) k) (nodes.queued k m at waits) (current_entry k m at waits));
        rest = λ k m at waits elsewhere. takes.rest (entry m.node.cost (value m.state) k) (nodes.queued k m at waits) (current_entry k m at waits) elsewhere;
        estimate = sym takes.estimate ∙ estimate;
        single = single_tail takes.next open_list' (takes.single single);
        gone = single_gone takes.next open_list' (takes.single single) i one.node.cost takes.occurs (omega (arith, sum, estimate));
      }

-- what holds where the turn of a state has begun: of what was found, it alone is marked as expanded
pub record HasBegun {S : Type 0} (t : System S ℕ) (class_of : S → S) (value : S → ℕ) (is_dead : S → Bool) (before : List (Found S)) (states : List S) (all : List Node) (open_list : List Waiting) (i : ℕ) (one : Found S) : Type 0 where
  pub one_each : length all ≡ length states
  pub nodes : AreNodes t class_of value is_dead (found_of states all) open_list
  pub turn : IsTurn t value (found_of states all) i
  pub others_open : AreClosedBut t class_of (found_of states all) i
  pub occurs : slice_get (found_of states all) i ≡ Some (marked Expanded one)
  pub less : (most : ℕ) → work_left most (found_of states all) < work_left most before
  pub was : (k : ℕ) (n : Found S) → slice_get (found_of states all) k ≡ Some n → (x : Found S) × (slice_get before k ≡ Some x) × (x.state ≡ n.state)

-- a turn begins
module _ {S : Type 0} (t : System S ℕ) (class_of : S → S) (classes : AreClassesOf t class_of) (value : S → ℕ) (is_dead : S → Bool) (admissible : IsAdmissible t value) (reports : ReportsDeadEnds t is_dead) (states : List S) (all : List Node) (open_list open_list' : List Waiting)
    (one_each : length all ≡ length states) (nodes : AreNodes t class_of value is_dead (found_of states all) open_list)
    (i : ℕ) (one : Found S) (occurs : slice_get (found_of states all) i ≡ Some one) (waits : IsWaiting is_dead one)
    (least : (k : ℕ) (n : Found S) → slice_get (found_of states all) k ≡ Some n → IsWaiting is_dead n → total_of value one ≤ total_of value n)
    (rest : (k : ℕ) (n : Found S) → slice_get (found_of states all) k ≡ Some n → IsWaiting is_dead n → k ≢ i → Contains open_list' (entry n.node.cost (value n.state) k))
    (entries : All (IsEntryOf value is_dead (found_of states all)) open_list') where
  pub turn_begins : t.meets_goal one.state ≡ false → AreClosed t class_of (found_of states all) → (states' : List S) (all' : List Node)
      → states' ≡ states → all' ≡ set all i (marked_as Expanded one.node)
      → HasBegun t class_of value is_dead (found_of states all) states' all' open_list' i one
  turn_begins no_goal are_open states' all' is_states is_all =
      let now : Node = marked_as Expanded one.node in
      let marks : found_of states (set all i now) ≡ set (found_of states all) i (marked Expanded one) = found_of-set states all i one now occurs in
      let same : found_of states' all' ≡ found_of states (set all i now) = cc in
      let is : found_of states' all' ≡ set (found_of states all) i (marked Expanded one) = same ∙ marks in
      let after = found_of states' all' in
      let here : slice_get after i ≡ Some (marked Expanded one) = ap (λ (ns : List (Found S)). slice_get ns i) is ∙ get-set_here (found_of states all) i (marked Expanded one) one occurs in
      let others : (k : ℕ) → k ≢ i → slice_get after k ≡ slice_get (found_of states all) k =
      λ k elsewhere. ap (λ (ns : List (Found S)). slice_get ns k) is ∙ get-set_other (found_of states all) i (marked Expanded one) k elsewhere in
      let long : length after ≡ length (found_of states all) = ap length is ∙ length-set (found_of states all) i (marked Expanded one) in
      let count_states : length states' ≡ length states = ap length is_states in
      let count_all : length all' ≡ length all = ap length is_all ∙ length-set all i now in
      record {
        one_each = omega (arith, count_states, count_all, one_each);
        nodes = nodes_marked (found_of states all) after i one occurs waits.0 here others long t class_of value is_dead open_list open_list' nodes waits.1 no_goal
            (no_plan_cheaper t class_of value is_dead states all one_each open_list nodes classes admissible reports one are_open least)
            (λ own later later_dead is_later consistent detects.
            let now = later_before (found_of states all) after class_of (kept_marked Expanded (found_of states all) after i one occurs (λ _. refl) here others class_of) own value later is_dead later_dead is_later in
            let same : later one.state ≡ value one.state = is_later.settled i (marked Expanded one) here refl in
            cheapest_way t class_of own later later_dead consistent detects (found_of states all) are_open (total_of value one)
            (λ k n at waits'. omega (arith, least k n at (waits'.0, alive_before value is_dead (found_of states all) later later_dead now k n at waits'.1), now.no_less k n at))
            value is_dead open_list nodes i one occurs (is_later.settled_dead i (marked Expanded one) here refl ∙ waits.1) (omega (arith, same)))
            least rest entries;
        turn = turn_marked (found_of states all) after i one occurs waits.0 here others long t class_of value is_dead open_list open_list' nodes waits.1;
        others_open = open_but_marked (found_of states all) after i one occurs waits.0 here others long t class_of value is_dead open_list open_list' nodes waits.1 are_open;
        occurs = here;
        less = λ most. subst (λ (ns : List (Found S)). work_left most ns < work_left most (found_of states all)) (sym is)
            (work_marked (found_of states all) i one (marked Expanded one) most occurs waits.0 refl refl);
        was = λ k n at. set_was (found_of states all) (marked Expanded one) i one occurs refl k n (ap (λ (ns : List (Found S)). slice_get ns k) (sym is) ∙ at);
      }
