-- What a search keeps true, through each of its steps.
use Rattle.std.proofs.Common.{◌≡◌, ℕ, ◌+◌, ◌*◌, ◌≤◌, ◌≢◌, ◌⊎◌, inl, inr, List, [], ◌∷◌, ◌++◌, length, Bool, Some, None, true, false, refl, sym, ap, ◌∙◌, subst, arith}
use Rattle.std.specs.Prelude.{slice_get, Contains, All, IsPermutation}
use Rattle.std.proofs.lemmas.List.Elements.{All-cons}
use Rattle.std.proofs.lemmas.List.Sorted.{Contains-permutation, All-permutation}
use Rattle.std.proofs.Math.Nat.{mul-le-mul_right}
use Rattle.model.proofs.ListLemmas.{Contains-here, Contains-there}
use Rattle.std.specs.Option.{option_and_then}
use Rattle.std.proofs.lemmas.Bool.{cases_eq, false≢true}
use Rattle.std.proofs.lemmas.Option.{same_Some}
use Rattle.std.proofs.lemmas.List.Sums.{sum_by-append}
use Rattle.model.specs.Runs.{System, run, CostsAtLeast}
use Rattle.search.specs.declared.nodes.NodeStatus.{NodeStatus}
use Rattle.search.specs.declared.nodes.NodeStatus.TheVariants.{Unexpanded, Reopened, Expanded, Dead}
use Rattle.search.specs.Outcome.{is_expanded_status, is_expanded, is_marked_dead, IsReachableAt, ReachingCostsAtLeast}
use Rattle.search.specs.Nodes.{Waiting, entry, IsWaiting, total_of, IsEntryOf, has_been_expanded_status, parent_of, begins, follows, IsWay, HasWay, Found, Leads, dearest, AreNodes, IsClosedAt, AreClosedBut, IsTurn, Updates}
use Rattle.search.specs.Progress.{Continues, IsListed}
use Rattle.search.proofs.Kept.{AreKept, way_kept, found_kept, open_kept, settled_before, later_before, leads_kept, entries_kept}

-- What holds of the nodes after a step of an expansion, by which the state is reached by the action.
pub record Stepped {S : Type 0} (t : System S ℕ) (class_of : S → S) (value : S → ℕ) (is_dead : S → Bool) (nodes after : List (Found S)) (open_list : List Waiting) (i : ℕ) (a : ℕ) (s : S) : Type 0 where
  pub sound : AreNodes t class_of value is_dead after open_list
  pub turn : IsTurn t value after i
  pub others : AreClosedBut t class_of after i
  pub continues : Continues class_of nodes after i
  pub listed : IsListed t class_of after i a s

-- the open list once a state is reached by a way that is new: its entry joins the others, unless the state is reported dead
abbrev pub IsJoined : Bool → Waiting → List Waiting → List Waiting → Type 0
IsJoined true w open_list open_list' = open_list' ≡ open_list
IsJoined false w open_list open_list' = IsPermutation (w ∷ open_list) open_list'

module _ {S A : Type 0} (t : System S A) where
  -- a list that leads to a state, and one more action
  pub run-push : (s : S) (actions : List A) (a : A) (middle end : S) → run t s actions ≡ Some middle → t.step middle a ≡ Some end → run t s (actions ++ a ∷ []) ≡ Some end
  run-push s [] a middle end runs step =
      let same : s ≡ middle = same_Some s middle runs in
      ap (option_and_then (λ next. run t next [])) (ap (λ (x : S). t.step x a) same ∙ step)
  run-push s (b ∷ actions) a middle end runs step =
      elim (t.step s b) as (λ o. option_and_then (λ next. run t next actions) o ≡ Some middle → option_and_then (λ next. run t next (actions ++ a ∷ [])) o ≡ Some end) [
        | None ↦ λ none. absurd (cc)
        | Some next ↦ λ rest. run-push next actions a middle end rest step
      ] runs

  pub reachable-push : (s next : S) (cost : ℕ) (a : A) → IsReachableAt t s cost → t.step s a ≡ Some next → IsReachableAt t next (cost + t.cost a)
  reachable-push s next cost a (actions, runs, costs) step =
      (actions ++ a ∷ [], run-push t.initial actions a s next runs step, sum_by-append t.cost actions (a ∷ []) ∙ omega (arith, costs))

-- what is expanded now has been expanded
pub expanded_been : (status : NodeStatus) → is_expanded_status status ≡ true → has_been_expanded_status status ≡ true
expanded_been Unexpanded expanded = absurd (false≢true expanded)
expanded_been Reopened expanded = refl
expanded_been Expanded expanded = refl
expanded_been Dead expanded = absurd (false≢true expanded)

module _ {S : Type 0} (class_of : S → S) (nodes after : List (Found S)) (j : ℕ) (m : Found S) (updates : Updates class_of nodes after j m) where
  -- a node after the update is the updated one, or was there before
  pub at_cases : (k : ℕ) (n : Found S) → slice_get after k ≡ Some n → ((k ≡ j) × (m ≡ n)) ⊎ ((k ≢ j) × (slice_get nodes k ≡ Some n))
  at_cases k n at =
      elim (cases_eq k j) [
        | inl e ↦ inl (e, same_Some m n (sym updates.here ∙ ap (slice_get after) (sym e) ∙ at))
        | inr other ↦ inr (other, sym (updates.others k other) ∙ at)
      ]

  kept_updated : AreKept class_of nodes after
  kept_updated k n at =
      elim (cases_eq k j) [
        | inl e ↦
            let was : slice_get nodes j ≡ Some n = ap (slice_get nodes) (sym e) ∙ at in
            record {
              now = m;
              there = ap (slice_get after) e ∙ updates.here;
              alike = updates.same_class n was;
              cheaper = omega (arith, updates.cheaper n was);
              same_cost = λ same. absurd (omega (arith, updates.cheaper n was, same));
              expanded = updates.same_state n was;
            }
        | inr other ↦ record { now = n; there = updates.others k other ∙ at; alike = refl; cheaper = omega arith; same_cost = λ _. refl; expanded = λ expanded. (refl, expanded) }
      ]

  -- what holds of the updated node, and of each node before the update, holds of each node after it
  each_after : (P : ℕ → Found S → Type 0) → P j m → ((k : ℕ) (n : Found S) → k ≢ j → slice_get nodes k ≡ Some n → P k n) → (k : ℕ) (n : Found S) → slice_get after k ≡ Some n → P k n
  each_after P one others k n at =
      elim (at_cases k n at) [
        | inl is ↦ subst (λ i. P i n) (sym is.0) (subst (λ x. P j x) is.1 one)
        | inr was ↦ others k n was.0 was.1
      ]

  -- an expanded node was there before
  expanded_before : (k : ℕ) (n : Found S) → slice_get after k ≡ Some n → is_expanded n.node ≡ true → slice_get nodes k ≡ Some n
  expanded_before k n at expanded =
      elim (at_cases k n at) [
        | inl is ↦ absurd (false≢true (sym updates.waits ∙ ap (λ (x : Found S). is_expanded x.node) is.1 ∙ expanded))
        | inr was ↦ was.1
      ]

  -- of expanded nodes holds what held of them
  each_expanded : (P : ℕ → Found S → Type 0) → ((k : ℕ) (n : Found S) → slice_get nodes k ≡ Some n → is_expanded n.node ≡ true → P k n)
      → (k : ℕ) (n : Found S) → slice_get after k ≡ Some n → is_expanded n.node ≡ true → P k n
  each_expanded P held k n at expanded = held k n (expanded_before k n at expanded) expanded

  -- what the open list has once the updated node's entry has joined it, or has not since its state is reported dead
  pub record HasJoined (value : S → ℕ) (is_dead : S → Bool) (open_list open_list' : List Waiting) : Type 0 where
    pub keeps : (w : Waiting) → Contains open_list w → Contains open_list' w
    pub queued : IsWaiting is_dead m → Contains open_list' (entry m.node.cost (value m.state) j)
    pub entries : All (IsEntryOf value is_dead after) open_list'

  pub has_joined : (value : S → ℕ) (is_dead : S → Bool) (open_list open_list' : List Waiting) → All (IsEntryOf value is_dead nodes) open_list
      → IsJoined (is_dead m.state) (entry m.node.cost (value m.state) j) open_list open_list' → HasJoined value is_dead open_list open_list'
  has_joined value is_dead open_list open_list' entries =
      let one = entry m.node.cost (value m.state) j in
      let all_in : All (IsEntryOf value is_dead after) open_list = entries_kept nodes after class_of kept_updated value is_dead open_list entries in
      elim (is_dead m.state) as (λ d. is_dead m.state ≡ d → IsJoined d one open_list open_list' → HasJoined value is_dead open_list open_list') [
        | true ↦ λ dead same. record {
          keeps = λ w at. subst (λ q. Contains q w) (sym same) at;
          queued = λ waits. absurd (false≢true (sym waits.1 ∙ dead));
          entries = subst (λ q. All (IsEntryOf value is_dead after) q) (sym same) all_in;
        }
        | false ↦ λ alive joins.
            let of : IsEntryOf value is_dead after one = record { found = m; occurs = updates.here; no_dearer = omega arith; alive = λ _. alive; estimate = λ _. refl } in
            record {
              keeps = λ w at. Contains-permutation (one ∷ open_list) open_list' w joins (Contains-there one open_list w at);
              queued = λ _. Contains-permutation (one ∷ open_list) open_list' one joins (Contains-here one open_list);
              entries = All-permutation (IsEntryOf value is_dead after) (one ∷ open_list) open_list' joins (All-cons (IsEntryOf value is_dead after) one open_list of all_in);
            }
      ] refl

  -- a state that an action leads to from the node whose turn it is joins the others, or is now reached at a lower cost
  module _ (t : System S ℕ) (value : S → ℕ) (is_dead : S → Bool) (i : ℕ) (turn : IsTurn t value nodes i) (open_list : List Waiting) (old : AreNodes t class_of value is_dead nodes open_list)
      (parent : parent_of m.node ≡ i) (cost : m.node.cost ≡ turn.found.node.cost + t.cost m.node.action) where
    -- a node that costs no more than the one whose turn it is is not the updated one
    not_here : (k : ℕ) (n : Found S) → slice_get nodes k ≡ Some n → n.node.cost ≤ turn.found.node.cost → k ≢ j
    not_here k n at low e = absurd (omega (arith, updates.cheaper n (ap (slice_get nodes) (sym e) ∙ at), cost, low))

    -- the node's turn is not over
    stays : slice_get after i ≡ Some turn.found
    stays = updates.others i (not_here i turn.found turn.occurs (omega arith)) ∙ turn.occurs

    turn_still : IsTurn t value after i
    turn_still = record {
      found = turn.found;
      occurs = stays;
      expanded = turn.expanded;
      greatest = λ later settled consistent. each_expanded (λ k n. total_of later n ≤ total_of later turn.found) (turn.greatest later (settled_before nodes after class_of kept_updated value later settled) consistent);
    }

    open_but_still : AreClosedBut t class_of nodes i → AreClosedBut t class_of after i
    open_but_still all = each_expanded (λ k n. k ≢ i → IsClosedAt t class_of after n) (λ k n at expanded other. open_kept nodes after class_of kept_updated t n (all k n at expanded other))

    -- costs do not fall along a way, so that the one to the node whose turn it is does not come to the updated one
    way_still : (k : ℕ) (way : List ℕ) → IsWay nodes k way → ((n : Found S) → slice_get nodes k ≡ Some n → n.node.cost ≤ turn.found.node.cost) → IsWay after k way
    way_still k way (begins first none) low = begins first none
    way_still k way (follows n before elsewhere at earlier is) low =
        let leads = old.linked k n at elsewhere in
        follows n before elsewhere (updates.others k (not_here k n at (low n at)) ∙ at)
        (way_still (parent_of n.node) before earlier
        (λ p at_p. omega (arith, ap (λ (x : Found S). x.node.cost) (same_Some leads.parent p (sym leads.occurs ∙ at_p)), leads.cost, low n at))) is

    -- the way to the updated node is that to the node whose turn it is, and its action
    way_here : HasWay after j
    way_here =
        elim (cases_eq j 0) [
          | inl first ↦ ([], begins first refl)
          | inr elsewhere ↦
              let (way, leads) = old.reached i turn.found turn.occurs in
              let before = way_still i way leads (λ n at. omega (arith, ap (λ (x : Found S). x.node.cost) (same_Some turn.found n (sym turn.occurs ∙ at)))) in
              (way ++ m.node.action ∷ [], follows m way elsewhere updates.here (subst (λ k. IsWay after k way) (sym parent) before) refl)
        ]

    way_again : (k : ℕ) (n : Found S) → k ≢ 0 → slice_get nodes k ≡ Some n → HasWay after (parent_of n.node) → HasWay after k
    way_again k n elsewhere at (path, leads) =
        elim (cases_eq k j) [
          | inl e ↦ subst (λ p. HasWay after p) (sym e) way_here
          | inr other ↦ (path ++ n.node.action ∷ [], follows n path elsewhere (updates.others k other ∙ at) leads refl)
        ]

    nodes_updated : (open_list' : List Waiting) → m.node.cost ≤ length after * dearest → t.step turn.found.state m.node.action ≡ Some m.state
        → is_marked_dead m.node ≡ is_dead m.state → HasJoined value is_dead open_list open_list' → AreNodes t class_of value is_dead after open_list'
    nodes_updated open_list' affordable step reported joined =
        let leads : Leads t value is_dead after m = record {
          parent = turn.found;
          occurs = ap (slice_get after) parent ∙ stays;
          cost = omega (arith, cost);
          expanded = expanded_been turn.found.node.status turn.expanded;
          step = step;
          no_goal = old.no_goal i turn.found turn.occurs turn.expanded;
          alive = old.alive i turn.found turn.occurs turn.expanded;
          no_dearer = old.no_dearer i turn.found turn.occurs turn.expanded;
        } in
        record {
          root =
              let (n, at, is, free) = old.root in
              (n, updates.others 0 (not_here 0 n at (omega (arith, free))) ∙ at, is, free);
          linked = each_after (λ k n. k ≢ 0 → Leads t value is_dead after n) (λ _. leads) (λ k n other at elsewhere. leads_kept nodes after class_of kept_updated t value is_dead n (old.linked k n at elsewhere));
          distinct = λ p k x n at_p at_k same.
              each_after (λ p x. x.state ≡ n.state → p ≡ k)
              (each_after (λ k n. m.state ≡ n.state → j ≡ k) (λ _. refl) (λ k n other at same. sym (updates.only k n at (sym same))) k n at_k)
              (λ p x other at.
              each_after (λ k n. x.state ≡ n.state → p ≡ k) (λ same. updates.only p x at same) (λ k n _ at' same. old.distinct p k x n at at' same) k n at_k)
              p x at_p same;
          cheap = each_after (λ k n. n.node.cost ≤ length after * dearest) affordable (λ k n other at. omega (arith, old.cheap k n at, mul-le-mul_right dearest updates.longer));
          reached = each_after (λ k n. HasWay after k) way_here (λ k n other at. let way = old.reached k n at in way_kept nodes after way_again k way.0 way.1);
          reachable = each_after (λ k n. IsReachableAt t n.state n.node.cost)
              (subst (λ c. IsReachableAt t m.state c) (sym cost) (reachable-push t turn.found.state m.state turn.found.node.cost m.node.action (old.reachable i turn.found turn.occurs) step))
              (λ k n other at. old.reachable k n at);
          no_goal = each_expanded (λ k n. t.meets_goal n.state ≡ false) old.no_goal;
          no_dearer = each_expanded (λ k n. CostsAtLeast t (total_of value n)) old.no_dearer;
          cheapest = λ own later later_dead is_later consistent detects. each_expanded (λ k n. ReachingCostsAtLeast t n.state n.node.cost)
              (old.cheapest own later later_dead (later_before nodes after class_of kept_updated own value later is_dead later_dead is_later) consistent detects);
          alive = each_expanded (λ k n. is_dead n.state ≡ false) old.alive;
          marked = each_after (λ k n. is_marked_dead n.node ≡ is_dead n.state) reported (λ k n other at. old.marked k n at);
          ordered = λ later settled consistent p k x n at_p at_k expanded waits no_less.
              let was = expanded_before p x at_p expanded in
              let before = settled_before nodes after class_of kept_updated value later settled in
              each_after (λ k n. IsWaiting is_dead n → value n.state ≤ later n.state → total_of later x ≤ total_of later n)
              (λ _ _. omega (arith, turn.greatest later before consistent p x was expanded, cost, consistent.falls_by_no_more turn.found.state m.state m.node.action step))
              (λ k n other at is_waiting rises. old.ordered later before consistent p k x n was at expanded is_waiting rises)
              k n at_k waits no_less;
          queued = each_after (λ k n. IsWaiting is_dead n → Contains open_list' (entry n.node.cost (value n.state) k))
              joined.queued
              (λ k n other at waits. joined.keeps (entry n.node.cost (value n.state) k) (old.queued k n at waits));
          entries = joined.entries;
        }

    -- all that a step keeps
    pub stepped : (open_list' : List Waiting) → AreClosedBut t class_of nodes i → m.node.cost ≤ length after * dearest → t.step turn.found.state m.node.action ≡ Some m.state
        → is_marked_dead m.node ≡ is_dead m.state → IsJoined (is_dead m.state) (entry m.node.cost (value m.state) j) open_list open_list'
        → Stepped t class_of value is_dead nodes after open_list' i m.node.action m.state
    stepped open_list' others affordable step reported joins =
        record {
          sound = nodes_updated open_list' affordable step reported (has_joined value is_dead open_list open_list' old.entries joins);
          turn = turn_still;
          others = open_but_still others;
          continues = record {
            found = found_kept nodes after class_of kept_updated;
            stays = λ n at. stays ∙ sym turn.occurs ∙ at;
            longer = updates.longer;
            less = λ most within. updates.less most within (omega (arith, affordable, mul-le-mul_right dearest within));
          };
          listed = λ n at.
              let same : turn.found ≡ n = same_Some turn.found n (sym stays ∙ at) in
              (j, m, updates.here, refl, omega (arith, cost, ap (λ (x : Found S). x.node.cost) same));
        }
