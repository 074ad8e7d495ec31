-- What a search keeps true when a state's turn comes and goes.
use Rattle.std.proofs.Common.{◌≡◌, ℕ, ◌*◌, ◌≤◌, ◌≢◌, inl, inr, List, [], ◌∷◌, ◌++◌, length, Bool, Some, true, false, refl, sym, ap, ◌∙◌, subst, arith}
use Rattle.std.specs.Prelude.{slice_get, Contains, All}
use Rattle.std.proofs.lemmas.Bool.{cases_eq, false≢true}
use Rattle.std.proofs.lemmas.Option.{same_Some}
use Rattle.std.proofs.lemmas.List.Elements.{All-cons}
use Rattle.model.proofs.ListLemmas.{Contains-here, Contains-there}
use Rattle.model.specs.Runs.{System, CostsAtLeast}
use Rattle.search.specs.declared.nodes.NodeStatus.{NodeStatus}
use Rattle.search.specs.declared.nodes.NodeStatus.TheVariants.{Reopened, Expanded}
use Rattle.search.specs.Estimates.{IsConsistent}
use Rattle.search.specs.DeadEnds.{DetectsDeadEnds}
use Rattle.search.specs.Nodes.{Waiting, entry, IsWaiting, total_of, IsEntryOf, has_been_expanded_status, has_been_expanded, parent_of, follows, HasWay, Found, Leads, dearest, IsLater, AreNodes, IsClosedAt, AreClosed, AreClosedBut, IsTurn, marked}
use Rattle.search.specs.Outcome.{AreOwnClasses, is_expanded, is_marked_dead, IsReachableAt, ReachingCostsAtLeast}
use Rattle.search.proofs.Kept.{AreKept, way_kept, open_kept, settled_before, later_before, leads_kept, entries_kept}

-- what holds of the found states however far the search is with them
pub record AreReached {S : Type 0} (t : System S ℕ) (value : S → ℕ) (is_dead : S → Bool) (nodes : List (Found S)) : Type 0 where
  pub root : (n : Found S) × (slice_get nodes 0 ≡ Some n) × (n.state ≡ t.initial) × (n.node.cost ≡ 0)
  pub linked : (k : ℕ) (n : Found S) → slice_get nodes k ≡ Some n → k ≢ 0 → Leads t value is_dead nodes n
  pub distinct : (j k : ℕ) (m n : Found S) → slice_get nodes j ≡ Some m → slice_get nodes k ≡ Some n → m.state ≡ n.state → j ≡ k
  pub cheap : (k : ℕ) (n : Found S) → slice_get nodes k ≡ Some n → n.node.cost ≤ length nodes * dearest
  pub reached : (k : ℕ) (n : Found S) → slice_get nodes k ≡ Some n → HasWay nodes k
  pub reachable : (k : ℕ) (n : Found S) → slice_get nodes k ≡ Some n → IsReachableAt t n.state n.node.cost

-- the node at one place has another status now, that of one that has been expanded if it was
module _ {S : Type 0} (status : NodeStatus) (nodes after : List (Found S)) (i : ℕ) (one : Found S) (stood : slice_get nodes i ≡ Some one)
    (lasting : has_been_expanded one.node ≡ true → has_been_expanded_status status ≡ true)
    (here : slice_get after i ≡ Some (marked status one)) (others : (k : ℕ) → k ≢ i → slice_get after k ≡ slice_get nodes k) where
  pub each_marked : (P : ℕ → Found S → Type 0) → P i (marked status one) → ((k : ℕ) (n : Found S) → k ≢ i → slice_get nodes k ≡ Some n → P k n) → (k : ℕ) (n : Found S) → slice_get after k ≡ Some n → P k n
  each_marked P at_i elsewhere k n at =
      elim (cases_eq k i) [
        | inl e ↦ subst (λ p. P p n) (sym e) (subst (λ x. P i x) (same_Some (marked status one) n (sym here ∙ ap (slice_get after) (sym e) ∙ at)) at_i)
        | inr other ↦ elsewhere k n other (sym (others k other) ∙ at)
      ]

  same_marked : (k : ℕ) (n : Found S) → k ≡ i → slice_get nodes k ≡ Some n → one ≡ n
  same_marked k n e at = same_Some one n (sym stood ∙ ap (slice_get nodes) (sym e) ∙ at)

  pub kept_marked : (class_of : S → S) → AreKept class_of nodes after
  kept_marked class_of k n at =
      elim (cases_eq k i) [
        | inl e ↦
            let same = same_marked k n e at in
            let same_state : one.state ≡ n.state = ap (λ (x : Found S). x.state) same in
            record {
              now = marked status one;
              there = ap (slice_get after) e ∙ here;
              alike = ap class_of same_state;
              cheaper = omega (arith, ap (λ (x : Found S). x.node.cost) same);
              same_cost = λ _. same_state;
              expanded = λ been. (same_state, lasting (ap (λ (x : Found S). has_been_expanded x.node) same ∙ been));
            }
        | inr other ↦ record { now = n; there = others k other ∙ at; alike = refl; cheaper = omega arith; same_cost = λ _. refl; expanded = λ expanded. (refl, expanded) }
      ]

  -- a way leads where it led
  way_marked : (k : ℕ) (n : Found S) → k ≢ 0 → slice_get nodes k ≡ Some n → HasWay after (parent_of n.node) → HasWay after k
  way_marked k n elsewhere at (path, leads) =
      elim (cases_eq k i) [
        | inl e ↦
            let same = same_marked k n e at in
            (path ++ n.node.action ∷ [], follows (marked status n) path elsewhere (ap (slice_get after) e ∙ here ∙ ap (λ (x : Found S). Some (marked status x)) same) leads refl)
        | inr other ↦ (path ++ n.node.action ∷ [], follows n path elsewhere (others k other ∙ at) leads refl)
      ]

  module _ (t : System S ℕ) (class_of : S → S) (value : S → ℕ) (is_dead : S → Bool) where
    marked_leads : (n : Found S) → Leads t value is_dead after n → Leads t value is_dead after (marked status n)
    marked_leads n leads = record {
      parent = leads.parent;
      occurs = leads.occurs;
      cost = leads.cost;
      expanded = leads.expanded;
      step = leads.step;
      no_goal = leads.no_goal;
      alive = leads.alive;
      no_dearer = leads.no_dearer;
    }

    pub reached_marked : (open_list : List Waiting) → AreNodes t class_of value is_dead nodes open_list → length after ≡ length nodes → AreReached t value is_dead after
    reached_marked open_list old long =
        let still : (n : Found S) → Leads t value is_dead nodes n → Leads t value is_dead after n = leads_kept nodes after class_of (kept_marked class_of) t value is_dead in
        record {
          root =
              let (n, at, is, free) = old.root in
              let kept = kept_marked (λ s. s) 0 n at in
              (kept.now, kept.there, kept.alike ∙ is, omega (arith, free, kept.cheaper));
          linked = each_marked (λ k n. k ≢ 0 → Leads t value is_dead after n)
              (λ elsewhere. marked_leads one (still one (old.linked i one stood elsewhere)))
              (λ k n _ at elsewhere. still n (old.linked k n at elsewhere));
          distinct = λ p k x n at_p at_k same.
              each_marked (λ p x. x.state ≡ n.state → p ≡ k)
              (each_marked (λ k n. one.state ≡ n.state → i ≡ k) (λ _. refl) (λ k n _ at same. old.distinct i k one n stood at same) k n at_k)
              (λ p x _ at.
              each_marked (λ k n. x.state ≡ n.state → p ≡ k) (λ same. old.distinct p i x one at stood same) (λ k n _ at' same. old.distinct p k x n at at' same) k n at_k)
              p x at_p same;
          cheap = rw long (each_marked (λ k n. n.node.cost ≤ length nodes * dearest) (old.cheap i one stood) (λ k n _ at. old.cheap k n at));
          reached = each_marked (λ k n. HasWay after k)
              (let way = old.reached i one stood in way_kept nodes after way_marked i way.0 way.1)
              (λ k n _ at. let way = old.reached k n at in way_kept nodes after way_marked k way.0 way.1);
          reachable = each_marked (λ k n. IsReachableAt t n.state n.node.cost) (old.reachable i one stood) (λ k n _ at. old.reachable k n at);
        }

-- its turn begins
module _ {S : Type 0} (nodes after : List (Found S)) (i : ℕ) (one : Found S) (stood : slice_get nodes i ≡ Some one) (waited : is_expanded one.node ≡ false)
    (here : slice_get after i ≡ Some (marked Expanded one)) (others : (k : ℕ) → k ≢ i → slice_get after k ≡ slice_get nodes k) (long : length after ≡ length nodes)
    (t : System S ℕ) (class_of : S → S) (value : S → ℕ) (is_dead : S → Bool) (open_list open_list' : List Waiting) (old : AreNodes t class_of value is_dead nodes open_list) (alive : is_dead one.state ≡ false) where
  each : (P : ℕ → Found S → Type 0) → P i (marked Expanded one) → ((k : ℕ) (n : Found S) → k ≢ i → slice_get nodes k ≡ Some n → P k n) → (k : ℕ) (n : Found S) → slice_get after k ≡ Some n → P k n
  each = each_marked Expanded nodes after i one stood (λ _. refl) here others

  kept : AreKept class_of nodes after
  kept = kept_marked Expanded nodes after i one stood (λ _. refl) here others class_of

  pub nodes_marked : t.meets_goal one.state ≡ false → CostsAtLeast t (total_of value one) → (AreOwnClasses class_of → (later : S → ℕ) (later_dead : S → Bool) → IsLater value later is_dead later_dead after → IsConsistent t later → DetectsDeadEnds t later_dead → ReachingCostsAtLeast t one.state one.node.cost)
      → ((k : ℕ) (n : Found S) → slice_get nodes k ≡ Some n → IsWaiting is_dead n → total_of value one ≤ total_of value n)
      → ((k : ℕ) (n : Found S) → slice_get nodes k ≡ Some n → IsWaiting is_dead n → k ≢ i → Contains open_list' (entry n.node.cost (value n.state) k))
      → All (IsEntryOf value is_dead nodes) open_list' → AreNodes t class_of value is_dead after open_list'
  nodes_marked no_goal no_dearer cheapest least queued entries =
      let are = reached_marked Expanded nodes after i one stood (λ _. refl) here others t class_of value is_dead open_list old long in
      record {
        root = are.root;
        linked = are.linked;
        distinct = are.distinct;
        cheap = are.cheap;
        reached = are.reached;
        reachable = are.reachable;
        no_goal = each (λ k n. is_expanded n.node ≡ true → t.meets_goal n.state ≡ false) (λ _. no_goal) (λ k n _ at. old.no_goal k n at);
        no_dearer = each (λ k n. is_expanded n.node ≡ true → CostsAtLeast t (total_of value n)) (λ _. no_dearer) (λ k n _ at. old.no_dearer k n at);
        cheapest = λ own later later_dead is_later consistent detects. each (λ k n. is_expanded n.node ≡ true → ReachingCostsAtLeast t n.state n.node.cost)
            (λ _. cheapest own later later_dead is_later consistent detects)
            (λ k n _ at. old.cheapest own later later_dead (later_before nodes after class_of kept own value later is_dead later_dead is_later) consistent detects k n at);
        alive = each (λ k n. is_expanded n.node ≡ true → is_dead n.state ≡ false) (λ _. alive) (λ k n _ at. old.alive k n at);
        marked = each (λ k n. is_marked_dead n.node ≡ is_dead n.state) (sym alive) (λ k n _ at. old.marked k n at);
        ordered = λ later settled consistent p k x n at_p at_k expanded waits no_less.
            each (λ k n. IsWaiting is_dead n → value n.state ≤ later n.state → total_of later x ≤ total_of later n)
            (λ is_waiting. absurd (false≢true (sym is_waiting.0)))
            (λ k n _ at is_waiting rises.
            each (λ p x. is_expanded x.node ≡ true → total_of later x ≤ total_of later n)
            (λ _. omega (arith, least k n at is_waiting, settled i (marked Expanded one) here refl, rises))
            (λ p x _ at_x was_expanded. old.ordered later (settled_before nodes after class_of kept value later settled) consistent p k x n at_x at was_expanded is_waiting rises)
            p x at_p expanded)
            k n at_k waits no_less;
        queued = each (λ k n. IsWaiting is_dead n → Contains open_list' (entry n.node.cost (value n.state) k))
            (λ waits. absurd (false≢true (sym waits.0)))
            (λ k n other at waits. queued k n at waits other);
        entries = entries_kept nodes after class_of kept value is_dead open_list' entries;
      }

  pub turn_marked : IsTurn t value after i
  turn_marked = record {
    found = marked Expanded one;
    occurs = here;
    expanded = refl;
    greatest = λ later settled consistent. each (λ k n. is_expanded n.node ≡ true → total_of later n ≤ total_of later one)
        (λ _. omega arith)
        (λ k n _ at expanded. old.ordered later (settled_before nodes after class_of kept value later settled) consistent k i n one at stood expanded (waited, alive)
        (omega (arith, settled i (marked Expanded one) here refl)));
  }

  pub open_but_marked : AreClosed t class_of nodes → AreClosedBut t class_of after i
  open_but_marked all = each (λ k n. is_expanded n.node ≡ true → k ≢ i → IsClosedAt t class_of after n)
      (λ _ other. absurd (other refl))
      (λ k n _ at expanded _. open_kept nodes after class_of kept t n (all k n at expanded))

-- its turn is taken back: it waits again
module _ {S : Type 0} (t : System S ℕ) (class_of : S → S) (value : S → ℕ) (is_dead : S → Bool) (nodes after : List (Found S)) (i : ℕ) (turn : IsTurn t value nodes i)
    (here : slice_get after i ≡ Some (marked Reopened turn.found)) (others : (k : ℕ) → k ≢ i → slice_get after k ≡ slice_get nodes k) where
  back : (P : ℕ → Found S → Type 0) → P i (marked Reopened turn.found) → ((k : ℕ) (n : Found S) → k ≢ i → slice_get nodes k ≡ Some n → P k n) → (k : ℕ) (n : Found S) → slice_get after k ≡ Some n → P k n
  back = each_marked Reopened nodes after i turn.found turn.occurs (λ _. refl) here others

  kept_back : AreKept class_of nodes after
  kept_back = kept_marked Reopened nodes after i turn.found turn.occurs (λ _. refl) here others class_of

  -- of those that are expanded still, each was there
  expanded_back : (P : ℕ → Found S → Type 0) → ((k : ℕ) (n : Found S) → k ≢ i → slice_get nodes k ≡ Some n → is_expanded n.node ≡ true → P k n)
      → (k : ℕ) (n : Found S) → slice_get after k ≡ Some n → is_expanded n.node ≡ true → P k n
  expanded_back P elsewhere = back (λ k n. is_expanded n.node ≡ true → P k n) (λ expanded. absurd (false≢true expanded)) elsewhere

  pub open_unmarked : AreClosedBut t class_of nodes i → AreClosed t class_of after
  open_unmarked all = expanded_back (λ k n. IsClosedAt t class_of after n) (λ k n other at expanded. open_kept nodes after class_of kept_back t n (all k n at expanded other))

  pub nodes_unmarked : (open_list : List Waiting) → AreNodes t class_of value is_dead nodes open_list → length after ≡ length nodes
      → AreNodes t class_of value is_dead after (entry turn.found.node.cost (value turn.found.state) i ∷ open_list)
  nodes_unmarked open_list old long =
      let one = turn.found in
      let first = entry one.node.cost (value one.state) i in
      let alive = old.alive i one turn.occurs turn.expanded in
      let are = reached_marked Reopened nodes after i one turn.occurs (λ _. refl) here others t class_of value is_dead open_list old long in
      let of : IsEntryOf value is_dead after first = record { found = marked Reopened one; occurs = here; no_dearer = omega arith; alive = λ _. alive; estimate = λ _. refl } in
      record {
        root = are.root;
        linked = are.linked;
        distinct = are.distinct;
        cheap = are.cheap;
        reached = are.reached;
        reachable = are.reachable;
        no_goal = expanded_back (λ k n. t.meets_goal n.state ≡ false) (λ k n _ at. old.no_goal k n at);
        no_dearer = expanded_back (λ k n. CostsAtLeast t (total_of value n)) (λ k n _ at. old.no_dearer k n at);
        cheapest = λ own later later_dead is_later consistent detects. expanded_back (λ k n. ReachingCostsAtLeast t n.state n.node.cost)
            (λ k n _ at. old.cheapest own later later_dead (later_before nodes after class_of kept_back own value later is_dead later_dead is_later) consistent detects k n at);
        alive = expanded_back (λ k n. is_dead n.state ≡ false) (λ k n _ at. old.alive k n at);
        marked = back (λ k n. is_marked_dead n.node ≡ is_dead n.state) (sym alive) (λ k n _ at. old.marked k n at);
        ordered = λ later settled consistent p k x n at_p at_k expanded waits no_less.
            let was = settled_before nodes after class_of kept_back value later settled in
            expanded_back (λ p x. total_of later x ≤ total_of later n)
            (λ p x _ at_x was_expanded.
            back (λ k n. IsWaiting is_dead n → value n.state ≤ later n.state → total_of later x ≤ total_of later n)
            (λ _ _. turn.greatest later was consistent p x at_x was_expanded)
            (λ k n _ at is_waiting rises. old.ordered later was consistent p k x n at_x at was_expanded is_waiting rises)
            k n at_k waits no_less)
            p x at_p expanded;
        queued = back (λ k n. IsWaiting is_dead n → Contains (first ∷ open_list) (entry n.node.cost (value n.state) k))
            (λ _. Contains-here first open_list)
            (λ k n _ at waits. Contains-there first open_list (entry n.node.cost (value n.state) k) (old.queued k n at waits));
        entries = All-cons (IsEntryOf value is_dead after) first open_list of (entries_kept nodes after class_of kept_back value is_dead open_list old.entries);
      }

-- its turn ends: it is open as the others are
pub open_all : {S : Type 0} (t : System S ℕ) (class_of : S → S) (nodes : List (Found S)) (i : ℕ) (one : Found S) → slice_get nodes i ≡ Some one → IsClosedAt t class_of nodes one
    → AreClosedBut t class_of nodes i → AreClosed t class_of nodes
open_all {S} t class_of nodes i one occurs is_open others k n at expanded =
    elim (cases_eq k i) [
      | inl e ↦ subst (λ (x : Found S). IsClosedAt t class_of nodes x) (same_Some one n (sym occurs ∙ ap (slice_get nodes) (sym e) ∙ at)) is_open
      | inr other ↦ others k n at expanded other
    ]
