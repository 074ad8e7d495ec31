-- A search whose values rise, or by whose test more states are dead: what it keeps true by the old ones is true by the new ones.
use Rattle.std.proofs.Common.{◌≡◌, ℕ, ◌+◌, ◌≤◌, ◌≢◌, inl, inr, List, ◌∷◌, length, get_or, Bool, Some, true, false, refl, sym, ap, ◌∙◌, subst, le_refl, arith}
use Rattle.std.specs.Prelude.{slice_get, Contains, All, IsPermutation}
use Rattle.std.proofs.lemmas.Bool.{cases_eq, false≢true}
use Rattle.std.proofs.lemmas.Option.{same_Some}
use Rattle.std.proofs.lemmas.List.Elements.{All-cons, All-weaker}
use Rattle.std.proofs.lemmas.List.Sorted.{Contains-permutation, All-permutation}
use Rattle.model.proofs.ListLemmas.{Contains-here, Contains-there, Contains-got}
use Rattle.model.specs.Runs.{System, CostsAtLeast}
use Rattle.search.specs.declared.nodes.NodeStatus.TheVariants.{Dead}
use Rattle.search.specs.Outcome.{is_expanded, is_marked_dead, ReachingCostsAtLeast}
use Rattle.search.specs.Nodes.{Waiting, sum_of, estimate_of, place_of, entry, entries_at, IsWaiting, total_of, IsEntryOf, has_been_expanded, parent_of, Found, Leads, AreSettled, IsLater, AreNodes, IsClosedAt, AreClosed, IsTurn, marked}
use Rattle.search.proofs.Kept.{AreKept, open_kept, settled_before, later_before, alive_before}
use Rattle.search.proofs.Lists.{get_there}
use Rattle.search.proofs.Marked.{each_marked, kept_marked, reached_marked}
use Rattle.search.proofs.NodesLemmas.{expanded_been}
use Rattle.search.proofs.Single.{not_at}

module _ {S : Type 0} (value value' : S → ℕ) (is_dead is_dead' : S → Bool) (nodes : List (Found S)) (becomes : IsLater value value' is_dead is_dead' nodes) where
  -- what the search may still come to from there, it may come to from here
  pub settled_trans : (later : S → ℕ) → AreSettled value' later nodes → AreSettled value later nodes
  settled_trans later settled k n at expanded = settled k n at expanded ∙ becomes.settled k n at expanded

  pub later_trans : (later : S → ℕ) (later_dead : S → Bool) → IsLater value' later is_dead' later_dead nodes → IsLater value later is_dead later_dead nodes
  later_trans later later_dead is_later = record {
    settled = settled_trans later is_later.settled;
    settled_dead = λ k n at expanded. is_later.settled_dead k n at expanded ∙ becomes.settled_dead k n at expanded;
    no_less = λ k n at. omega (arith, becomes.no_less k n at, is_later.no_less k n at);
    stays_dead = λ k n at dead. is_later.stays_dead k n at (becomes.stays_dead k n at dead);
  }

  pub waits_before : (k : ℕ) (n : Found S) → slice_get nodes k ≡ Some n → IsWaiting is_dead' n → IsWaiting is_dead n
  waits_before k n at waits = (waits.0, alive_before value is_dead nodes value' is_dead' becomes k n at waits.1)

  -- a parent has been expanded, so nothing has changed there
  leads_later : (t : System S ℕ) (n : Found S) → Leads t value is_dead nodes n → Leads t value' is_dead' nodes n
  leads_later t n leads =
      let at = leads.occurs in
      record {
        parent = leads.parent;
        occurs = at;
        cost = leads.cost;
        expanded = leads.expanded;
        step = leads.step;
        no_goal = leads.no_goal;
        alive = becomes.settled_dead (parent_of n.node) leads.parent at leads.expanded ∙ leads.alive;
        no_dearer = λ plan solves. omega (arith, leads.no_dearer plan solves, becomes.settled (parent_of n.node) leads.parent at leads.expanded);
      }

  been : (n : Found S) → is_expanded n.node ≡ true → has_been_expanded n.node ≡ true
  been n expanded = expanded_been n.node.status expanded

  -- so all that the search keeps true of the found states is true by the new values, once the open list has their entries
  pub nodes_later : (t : System S ℕ) (class_of : S → S) (open_list open_list' : List Waiting) → AreNodes t class_of value is_dead nodes open_list
      → ((k : ℕ) (n : Found S) → slice_get nodes k ≡ Some n → is_marked_dead n.node ≡ is_dead' n.state)
      → ((k : ℕ) (n : Found S) → slice_get nodes k ≡ Some n → IsWaiting is_dead' n → Contains open_list' (entry n.node.cost (value' n.state) k))
      → All (IsEntryOf value' is_dead' nodes) open_list' → AreNodes t class_of value' is_dead' nodes open_list'
  nodes_later t class_of open_list open_list' old marks queued entries = record {
    root = old.root;
    linked = λ k n at elsewhere. leads_later t n (old.linked k n at elsewhere);
    distinct = old.distinct;
    cheap = old.cheap;
    reached = old.reached;
    reachable = old.reachable;
    no_goal = old.no_goal;
    no_dearer = λ k n at expanded plan solves. omega (arith, old.no_dearer k n at expanded plan solves, becomes.settled k n at (been n expanded));
    cheapest = λ own later later_dead is_later consistent detects. old.cheapest own later later_dead (later_trans later later_dead is_later) consistent detects;
    alive = λ k n at expanded. becomes.settled_dead k n at (been n expanded) ∙ old.alive k n at expanded;
    marked = marks;
    ordered = λ later settled consistent j k m n at_m at_n expanded waits rises.
        old.ordered later (settled_trans later settled) consistent j k m n at_m at_n expanded (waits_before k n at_n waits) (omega (arith, becomes.no_less k n at_n, rises));
    queued = queued;
    entries = entries;
  }

  -- nor does the turn of a state end
  abbrev pub turn_later : (t : System S ℕ) (i : ℕ) → IsTurn t value nodes i → IsTurn t value' nodes i
  turn_later t i turn = record {
    found = turn.found;
    occurs = turn.occurs;
    expanded = turn.expanded;
    greatest = λ later settled. turn.greatest later (settled_trans later settled);
  }

-- The values of all found states are the same.
module _ {S : Type 0} (value value' : S → ℕ) (is_dead is_dead' : S → Bool) (nodes : List (Found S))
    (same : (k : ℕ) (n : Found S) → slice_get nodes k ≡ Some n → value' n.state ≡ value n.state) (same_dead : (k : ℕ) (n : Found S) → slice_get nodes k ≡ Some n → is_dead' n.state ≡ is_dead n.state) where
  pub later_alike : IsLater value value' is_dead is_dead' nodes
  later_alike = record {
    settled = λ k n at _. same k n at;
    settled_dead = λ k n at _. same_dead k n at;
    no_less = λ k n at. omega (arith, same k n at);
    stays_dead = λ k n at dead. same_dead k n at ∙ dead;
  }

  entry_alike : (w : Waiting) → IsEntryOf value is_dead nodes w → IsEntryOf value' is_dead' nodes w
  entry_alike w of = record {
    found = of.found;
    occurs = of.occurs;
    no_dearer = of.no_dearer;
    alive = λ sums. same_dead (place_of w) of.found of.occurs ∙ of.alive sums;
    estimate = λ sums. of.estimate sums ∙ sym (same (place_of w) of.found of.occurs);
  }

  pub nodes_alike : (t : System S ℕ) (class_of : S → S) (open_list : List Waiting) → AreNodes t class_of value is_dead nodes open_list → AreNodes t class_of value' is_dead' nodes open_list
  nodes_alike t class_of open_list old =
      nodes_later value value' is_dead is_dead' nodes later_alike t class_of open_list open_list old
      (λ k n at. old.marked k n at ∙ sym (same_dead k n at))
      (λ k n at waits.
      subst (λ (v : ℕ). Contains open_list (entry n.node.cost v k)) (sym (same k n at)) (old.queued k n at (waits.0, sym (same_dead k n at) ∙ waits.1)))
      (All-weaker (IsEntryOf value is_dead nodes) (IsEntryOf value' is_dead' nodes) entry_alike open_list old.entries)

  abbrev pub turn_alike : (t : System S ℕ) (i : ℕ) → IsTurn t value nodes i → IsTurn t value' nodes i
  turn_alike t i turn = turn_later value value' is_dead is_dead' nodes later_alike t i turn

-- The values of all found states but one are the same, and it has never been expanded.
pub record DiffersAt {S : Type 0} (value value' : S → ℕ) (is_dead is_dead' : S → Bool) (nodes : List (Found S)) (i : ℕ) : Type 0 where
  pub same : (k : ℕ) (n : Found S) → k ≢ i → slice_get nodes k ≡ Some n → value' n.state ≡ value n.state
  pub same_dead : (k : ℕ) (n : Found S) → k ≢ i → slice_get nodes k ≡ Some n → is_dead' n.state ≡ is_dead n.state
  pub new : (n : Found S) → slice_get nodes i ≡ Some n → has_been_expanded n.node ≡ false
  pub no_less : (n : Found S) → slice_get nodes i ≡ Some n → value n.state ≤ value' n.state
  pub stays_dead : (n : Found S) → slice_get nodes i ≡ Some n → is_dead n.state ≡ true → is_dead' n.state ≡ true

module _ {S : Type 0} (value value' : S → ℕ) (is_dead is_dead' : S → Bool) (nodes : List (Found S)) (i : ℕ) (differs : DiffersAt value value' is_dead is_dead' nodes i) where
  pub later_but : IsLater value value' is_dead is_dead' nodes
  later_but = record {
    settled = λ k n at expanded. differs.same k n (other k n at expanded) at;
    settled_dead = λ k n at expanded. differs.same_dead k n (other k n at expanded) at;
    no_less = λ k n at.
        elim (cases_eq k i) [
          | inl is ↦ differs.no_less n (ap (slice_get nodes) (sym is) ∙ at)
          | inr elsewhere ↦ omega (arith, differs.same k n elsewhere at)
        ];
    stays_dead = λ k n at dead.
        elim (cases_eq k i) [
          | inl is ↦ differs.stays_dead n (ap (slice_get nodes) (sym is) ∙ at) dead
          | inr elsewhere ↦ differs.same_dead k n elsewhere at ∙ dead
        ];
  }
    where
      other : (k : ℕ) (n : Found S) → slice_get nodes k ≡ Some n → has_been_expanded n.node ≡ true → k ≢ i
      other k n at expanded is = false≢true (sym (differs.new n (ap (slice_get nodes) (sym is) ∙ at)) ∙ expanded)

  -- the entries that are left, none of which is current for that state
  module _ (one : Found S) (stood : slice_get nodes i ≡ Some one) (rest : List Waiting) (gone : entries_at i one.node.cost rest ≡ 0)
      (after : List (Found S)) (now : Found S) (here : slice_get after i ≡ Some now) (same_cost : now.node.cost ≡ one.node.cost)
      (others : (k : ℕ) → k ≢ i → slice_get after k ≡ slice_get nodes k) where
    entry_later : (w : Waiting) → Contains rest w → IsEntryOf value is_dead nodes w → IsEntryOf value' is_dead' after w
    entry_later w among of =
        elim (cases_eq (place_of w) i) [
          | inl is ↦
              let same : of.found ≡ one = same_Some of.found one (sym of.occurs ∙ ap (slice_get nodes) is ∙ stood) in
              let stale : now.node.cost + estimate_of w ≢ sum_of w = λ sums. not_at i one.node.cost rest gone w among is (omega (arith, same_cost, sums)) in
              record {
                found = now;
                occurs = ap (slice_get after) is ∙ here;
                no_dearer = omega (arith, of.no_dearer, ap (λ (n : Found S). n.node.cost) same, same_cost);
                alive = λ sums. absurd (stale sums);
                estimate = λ sums. absurd (stale sums);
              }
          | inr other ↦ record {
            found = of.found;
            occurs = others (place_of w) other ∙ of.occurs;
            no_dearer = of.no_dearer;
            alive = λ sums. differs.same_dead (place_of w) of.found other of.occurs ∙ of.alive sums;
            estimate = λ sums. of.estimate sums ∙ sym (differs.same (place_of w) of.found other of.occurs);
          }
        ]

    pub entries_later : All (IsEntryOf value is_dead nodes) rest → All (IsEntryOf value' is_dead' after) rest
    entries_later all k d below =
        entry_later (get_or rest k d) (Contains-got rest k (get_or rest k d) (get_there rest k d below)) (all k d below)

-- The value of a state that waits, was never expanded, and is in the open list no more, is raised. It joins the open list by its new value.
module _ {S : Type 0} (t : System S ℕ) (class_of : S → S) (value value' : S → ℕ) (is_dead : S → Bool) (nodes : List (Found S)) (i : ℕ) (differs : DiffersAt value value' is_dead is_dead nodes i)
    (one : Found S) (stood : slice_get nodes i ≡ Some one) (alive : is_dead one.state ≡ false)
    (open_list rest open_list' : List Waiting) (old : AreNodes t class_of value is_dead nodes open_list) (gone : entries_at i one.node.cost rest ≡ 0)
    (left : (k : ℕ) (n : Found S) → slice_get nodes k ≡ Some n → IsWaiting is_dead n → k ≢ i → Contains rest (entry n.node.cost (value n.state) k))
    (entries : All (IsEntryOf value is_dead nodes) rest) (joins : IsPermutation (entry one.node.cost (value' one.state) i ∷ rest) open_list') where
  pub nodes_raised : AreNodes t class_of value' is_dead nodes open_list'
  nodes_raised =
      let first = entry one.node.cost (value' one.state) i in
      let of : IsEntryOf value' is_dead nodes first = record { found = one; occurs = stood; no_dearer = omega arith; alive = λ _. alive; estimate = λ _. refl } in
      nodes_later value value' is_dead is_dead nodes (later_but value value' is_dead is_dead nodes i differs) t class_of open_list open_list' old old.marked
      (λ k n at waits.
      elim (cases_eq k i) [
        | inl is ↦
            let same : one ≡ n = same_Some one n (sym stood ∙ ap (slice_get nodes) (sym is) ∙ at) in
            let it : first ≡ entry n.node.cost (value' n.state) k = ap (λ (x : Found S). entry x.node.cost (value' x.state) i) same ∙ ap (λ (p : ℕ). entry n.node.cost (value' n.state) p) (sym is) in
            subst (λ (w : Waiting). Contains open_list' w) it (Contains-permutation (first ∷ rest) open_list' first joins (Contains-here first rest))
        | inr other ↦
            let w = entry n.node.cost (value' n.state) k in
            let was : entry n.node.cost (value n.state) k ≡ w = ap (λ (v : ℕ). entry n.node.cost v k) (sym (differs.same k n other at)) in
            Contains-permutation (first ∷ rest) open_list' w joins (Contains-there first rest w (subst (λ (x : Waiting). Contains rest x) was (left k n at waits other)))
      ])
      (All-permutation (IsEntryOf value' is_dead nodes) (first ∷ rest) open_list' joins
      (All-cons (IsEntryOf value' is_dead nodes) first rest of
      (entries_later value value' is_dead is_dead nodes i differs one stood rest gone nodes one stood refl (λ _ _. refl) entries)))

-- A state that waits, was never expanded, and is in the open list no more, is found to be dead, and is marked so.
module _ {S : Type 0} (t : System S ℕ) (class_of : S → S) (value : S → ℕ) (is_dead is_dead' : S → Bool) (nodes after : List (Found S)) (i : ℕ) (differs : DiffersAt value value is_dead is_dead' nodes i)
    (one : Found S) (stood : slice_get nodes i ≡ Some one) (dead : is_dead' one.state ≡ true)
    (here : slice_get after i ≡ Some (marked Dead one)) (others : (k : ℕ) → k ≢ i → slice_get after k ≡ slice_get nodes k) (long : length after ≡ length nodes)
    (open_list rest : List Waiting) (old : AreNodes t class_of value is_dead nodes open_list) (gone : entries_at i one.node.cost rest ≡ 0)
    (left : (k : ℕ) (n : Found S) → slice_get nodes k ≡ Some n → IsWaiting is_dead n → k ≢ i → Contains rest (entry n.node.cost (value n.state) k))
    (entries : All (IsEntryOf value is_dead nodes) rest) where
  lasting : has_been_expanded one.node ≡ true → false ≡ true
  lasting expanded = absurd (false≢true (sym (differs.new one stood) ∙ expanded))

  each : (P : ℕ → Found S → Type 0) → P i (marked Dead one) → ((k : ℕ) (n : Found S) → k ≢ i → slice_get nodes k ≡ Some n → P k n) → (k : ℕ) (n : Found S) → slice_get after k ≡ Some n → P k n
  each = each_marked Dead nodes after i one stood lasting here others

  pub kept_dead : AreKept class_of nodes after
  kept_dead = kept_marked Dead nodes after i one stood lasting here others class_of

  -- what has changed is at that place alone, which was never expanded
  becomes : IsLater value value is_dead is_dead' after
  becomes = record {
    settled = λ _ _ _ _. refl;
    settled_dead = each (λ k n. has_been_expanded n.node ≡ true → is_dead' n.state ≡ is_dead n.state)
        (λ expanded. absurd (false≢true expanded))
        (λ k n other at _. differs.same_dead k n other at);
    no_less = λ _ n _. le_refl (value n.state);
    stays_dead = each (λ k n. is_dead n.state ≡ true → is_dead' n.state ≡ true)
        (λ _. dead)
        (λ k n other at was. differs.same_dead k n other at ∙ was);
  }

  expanded_still : (P : ℕ → Found S → Type 0) → ((k : ℕ) (n : Found S) → k ≢ i → slice_get nodes k ≡ Some n → is_expanded n.node ≡ true → P k n)
      → (k : ℕ) (n : Found S) → slice_get after k ≡ Some n → is_expanded n.node ≡ true → P k n
  expanded_still P elsewhere = each (λ k n. is_expanded n.node ≡ true → P k n) (λ expanded. absurd (false≢true expanded)) elsewhere

  -- what is open stays open
  pub open_dead : AreClosed t class_of nodes → AreClosed t class_of after
  open_dead are_open = expanded_still (λ k n. IsClosedAt t class_of after n) (λ k n _ at expanded. open_kept nodes after class_of kept_dead t n (are_open k n at expanded))

  pub nodes_dead : AreNodes t class_of value is_dead' after rest
  nodes_dead =
      let are = reached_marked Dead nodes after i one stood lasting here others t class_of value is_dead open_list old long in
      record {
        root = are.root;
        linked = λ k n at elsewhere. leads_later value value is_dead is_dead' after becomes t n (are.linked k n at elsewhere);
        distinct = are.distinct;
        cheap = are.cheap;
        reached = are.reached;
        reachable = are.reachable;
        no_goal = expanded_still (λ k n. t.meets_goal n.state ≡ false) (λ k n _ at. old.no_goal k n at);
        no_dearer = expanded_still (λ k n. CostsAtLeast t (total_of value n)) (λ k n _ at. old.no_dearer k n at);
        cheapest = λ own later later_dead is_later consistent detects.
            let before = later_before nodes after class_of kept_dead own value later is_dead later_dead (later_trans value value is_dead is_dead' after becomes later later_dead is_later) in
            expanded_still (λ k n. ReachingCostsAtLeast t n.state n.node.cost) (λ k n _ at. old.cheapest own later later_dead before consistent detects k n at);
        alive = expanded_still (λ k n. is_dead' n.state ≡ false) (λ k n other at expanded. differs.same_dead k n other at ∙ old.alive k n at expanded);
        marked = each (λ k n. is_marked_dead n.node ≡ is_dead' n.state) (sym dead) (λ k n other at. old.marked k n at ∙ sym (differs.same_dead k n other at));
        ordered = λ later settled consistent p k x n at_p at_k expanded waits rises.
            let was = settled_before nodes after class_of kept_dead value later settled in
            expanded_still (λ p x. total_of later x ≤ total_of later n)
            (λ p x _ at_x was_expanded.
            each (λ k n. IsWaiting is_dead' n → value n.state ≤ later n.state → total_of later x ≤ total_of later n)
            (λ is_waiting _. absurd (false≢true (sym is_waiting.1 ∙ dead)))
            (λ k n other at is_waiting no_less. old.ordered later was consistent p k x n at_x at was_expanded (is_waiting.0, sym (differs.same_dead k n other at) ∙ is_waiting.1) no_less)
            k n at_k waits rises)
            p x at_p expanded;
        queued = each (λ k n. IsWaiting is_dead' n → Contains rest (entry n.node.cost (value n.state) k))
            (λ is_waiting. absurd (false≢true (sym is_waiting.1 ∙ dead)))
            (λ k n other at is_waiting. left k n at (is_waiting.0, sym (differs.same_dead k n other at) ∙ is_waiting.1) other);
        entries = entries_later value value is_dead is_dead' nodes i differs one stood rest gone after (marked Dead one) here refl others entries;
      }
