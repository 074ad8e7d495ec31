-- What the found states prove once no state waits that is cheaper than a goal state.
use Rattle.std.proofs.Common.{◌≡◌, ℕ, zero, suc, ◌+◌, ◌*◌, ◌≤◌, inl, inr, List, [], ◌∷◌, length, Bool, Some, true, false, refl, sym, ap, ◌∙◌, subst, arith}
use Rattle.std.specs.Prelude.{slice_get, Contains, if◌then◌else◌}
use Rattle.std.proofs.lemmas.Bool.{false≢true}
use Rattle.std.proofs.lemmas.Option.{same_Some, slice_get_within}
use Rattle.std.proofs.lemmas.List.Sums.{sum_by-append}
use Rattle.model.specs.Runs.{System, run, cost_of_all, CostsAtLeast, Solves, IsOptimal, IsUnsolvable}
use Rattle.model.specs.Claims.{Claim, bound, none, Allows, ClaimHolds, Mark, expanded, cut, dead, Line, IsListedWithin, AreTrue, IsClosed}
use Rattle.model.proofs.ClaimsLemmas.{claim-of_closed}
use Rattle.model.proofs.ListLemmas.{Contains-here, Contains-there, Contains-cases, Contains-none}
use Rattle.search.specs.declared.nodes.Node.{Node}
use Rattle.search.specs.Estimates.{IsAdmissible, IsConsistent}
use Rattle.search.specs.DeadEnds.{DetectsDeadEnds, ReportsDeadEnds}
use Rattle.search.specs.Outcome.{AreOfOneClass, AreOwnClasses, AreClassesOf, is_expanded, is_marked_dead, line_of, lines_of, IsReachableAt, ReachingCostsAtLeast, AreFound, AreExpandedWithin}
use Rattle.search.specs.Nodes.{Waiting, Found, found_of, IsWaiting, total_of, AreNodes, IsFoundWithin, AreClosed, parent_of, begins, follows, IsPath, IsReachedIn, IsWay, dearest}
use Rattle.search.proofs.Kept.{later_same}
use Rattle.search.proofs.NodesLemmas.{run-push}
use Rattle.search.proofs.ShortWays.{short_way}
use Rattle.search.proofs.Linked.{found_of-get, get-found_of, length-found_of}
use Rattle.search.proofs.Lists.{get_exists}

-- a line of the listing is that of a place
line-at : {S : Type 0} (value : S → ℕ) (is_dead : S → Bool) (states : List S) (all : List Node) (line : Line S) → Contains (lines_of value is_dead states all) line
    → (k : ℕ) × (s : S) × (r : Node) × (slice_get states k ≡ Some s) × (slice_get all k ≡ Some r) × (line_of value is_dead s r ≡ line)
line-at value is_dead [] all line at = absurd (Contains-none line at)
line-at value is_dead (s ∷ states) [] line at = absurd (Contains-none line at)
line-at {S} value is_dead (s ∷ states) (r ∷ all) line at =
    elim (Contains-cases (line_of value is_dead s r) (lines_of value is_dead states all) line at) [
      | inl is ↦ (0, s, r, refl, refl, is)
      | inr later ↦ let (k, s', r', is_s, is_r, is) = line-at value is_dead states all line later in (suc k, s', r', is_s, is_r, is)
    ]

at-line : {S : Type 0} (value : S → ℕ) (is_dead : S → Bool) (states : List S) (all : List Node) (k : ℕ) (s : S) (r : Node) → slice_get states k ≡ Some s → slice_get all k ≡ Some r
    → Contains (lines_of value is_dead states all) (line_of value is_dead s r)
at-line value is_dead [] all k s r is_s is_r = absurd (cc)
at-line value is_dead (x ∷ states) [] k s r is_s is_r = absurd (cc)
at-line {S} value is_dead (x ∷ states) (y ∷ all) zero s r is_s is_r =
    let a : x ≡ s = same_Some x s is_s in
    let b : y ≡ r = same_Some y r is_r in
    subst (λ l. Contains (line_of value is_dead x y ∷ lines_of value is_dead states all) l) (ap (λ (w : S). line_of value is_dead w y) a ∙ ap (λ (w : Node). line_of value is_dead s w) b)
    (Contains-here (line_of value is_dead x y) (lines_of value is_dead states all))
at-line value is_dead (x ∷ states) (y ∷ all) (suc k) s r is_s is_r =
    Contains-there (line_of value is_dead x y) (lines_of value is_dead states all) (line_of value is_dead s r) (at-line value is_dead states all k s r is_s is_r)

-- what a mark reports
abbrev rest_of : Mark → ℕ
rest_of expanded = 0
rest_of (cut rest) = rest
rest_of dead = 0

open_if : (was_expanded reported : Bool) (estimate : ℕ) → (if was_expanded then expanded else (if reported then dead else cut estimate)) ≡ expanded → was_expanded ≡ true
open_if true reported estimate is = refl
open_if false true estimate is = absurd (cc)
open_if false false estimate is = absurd (cc)

cut_if : (was_expanded reported : Bool) (estimate rest : ℕ) → (if was_expanded then expanded else (if reported then dead else cut estimate)) ≡ cut rest → (was_expanded ≡ false) × (reported ≡ false) × (rest ≡ estimate)
cut_if true reported estimate rest is = absurd (cc)
cut_if false true estimate rest is = absurd (cc)
cut_if false false estimate rest is = (refl, refl, sym (ap rest_of is))

dead_if : (was_expanded reported : Bool) (estimate : ℕ) → (if was_expanded then expanded else (if reported then dead else cut estimate)) ≡ dead → reported ≡ true
dead_if true reported estimate is = absurd (cc)
dead_if false true estimate is = refl
dead_if false false estimate is = absurd (cc)

-- a cut is told with the estimate of its state
pub cut_reported : {S : Type 0} (value : S → ℕ) (is_dead : S → Bool) (states : List S) (all : List Node) (line : Line S) (rest : ℕ) → Contains (lines_of value is_dead states all) line → line.mark ≡ cut rest
    → rest ≡ value line.state
cut_reported {S} value is_dead states all line rest at mark =
    let (k, s, r, is_s, is_r, is) = line-at value is_dead states all line at in
    let (waits, alive, is_value) = cut_if (is_expanded r) (is_dead s) (value s) rest (ap (λ (l : Line S). l.mark) is ∙ mark) in
    is_value ∙ ap (λ (l : Line S). value l.state) is

-- what is told to be a dead end is reported dead
pub dead_reported : {S : Type 0} (value : S → ℕ) (is_dead : S → Bool) (states : List S) (all : List Node) (line : Line S) → Contains (lines_of value is_dead states all) line → line.mark ≡ dead
    → is_dead line.state ≡ true
dead_reported {S} value is_dead states all line at mark =
    let (k, s, r, is_s, is_r, is) = line-at value is_dead states all line at in
    ap (λ (l : Line S). is_dead l.state) (sym is) ∙ dead_if (is_expanded r) (is_dead s) (value s) (ap (λ (l : Line S). l.mark) is ∙ mark)

-- so what the lines tell is true, if the estimate is never more than what is still to pay, and only dead ends are reported
pub lines_are_true : {S A : Type 0} (t : System S A) (value : S → ℕ) (is_dead : S → Bool) (states : List S) (all : List Node) → IsAdmissible t value → ReportsDeadEnds t is_dead
    → AreTrue t (lines_of value is_dead states all)
lines_are_true t value is_dead states all admissible reports = record {
  cuts = λ line rest end plan at mark runs goal. omega (arith, cut_reported value is_dead states all line rest at mark, admissible line.state end plan runs goal);
  dead_ends = λ line end plan at mark runs. reports line.state (dead_reported value is_dead states all line at mark) end plan runs;
}

-- what a listing needs of the found states
pub record AreListed {S : Type 0} (t : System S ℕ) (class_of : S → S) (value : S → ℕ) (is_dead : S → Bool) (nodes : List (Found S)) : Type 0 where
  pub root : (n : Found S) × (slice_get nodes 0 ≡ Some n) × (n.state ≡ t.initial) × (n.node.cost ≡ 0)
  pub distinct : (j k : ℕ) (m n : Found S) → slice_get nodes j ≡ Some m → slice_get nodes k ≡ Some n → m.state ≡ n.state → j ≡ k
  pub cheap : (k : ℕ) (n : Found S) → slice_get nodes k ≡ Some n → n.node.cost ≤ length nodes * dearest
  pub reachable : (k : ℕ) (n : Found S) → slice_get nodes k ≡ Some n → IsReachableAt t n.state n.node.cost
  pub no_goal : (k : ℕ) (n : Found S) → slice_get nodes k ≡ Some n → is_expanded n.node ≡ true → t.meets_goal n.state ≡ false
  pub cheapest : AreOwnClasses class_of → IsConsistent t value → DetectsDeadEnds t is_dead → (k : ℕ) (n : Found S) → slice_get nodes k ≡ Some n → is_expanded n.node ≡ true → ReachingCostsAtLeast t n.state n.node.cost
  pub alive : (k : ℕ) (n : Found S) → slice_get nodes k ≡ Some n → is_expanded n.node ≡ true → is_dead n.state ≡ false
  pub marked : (k : ℕ) (n : Found S) → slice_get nodes k ≡ Some n → is_marked_dead n.node ≡ is_dead n.state

-- what holds of them at any time suffices
pub are_listed : {S : Type 0} (t : System S ℕ) (class_of : S → S) (value : S → ℕ) (is_dead : S → Bool) (nodes : List (Found S)) (open_list : List Waiting) → AreNodes t class_of value is_dead nodes open_list → AreListed t class_of value is_dead nodes
are_listed {S} t class_of value is_dead nodes open_list are = record {
  root = are.root;
  distinct = are.distinct;
  cheap = are.cheap;
  reachable = are.reachable;
  no_goal = are.no_goal;
  cheapest = λ own consistent detects. are.cheapest own value is_dead (later_same value is_dead nodes) consistent detects;
  alive = are.alive;
  marked = are.marked;
}

module _ {S : Type 0} (t : System S ℕ) (class_of : S → S) (value : S → ℕ) (is_dead : S → Bool) (states : List S) (all : List Node)
    (one_each : length all ≡ length states) where
  pub node_at : (k : ℕ) (s : S) (r : Node) → slice_get states k ≡ Some s → slice_get all k ≡ Some r
      → slice_get (found_of states all) k ≡ Some (record { state = s; node = r })
  node_at k s r is_s is_r = get-found_of states all k s r is_s is_r

  listed_within : (s : S) (cost : ℕ) → IsFoundWithin class_of (found_of states all) s cost → IsListedWithin (AreOfOneClass class_of) (lines_of value is_dead states all) s cost
  listed_within s cost (k, n, at, is, within) =
      let parts = found_of-get states all k n at in
      (line_of value is_dead n.state n.node, at-line value is_dead states all k n.state n.node parts.0 parts.1, is, within)

  module _ (listed : AreListed t class_of value is_dead (found_of states all)) where
    pub closed : (claim : Claim) → AreClosed t class_of (found_of states all)
        → ((k : ℕ) (n : Found S) → slice_get (found_of states all) k ≡ Some n → IsWaiting is_dead n → Allows claim (total_of value n))
        → IsClosed t (AreOfOneClass class_of) claim (lines_of value is_dead states all)
    closed claim are_open allowed = record {
      initial_listed = let (n, at, is, free) = listed.root in listed_within t.initial 0 (0, n, at, ap class_of is, omega (arith, free));
      successors_listed = λ line a next at mark step.
          let (k, s, r, is_s, is_r, is) = line-at value is_dead states all line at in
          let there = node_at k s r is_s is_r in
          let was_expanded : is_expanded r ≡ true = open_if (is_expanded r) (is_dead s) (value s) (ap (λ (l : Line S). l.mark) is ∙ mark) in
          let same : s ≡ line.state = ap (λ (l : Line S). l.state) is in
          let same_cost : r.cost ≡ line.cost = ap (λ (l : Line S). l.cost) is in
          subst (λ c. IsListedWithin (AreOfOneClass class_of) (lines_of value is_dead states all) next (c + t.cost a)) same_cost
          (listed_within next (r.cost + t.cost a)
          (are_open k (record { state = s; node = r }) there was_expanded a next (ap (λ (x : S). t.step x a) same ∙ step)));
      expanded_goals_allowed = λ line at mark goal.
          let (k, s, r, is_s, is_r, is) = line-at value is_dead states all line at in
          let there = node_at k s r is_s is_r in
          let was_expanded : is_expanded r ≡ true = open_if (is_expanded r) (is_dead s) (value s) (ap (λ (l : Line S). l.mark) is ∙ mark) in
          let same : s ≡ line.state = ap (λ (l : Line S). l.state) is in
          absurd (false≢true (sym (listed.no_goal k (record { state = s; node = r }) there was_expanded) ∙ ap t.meets_goal same ∙ goal));
      cuts_allowed = λ line rest at mark.
          let (k, s, r, is_s, is_r, is) = line-at value is_dead states all line at in
          let there = node_at k s r is_s is_r in
          let (waits, alive, is_value) = cut_if (is_expanded r) (is_dead s) (value s) rest (ap (λ (l : Line S). l.mark) is ∙ mark) in
          let same_cost : r.cost ≡ line.cost = ap (λ (l : Line S). l.cost) is in
          subst (λ c. Allows claim (c + rest)) same_cost (subst (λ c. Allows claim (r.cost + c)) (sym is_value) (allowed k (record { state = s; node = r }) there (waits, alive)));
    }

    pub found_states : (claim : Claim) (max_states : ℕ) → length states ≤ max_states → IsClosed t (AreOfOneClass class_of) claim (lines_of value is_dead states all)
        → AreFound t class_of value is_dead claim max_states states all
    found_states claim max_states within is_closed = record {
      one_for_each = one_each;
      within_limit = within;
      distinct = λ j k s at_j at_k.
          let r_j = get_exists all j (omega (arith, slice_get_within states j s at_j)) in
          let r_k = get_exists all k (omega (arith, slice_get_within states k s at_k)) in
          let there_j = node_at j s r_j.0 at_j r_j.1 in
          let there_k = node_at k s r_k.0 at_k r_k.1 in
          listed.distinct j k (record { state = s; node = r_j.0 }) (record { state = s; node = r_k.0 }) there_j there_k refl;
      reachable = λ k s r at_s at_r. listed.reachable k (record { state = s; node = r }) (node_at k s r at_s at_r);
      cheap = λ k r at_r.
          let s = get_exists states k (omega (arith, slice_get_within all k r at_r)) in
          let there = node_at k s.0 r s.1 at_r in
          rw (length-found_of states all one_each) at (listed.cheap k (record { state = s.0; node = r }) there);
      expanded_cheapest = λ own consistent detects k s r at_s at_r was_expanded. listed.cheapest own consistent detects k (record { state = s; node = r }) (node_at k s r at_s at_r) was_expanded;
      marked = λ k s r at_s at_r. listed.marked k (record { state = s; node = r }) (node_at k s r at_s at_r);
      expanded_alive = λ k s r at_s at_r was_expanded. listed.alive k (record { state = s; node = r }) (node_at k s r at_s at_r) was_expanded;
      closed = is_closed;
    }

    -- what a closed listing claims is true
    pub claimed : AreClassesOf t class_of → IsAdmissible t value → ReportsDeadEnds t is_dead → (claim : Claim) → IsClosed t (AreOfOneClass class_of) claim (lines_of value is_dead states all) → ClaimHolds t claim
    claimed classes admissible reports claim is_closed =
        claim-of_closed t (AreOfOneClass class_of) classes claim (lines_of value is_dead states all) (lines_are_true t value is_dead states all admissible reports) is_closed

  module _ (open_list : List Waiting) (nodes : AreNodes t class_of value is_dead (found_of states all) open_list) where
    listing : AreListed t class_of value is_dead (found_of states all)
    listing = are_listed t class_of value is_dead (found_of states all) open_list nodes

    -- the way to a found state, among the nodes alone
    path_of : (k : ℕ) (way : List ℕ) → IsWay (found_of states all) k way → IsPath all k way
    path_of k way (begins first is) = begins first is
    path_of k way (follows n before elsewhere at earlier is) =
        follows n.node before elsewhere (found_of-get states all k n at).1 (path_of (parent_of n.node) before earlier) is

    -- the parents lead to each node
    pub reached_in : (k : ℕ) (n : Found S) → slice_get (found_of states all) k ≡ Some n → IsReachedIn all k (length all)
    reached_in k n at =
        let (way, leads) = nodes.reached k n at in
        let path = path_of k way leads in
        (way, path, short_way (λ (r : Node). r) all k way path)

    -- the actions along the parents lead from the initial state to the node, and cost no more
    pub path_runs : (k : ℕ) (path : List ℕ) (n : Found S) → IsPath all k path → slice_get (found_of states all) k ≡ Some n
        → (run t t.initial path ≡ Some n.state) × (cost_of_all t path ≤ n.node.cost)
    path_runs k path n (begins first is) there =
        let same : nodes.root.0 ≡ n = same_Some nodes.root.0 n (sym nodes.root.1 ∙ ap (slice_get (found_of states all)) (sym first) ∙ there) in (
          ap (λ (p : List ℕ). run t t.initial p) is ∙ ap Some (sym nodes.root.2 ∙ ap (λ (x : Found S). x.state) same),
          omega (arith, ap (λ (p : List ℕ). cost_of_all t p) is),
        )
    path_runs k path n (follows node before elsewhere at earlier is) there =
        let same : n.node ≡ node = same_Some n.node node (sym (found_of-get states all k n there).1 ∙ at) in
        let leads = nodes.linked k n there elsewhere in
        let occurs : slice_get (found_of states all) (parent_of node) ≡ Some leads.parent = ap (λ (x : Node). slice_get (found_of states all) (parent_of x)) (sym same) ∙ leads.occurs in
        let by : n.node.action ≡ node.action = ap (λ (x : Node). x.action) same in
        let (runs, costs) = path_runs (parent_of node) before leads.parent earlier occurs in (
          ap (run t t.initial) is ∙ run-push t t.initial before node.action leads.parent.state n.state runs (ap (t.step leads.parent.state) (sym by) ∙ leads.step),
          omega (arith, ap (cost_of_all t) is, sum_by-append t.cost before (node.action ∷ []), costs, leads.cost, ap t.cost by),
        )

    -- no list that solves costs less than the sum of the node whose turn came: each has to pass through one that waits
    pub no_plan_cheaper : AreClassesOf t class_of → IsAdmissible t value → ReportsDeadEnds t is_dead → (one : Found S) → AreClosed t class_of (found_of states all)
        → ((k : ℕ) (n : Found S) → slice_get (found_of states all) k ≡ Some n → IsWaiting is_dead n → total_of value one ≤ total_of value n)
        → CostsAtLeast t (total_of value one)
    no_plan_cheaper classes admissible reports one are_open least =
        let sum = total_of value one in
        claimed listing classes admissible reports (bound sum) (closed listing (bound sum) are_open (λ k n at waits. least k n at waits))

    -- a goal state whose turn came is reached by a cheapest list
    pub optimal : AreClassesOf t class_of → IsAdmissible t value → ReportsDeadEnds t is_dead → (i : ℕ) (one : Found S) (steps : List ℕ) (max_states : ℕ) → AreClosed t class_of (found_of states all) → slice_get (found_of states all) i ≡ Some one
        → ((k : ℕ) (n : Found S) → slice_get (found_of states all) k ≡ Some n → IsWaiting is_dead n → total_of value one ≤ total_of value n)
        → t.meets_goal one.state ≡ true → IsPath all i steps → length steps ≤ length all → length states ≤ max_states
        → IsOptimal t steps × (cost_of_all t steps ≡ one.node.cost) × AreFound t class_of value is_dead (bound one.node.cost) max_states states all
        × (length steps ≤ max_states) × AreExpandedWithin value one.node.cost states all
    optimal classes admissible reports i one steps max_states are_open occurs least goal path short within =
        let nothing_left : value one.state ≤ 0 = admissible one.state one.state [] refl goal in
        let is_closed = closed listing (bound one.node.cost) are_open (λ k n at waits. omega (arith, least k n at waits, nothing_left)) in
        let holds = no_plan_cheaper classes admissible reports one are_open least in
        let (runs, no_more) = path_runs i steps one path occurs in
        let solves : Solves t steps = (one.state, runs, goal) in
        let costs : cost_of_all t steps ≡ one.node.cost = omega (arith, no_more, holds steps solves) in (
          (solves, λ plan is_plan. omega (arith, holds plan is_plan, costs)),
          costs,
          found_states listing (bound one.node.cost) max_states within is_closed,
          omega (arith, short, one_each, within),
          λ k s r at_s at_r was_expanded. omega (arith, nodes.no_dearer k (record { state = s; node = r }) (node_at k s r at_s at_r) was_expanded steps solves, costs),
        )

    -- where no state waits, none solves
    pub unsolvable : AreClassesOf t class_of → IsAdmissible t value → ReportsDeadEnds t is_dead → (max_states : ℕ) → AreClosed t class_of (found_of states all)
        → ((k : ℕ) (n : Found S) → slice_get (found_of states all) k ≡ Some n → IsWaiting is_dead n → ⊥) → length states ≤ max_states
        → IsUnsolvable t × AreFound t class_of value is_dead none max_states states all
    unsolvable classes admissible reports max_states are_open none_waits within =
        let is_closed = closed listing none are_open (λ k n at waits. none_waits k n at waits) in
        (claimed listing classes admissible reports none is_closed, found_states listing none max_states within is_closed)
