-- What the least sum in the open list of a search that pauses says of plans, and what its states are.
use Rattle.std.proofs.Common.{◌≡◌, ◌∙◌, ℕ, ◌+◌, ◌≤◌, Bool, true, false, List, [], ◌∷◌, length, map, cond, Some, refl, sym, ap, subst, arith}
use Rattle.std.specs.Prelude.{slice_get, count_by, Contains, if◌then◌else◌}
use Rattle.std.specs.List.{fold}
use Rattle.model.specs.Runs.{System, CostsAtLeast, IsReachable}
use Rattle.model.specs.Claims.{bound, expanded, cut, dead, Line, IsClosed}
use Rattle.model.proofs.ClaimsLemmas.{claim-of_closed}
use Rattle.model.proofs.ListLemmas.{Contains-place}
use Rattle.packed_state.specs.Store.{AreDistinct}
use Rattle.search.specs.declared.nodes.Node.{Node}
use Rattle.search.specs.declared.progress.Progress.{Progress}
use Rattle.search.specs.Nodes.{Waiting, found_of, sum_of, entry, AreClosed}
use Rattle.search.specs.OpenList.{waiting_in, IsLeastSum}
use Rattle.search.specs.Estimates.{IsAdmissible}
use Rattle.search.specs.DeadEnds.{ReportsDeadEnds}
use Rattle.search.specs.Outcome.{line_of, lines_of, is_expanded, AreClassesOf, AreOfOneClass, IsReachableAt}
use Rattle.search.specs.Progress.{IsSearch, nodes_in}
use Rattle.search.proofs.Closed.{are_listed, closed, lines_are_true, node_at}
use Rattle.search.proofs.Lists.{get_exists}
use Rattle.solver.specs.Listing.{by_all}
use Rattle.solver.specs.Said.{has_expanded_mark, is_expanded_line, IsListing}
use Rattle.solver.proofs.FoundLines.{found_line, length-lines}
use Rattle.std.proofs.lemmas.Option.{slice_get_within}
use Rattle.std.proofs.lemmas.List.Elements.{All-contains}

-- ---- the lines of found states

-- a line is open exactly where its state was expanded
opened_if : (was_expanded reported : Bool) (estimate : ℕ) → has_expanded_mark (by_all (if was_expanded then expanded else (if reported then dead else cut estimate))) ≡ was_expanded
opened_if true reported estimate = refl
opened_if false true estimate = refl
opened_if false false estimate = refl

open_from : {S : Type 0} (value : S → ℕ) (is_dead : S → Bool) (count : ℕ) (states : List S) (nodes : List Node) → length nodes ≡ length states
    → fold (λ (n : ℕ) (line : Line S). n + cond (is_expanded_line line) 1 0) count (lines_of value is_dead states nodes) ≡ fold (λ (n : ℕ) (node : Node). n + cond (is_expanded node) 1 0) count nodes
open_from value is_dead count [] [] same = refl
open_from value is_dead count [] (n ∷ nodes) same = absurd (omega (arith, same))
open_from value is_dead count (s ∷ states) [] same = absurd (omega (arith, same))
open_from {S} value is_dead count (s ∷ states) (n ∷ nodes) same =
    ap (λ (e : Bool). fold (λ (m : ℕ) (line : Line S). m + cond (is_expanded_line line) 1 0) (count + cond e 1 0) (lines_of value is_dead states nodes)) (opened_if (is_expanded n) (is_dead s) (value s))
    ∙ open_from value is_dead (count + cond (is_expanded n) 1 0) states nodes (omega (arith, same))

pub count-open : {S : Type 0} (value : S → ℕ) (is_dead : S → Bool) (states : List S) (nodes : List Node) → length nodes ≡ length states
    → count_by is_expanded_line (lines_of value is_dead states nodes) ≡ count_by is_expanded nodes
count-open value is_dead states nodes same = open_from value is_dead 0 states nodes same

-- their states are those that were found
states-lines : {S : Type 0} (value : S → ℕ) (is_dead : S → Bool) (states : List S) (nodes : List Node) → length nodes ≡ length states
    → map (λ (line : Line S). line.state) (lines_of value is_dead states nodes) ≡ states
states-lines value is_dead [] nodes same = refl
states-lines value is_dead (s ∷ states) [] same = absurd (omega (arith, same))
states-lines {S} value is_dead (s ∷ states) (n ∷ nodes) same = ap (λ (rest : List S). s ∷ rest) (states-lines value is_dead states nodes (omega (arith, same)))

-- ---- a search between two turns

module _ {S Store : Type 0} (t : System S ℕ) (class_of : S → S) (value : S → ℕ) (is_dead : S → Bool) (states_of : Store → List S) (p : Progress Store) (search : IsSearch t class_of value is_dead states_of p) where
  abbrev states : List S
  states = states_of p.store

  abbrev all : List Node
  all = p.nodes.items

  abbrev lines : List (Line S)
  lines = lines_of value is_dead states all

  found_closed : AreClosed t class_of (nodes_in states_of p) → (least : ℕ) → IsLeastSum p.open_list (Some least) → IsClosed t (AreOfOneClass class_of) (bound least) lines
  found_closed successors_found least is =
      let listed = are_listed t class_of value is_dead (found_of states all) (waiting_in p.open_list) search.nodes in
      let each = is.1 search.heap in
      closed t class_of value is_dead states all search.one_each listed (bound least) successors_found
      (λ k n at waits. All-contains (λ (w : Waiting). least ≤ sum_of w) (waiting_in p.open_list) (entry n.node.cost (value n.state) k) each (search.nodes.queued k n at waits))

  -- the least sum is a lower bound of what plans cost
  pub bound_holds : AreClassesOf t class_of → IsAdmissible t value → ReportsDeadEnds t is_dead → AreClosed t class_of (nodes_in states_of p) → (least : ℕ) → IsLeastSum p.open_list (Some least) → CostsAtLeast t least
  bound_holds classes admissible reports successors_found least is =
      claim-of_closed t (AreOfOneClass class_of) classes (bound least) lines (lines_are_true t value is_dead states all admissible reports) (found_closed successors_found least is)

  found_there : (k : ℕ) (s : S) → slice_get states k ≡ Some s → (node : Node) × (slice_get (found_of states all) k ≡ Some (record { state = s; node = node }))
  found_there k s at =
      let (node, there) = get_exists all k (omega (arith, slice_get_within states k s at, search.one_each)) in
      (node, node_at t class_of value is_dead states all search.one_each k s node at there)

  -- the states that it lists are different ones
  pub distinct : AreDistinct states
  distinct j k s at_j at_k =
      let (m, there_j) = found_there j s at_j in
      let (n, there_k) = found_there k s at_k in
      search.nodes.distinct j k (record { state = s; node = m }) (record { state = s; node = n }) there_j there_k refl

  -- and reachable
  pub reachable : (s : S) → Contains states s → IsReachable t s
  reachable s among =
      let (k, at) = Contains-place states s among in
      let (node, there) = found_there k s at in
      let reached = search.nodes.reachable k (record { state = s; node = node }) there in
      (reached.0, reached.1)

  reached_at_cost : (line : Line S) → Contains lines line → IsReachableAt t line.state line.cost
  reached_at_cost line among =
      let (k, s, n, at_s, at_n, from) = found_line value is_dead states all line among in
      let there = node_at t class_of value is_dead states all search.one_each k s n at_s at_n in
      subst (λ (l : Line S). IsReachableAt t l.state l.cost) (sym from) (search.nodes.reachable k (record { state = s; node = n }) there)

  -- the found states are a listing that shows this
  pub found_listing : AreClassesOf t class_of → IsAdmissible t value → ReportsDeadEnds t is_dead → AreClosed t class_of (nodes_in states_of p) → (least : ℕ) → IsLeastSum p.open_list (Some least) → IsListing t least lines
  found_listing classes admissible reports successors_found least is = record {
    class_of = class_of;
    classes = classes;
    distinct = subst AreDistinct (sym (states-lines value is_dead states all search.one_each)) distinct;
    reached = reached_at_cost;
    are_true = lines_are_true t value is_dead states all admissible reports;
    closed = found_closed successors_found least is;
  }

  pub listed_count : length lines ≡ length states
  listed_count = length-lines value is_dead states all search.one_each
