-- What the found states prove where a search stops at the limit, once the state whose turn it is waits again.
use Rattle.std.proofs.Common.{◌≡◌, ℕ, ◌<◌, ◌≤◌, ◌∷◌, inl, inr, List, length, Bool, Some, refl, sym, ap, ◌∙◌, le_refl, arith}
use Rattle.std.specs.Prelude.{slice_get, All}
use Rattle.std.proofs.lemmas.List.Elements.{All-tail}
use Rattle.std.proofs.lemmas.Option.{slice_get_within}
use Rattle.model.proofs.ListLemmas.{Contains-cases, Contains-there}
use Rattle.model.specs.Runs.{System}
use Rattle.model.specs.Claims.{bound}
use Rattle.search.specs.declared.nodes.Node.{Node}
use Rattle.search.specs.declared.progress.Progress.{Progress}
use Rattle.search.specs.declared.turns.Turn.{Turn}
use Rattle.search.specs.Estimates.{IsAdmissible}
use Rattle.search.specs.DeadEnds.{ReportsDeadEnds}
use Rattle.search.specs.Outcome.{AreClassesOf, AreEstimates, IsAtLimit}
use Rattle.search.specs.OpenList.{waiting_in}
use Rattle.search.specs.Progress.{AreNotedWith, IsStopped, IsLeastWith}
use Rattle.search.specs.Nodes.{Waiting, sum_of, place_of, entry, IsEntry, IsEntryOf, Found, found_of, IsWaiting, total_of, AreNodes, AreClosed}
use Rattle.search.proofs.Linked.{found_of-get}
use Rattle.search.proofs.Closed.{are_listed, node_at, closed, found_states, claimed}
use Rattle.search.proofs.Consistent.{falls_along}
use Rattle.search.proofs.Noted.{are_estimates}
use Rattle.search.proofs.Steps.{entries_of, current_entry, entry_waits}

module _ {S : Type 0} (t : System S ℕ) (class_of : S → S) (value : S → ℕ) (is_dead : S → Bool) (states : List S) (all : List Node) (open_list : List Waiting)
    (one_each : length all ≡ length states) (nodes : AreNodes t class_of value is_dead (found_of states all) open_list) (are_open : AreClosed t class_of (found_of states all)) where
  -- the least sum of those that wait is a bound
  pub at_least : AreClassesOf t class_of → IsAdmissible t value → ReportsDeadEnds t is_dead → (max_states least : ℕ) → length states ≡ max_states
      → ((k : ℕ) (n : Found S) → slice_get (found_of states all) k ≡ Some n → IsWaiting is_dead n → least ≤ total_of value n)
      → (k : ℕ) (n : Found S) → slice_get (found_of states all) k ≡ Some n → IsWaiting is_dead n → total_of value n ≡ least → IsAtLimit t class_of value is_dead max_states least states all
  at_least classes admissible reports max_states least full no_less i one occurs waits is =
      let listed = are_listed t class_of value is_dead (found_of states all) open_list nodes in
      let is_closed = closed t class_of value is_dead states all one_each listed (bound least) are_open no_less in
      let parts = found_of-get states all i one occurs in
      let there = node_at t class_of value is_dead states all one_each in
      record {
        found = found_states t class_of value is_dead states all one_each listed (bound least) max_states (omega (arith, full)) is_closed;
        full = full;
        at_most_each_cut = λ k s r at_s at_r cut. no_less k (record { state = s; node = r }) (there k s r at_s at_r) cut;
        of_some_cut = (i, one.state, one.node, parts.0, parts.1, waits, is);
        expanded_no_dearer = λ k s r at_s at_r expanded. nodes.no_dearer k (record { state = s; node = r }) (there k s r at_s at_r) expanded;
        expanded_within = λ consistent k s r at_s at_r expanded.
            omega (arith, is, nodes.ordered value (λ _ _ _ _. refl) consistent k i (record { state = s; node = r }) one (there k s r at_s at_r) occurs expanded waits (le_refl (value one.state)));
        start_within = λ consistent.
            let (actions, runs, costs) = nodes.reachable i one occurs in
            omega (arith, falls_along t value consistent actions t.initial one.state runs, costs, is);
        costs_at_least = claimed t class_of value is_dead states all one_each listed classes admissible reports (bound least) is_closed;
      }

module _ {S Store : Type 0} (t : System S ℕ) (class_of : S → S) (value : S → ℕ) (is_dead : S → Bool) (states_of : Store → List S) (p : Progress Store) (turn : Turn) (max_states : ℕ)
    (stopped : IsStopped t class_of value is_dead states_of p turn max_states) where
  abbrev first : Waiting
  first = entry stopped.found.node.cost (value stopped.found.state) turn.id.0

  -- the entries of the open list are of the nodes
  pub entries_stopped : All (IsEntry (length p.nodes.items)) (waiting_in p.open_list)
  entries_stopped =
      All-tail (IsEntry (length p.nodes.items)) first (waiting_in p.open_list)
      (entries_of t class_of value is_dead (states_of p.store) p.nodes.items (first ∷ waiting_in p.open_list) stopped.one_each stopped.nodes)

  pub turn_within : turn.id.0 < length p.nodes.items
  turn_within = slice_get_within p.nodes.items turn.id.0 stopped.found.node (found_of-get (states_of p.store) p.nodes.items turn.id.0 stopped.found stopped.occurs).1

  -- and the estimates are those of the states that wait
  pub estimates_stopped : (estimates : List ℕ) → AreNotedWith p.nodes.items turn (waiting_in p.open_list) estimates → AreEstimates value is_dead (states_of p.store) p.nodes.items estimates
  estimates_stopped estimates noted =
      are_estimates value is_dead (states_of p.store) p.nodes.items turn stopped.found stopped.occurs stopped.estimate (waiting_in p.open_list)
      (λ k n at waits other.
      elim (Contains-cases first (waiting_in p.open_list) (entry n.node.cost (value n.state) k) (stopped.nodes.queued k n at waits)) [
        | inl same ↦ absurd (other (sym (ap place_of same)))
        | inr among ↦ among
      ])
      (All-tail (IsEntryOf value is_dead (found_of (states_of p.store) p.nodes.items)) first (waiting_in p.open_list) stopped.nodes.entries) estimates noted

  pub at_limit : AreClassesOf t class_of → IsAdmissible t value → ReportsDeadEnds t is_dead → (least : ℕ) → IsLeastWith turn.sum (waiting_in p.open_list) p.nodes.items least
      → IsAtLimit t class_of value is_dead max_states least (states_of p.store) p.nodes.items
  at_limit classes admissible reports least is =
      let all = p.nodes.items in
      let open_list = first ∷ waiting_in p.open_list in
      let waiting : (k : ℕ) (n : Found S) → slice_get (found_of (states_of p.store) all) k ≡ Some n → IsWaiting is_dead n → total_of value n ≡ least → IsAtLimit t class_of value is_dead max_states least (states_of p.store) all =
      at_least t class_of value is_dead (states_of p.store) all open_list stopped.one_each stopped.nodes stopped.are_open classes admissible reports max_states least stopped.full
      (λ k n at waits.
      let w = entry n.node.cost (value n.state) k in
      elim (Contains-cases first (waiting_in p.open_list) w (stopped.nodes.queued k n at waits)) [
        | inl same ↦ omega (arith, ap sum_of same, stopped.sum, is.no_greater)
        | inr among ↦ is.at_most_each w among (current_entry t class_of value is_dead (states_of p.store) all open_list stopped.one_each stopped.nodes k n at waits)
      ]) in
      elim is.of_one [
        | inl same ↦ waiting turn.id.0 stopped.found stopped.occurs stopped.waits (sym stopped.sum ∙ same)
        | inr (w, among, current, same) ↦
            let (n, at, waits, sum, estimate) = entry_waits t class_of value is_dead (states_of p.store) all open_list stopped.one_each stopped.nodes w (Contains-there first (waiting_in p.open_list) w among) current in
            waiting (place_of w) n at waits (sum ∙ same)
      ]
