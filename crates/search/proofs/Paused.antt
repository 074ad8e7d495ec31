-- What the found states prove where a search is stopped at a pause: the state that would come next waits.
use Rattle.std.proofs.Common.{◌≡◌, ℕ, ◌<◌, inl, inr, List, length, Bool, sym, refl, ◌∙◌, arith}
use Rattle.std.specs.Prelude.{Contains, All}
use Rattle.std.proofs.lemmas.Option.{slice_get_within}
use Rattle.model.specs.Runs.{System}
use Rattle.search.specs.declared.progress.Progress.{Progress}
use Rattle.search.specs.declared.turns.Turn.{Turn}
use Rattle.search.specs.Estimates.{IsAdmissible}
use Rattle.search.specs.DeadEnds.{ReportsDeadEnds}
use Rattle.search.specs.Outcome.{AreClassesOf, AreEstimates, IsAtLimit}
use Rattle.search.specs.OpenList.{waiting_in}
use Rattle.search.specs.Progress.{AreNotedWith, IsLeastWith, IsSearch, TakesNext, nodes_in}
use Rattle.search.specs.Nodes.{Waiting, place_of, IsEntry, IsEntryOf, found_of, total_of, AreClosed}
use Rattle.search.proofs.Noted.{are_estimates}
use Rattle.search.proofs.OpenList.{All-among}
use Rattle.search.proofs.Steps.{IsNext, at_turn, entries_of, entry_waits}
use Rattle.search.proofs.Stopped.{at_least}

module _ {S Store : Type 0} (t : System S ℕ) (class_of : S → S) (value : S → ℕ) (is_dead : S → Bool) (states_of : Store → List S) (p : Progress Store)
    (search : IsSearch t class_of value is_dead states_of p) (turn : Turn) (left : List Waiting) (takes : TakesNext (waiting_in p.open_list) left p.nodes.items turn)
    (kept : (w : Waiting) → Contains left w → Contains (waiting_in p.open_list) w) where
  pub next : IsNext value is_dead (states_of p.store) p.nodes.items left turn
  next = at_turn t class_of value is_dead (states_of p.store) p.nodes.items (waiting_in p.open_list) search.one_each search.nodes search.single left turn takes

  pub turn_there : turn.id.0 < length p.nodes.items
  turn_there = slice_get_within p.nodes.items turn.id.0 next.found.node next.node

  -- the entries that are left in the open list are of the nodes
  pub entries_left : All (IsEntry (length p.nodes.items)) left
  entries_left =
      All-among (IsEntry (length p.nodes.items)) (waiting_in p.open_list) left kept
      (entries_of t class_of value is_dead (states_of p.store) p.nodes.items (waiting_in p.open_list) search.one_each search.nodes)

  -- and the estimates are those of the states that wait
  pub estimates_noted : (estimates : List ℕ) → AreNotedWith p.nodes.items turn left estimates → AreEstimates value is_dead (states_of p.store) p.nodes.items estimates
  estimates_noted estimates noted =
      are_estimates value is_dead (states_of p.store) p.nodes.items turn next.found next.occurs next.estimate left next.rest
      (All-among (IsEntryOf value is_dead (found_of (states_of p.store) p.nodes.items)) (waiting_in p.open_list) left kept search.nodes.entries) estimates noted

  -- no waiting state has a lesser sum than the next one
  least_is : (least : ℕ) → IsLeastWith turn.sum left p.nodes.items least → total_of value next.found ≡ least
  least_is least is =
      elim is.of_one [
        | inl same ↦ sym next.sum ∙ same
        | inr (w, among, current, same) ↦
            let (n, at, waits, sum, estimate) = entry_waits t class_of value is_dead (states_of p.store) p.nodes.items (waiting_in p.open_list) search.one_each search.nodes w (kept w among) current in
            omega (arith, next.least (place_of w) n at waits, sum, same, next.sum, is.no_greater)
      ]

  pub at_pause : AreClosed t class_of (nodes_in states_of p) → AreClassesOf t class_of → IsAdmissible t value → ReportsDeadEnds t is_dead → (least : ℕ) → IsLeastWith turn.sum left p.nodes.items least
      → IsAtLimit t class_of value is_dead (length (states_of p.store)) least (states_of p.store) p.nodes.items
  at_pause successors classes admissible reports least is =
      at_least t class_of value is_dead (states_of p.store) p.nodes.items (waiting_in p.open_list) search.one_each search.nodes successors classes admissible reports (length (states_of p.store)) least refl
      (λ k n at waits. omega (arith, next.least k n at waits, least_is least is))
      turn.id.0 next.found next.occurs next.waits (least_is least is)
