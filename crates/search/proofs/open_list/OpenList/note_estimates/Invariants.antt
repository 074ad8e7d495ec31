use Rattle.std.proofs.Common.{◌≡◌, ℕ, List, ◌++◌, length, drop, map}
use Rattle.std.specs.Prelude.{All}
use Rattle.std.specs.BinaryHeap.{heap_items}
use Rattle.search.specs.Nodes.{IsEntry}
use Rattle.search.specs.OpenList.{entry_of, waiting_in, AreNoted}
use Rattle.search.proofs.open_list.OpenList.note_estimates.Given as goal

-- what is left to be noted: near entries, and after them the far ones
abbrev pub invariant-loop-word : goal.invariant-loop-word
invariant-loop-word l =
    let left = map entry_of (drop l.word-index l.word-items) ++ heap_items l.self.far in
    record {
      entries : All (IsEntry (length l.nodes)) left;
      one_each : length l.estimates ≡ length l.nodes;
      noted : (out : List ℕ) → AreNoted l.nodes left l.estimates out → AreNoted l.nodes (waiting_in l.self) l.initial.estimates out;
    }

abbrev pub invariant-loop-entry : goal.invariant-loop-entry
invariant-loop-entry l =
    let left = drop l.entry-index l.entry-items in
    record {
      entries : All (IsEntry (length l.nodes)) left;
      one_each : length l.estimates ≡ length l.nodes;
      noted : (out : List ℕ) → AreNoted l.nodes left l.estimates out → AreNoted l.nodes (waiting_in l.self) l.fn.estimates out;
    }
