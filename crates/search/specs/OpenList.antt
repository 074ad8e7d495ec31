-- The open list of a search: what its two heaps hold, and what they keep.
use Rattle.std.specs.Prelude.{◌≡◌, ℕ, ◌/◌, ◌%◌, ◌≤◌, ◌<◌, ◌⊎◌, List, [], ◌∷◌, ◌++◌, map, set, Option, None, Some, Contains, All, IsPermutation}
use Rattle.std.specs.declared.cmp.Ordering.{Ordering}
use Rattle.std.specs.declared.cmp.Reverse.{Reverse}
use Rattle.std.specs.Ordering.{nat_cmp, ordering_then}
use Rattle.std.specs.BinaryHeap.{IsHeap, heap_items}
use Rattle.search.specs.declared.nodes.Node.{Node}
use Rattle.search.specs.declared.open_list.OpenList.{OpenList}
use Rattle.search.specs.Nodes.{Waiting, sum_of, estimate_of, place_of, entry_at, entry, IsCurrent}

-- the open list's order: on top is the least sum, then the least estimate, and then the least place
abbrev pub by_sum : Waiting → Waiting → Ordering
by_sum x y = ordering_then (ordering_then (nat_cmp y.0.0 x.0.0) (nat_cmp y.0.1 x.0.1)) (nat_cmp y.0.2.0 x.0.2.0)

-- the least word is on top
abbrev pub by_word : Reverse ℕ → Reverse ℕ → Ordering
by_word x y = nat_cmp y.0 x.0

-- the entry of a word: the place in the lowest 24 bits, the estimate in the next 20, and the sum above them
abbrev pub entry_of : Reverse ℕ → Waiting
entry_of word = entry_at (word.0 / 16777216 / 1048576) (word.0 / 16777216 % 1048576) (word.0 % 16777216)

-- the entries, in whatever order
abbrev pub waiting_in : OpenList → List Waiting
waiting_in open_list = map entry_of (heap_items open_list.near) ++ heap_items open_list.far

-- both heaps are in order, and all far sums are above all near ones
pub record IsOpenList (open_list : OpenList) : Type 0 where
  pub near_heap : IsHeap by_word (heap_items open_list.near)
  pub far_heap : IsHeap by_sum (heap_items open_list.far)
  pub near : All (λ word. sum_of (entry_of word) < 1048576) (heap_items open_list.near)
  pub far : All (λ w. 1048576 ≤ sum_of w) (heap_items open_list.far)

-- an entry joins the open list
pub record Joins (old new : OpenList) (w : Waiting) : Type 0 where
  pub joins : IsPermutation (w ∷ waiting_in old) (waiting_in new)
  pub heap : IsOpenList old → IsOpenList new

-- the state at this place, of this cost, joins the open list if it has an estimate; otherwise nothing changes
abbrev pub JoinsBy : OpenList → OpenList → ℕ → ℕ → Option ℕ → Type 0
JoinsBy old new cost place None = new ≡ old
JoinsBy old new cost place (Some estimate) = Joins old new (entry cost estimate place)

-- the least sum of an entry, or None if there is no entry
abbrev pub IsLeastSum : OpenList → Option ℕ → Type 0
IsLeastSum open_list None = waiting_in open_list ≡ []
IsLeastSum open_list (Some sum) =
    ((w : Waiting) × Contains (waiting_in open_list) w × (sum_of w ≡ sum)) × (IsOpenList open_list → All (λ w. sum ≤ sum_of w) (waiting_in open_list))

-- the estimate of a current entry is written to its state's place; a stale entry changes nothing
abbrev pub IsNoted : List Node → Waiting → (old new : List ℕ) → Type 0
IsNoted nodes w old new = (IsCurrent nodes w × (new ≡ set old (place_of w) (estimate_of w))) ⊎ ((¬ IsCurrent nodes w) × (new ≡ old))

-- the same for these entries, one after another
abbrev pub AreNoted : List Node → List Waiting → (old new : List ℕ) → Type 0
AreNoted nodes [] old new = new ≡ old
AreNoted nodes (w ∷ ws) old new = (between : List ℕ) × IsNoted nodes w old between × AreNoted nodes ws between new
