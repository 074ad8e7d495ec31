-- Match trees: one for each atom, and one for the instances that need no atom.
use Rattle.std.specs.Prelude.{◌≡◌, ℕ, ◌<◌, ◌≤◌, List, [], ◌++◌, true, false, get_or, length, filter, slice_get}
use Rattle.std.specs.List.{All, range_with_len}
use Rattle.std.specs.Option.{option_map_or}
use Rattle.std.specs.Global.{Vec}
use Rattle.grounding.specs.declared.condition.Condition.{Condition}
use Rattle.grounding.specs.declared.match_tree.Node.{Node}
use Rattle.grounding.specs.declared.match_tree.MatchTree.{MatchTree}
use Rattle.grounding.specs.Conditions.{can_hold_at}
use Rattle.grounding.specs.MatchNodes.{numbers_in, AgreesWith, IsTree, IsTreeOf}
use Rattle.grounding.specs.WatchLists.{times, filed_below, IsRequiredBy}

-- the tree of this atom
abbrev pub row_in : List (Vec Node) → ℕ → List Node
row_in rows a = option_map_or (λ (v : Vec Node). v.items) (slice_get rows a) []

abbrev pub nodes_of : MatchTree → ℕ → List Node
nodes_of tree a = row_in tree.rows.items a

-- the instances in it
abbrev pub numbers_of : MatchTree → ℕ → List ℕ
numbers_of tree a = numbers_in (nodes_of tree a)

-- the instances in all trees
abbrev pub filed_in : MatchTree → List ℕ
filed_in tree = filed_below (numbers_of tree) (length tree.rows.items) ++ numbers_in tree.unwatched.items

-- the trees of the first `count` atoms are trees of these rows, for states in which their atoms are true
pub record AreRows (width : ℕ) (conditions : List Condition) (row : ℕ → List ℕ) (count : ℕ) (rows : List (Vec Node)) : Type 0 where
  pub wide : length rows ≡ count
  pub trees : (a : ℕ) → a < count → IsTreeOf width conditions (λ bits. get_or bits a false ≡ true) (row a) (row_in rows a)

-- Each condition that may hold has its number in one tree, once, and needs the atom of that tree.
pub record AreMatched (width : ℕ) (conditions : List Condition) (tree : MatchTree) : Type 0 where
  pub wide : length tree.rows.items ≡ width
  pub few : length (filed_in tree) ≤ length conditions
  pub each : (n : ℕ) → times n (filed_in tree) ≡ times n (filter (can_hold_at conditions) (range_with_len 0 (length conditions)))
  pub rows : (a : ℕ) → a < width → IsTree width conditions (λ bits. get_or bits a false ≡ true) (numbers_of tree a) (nodes_of tree a)
  pub required : (a : ℕ) → a < width → All (IsRequiredBy conditions a) (numbers_of tree a)
  pub unwatched : IsTree width conditions (AgreesWith []) (numbers_in tree.unwatched.items) tree.unwatched.items
  pub unwatched_within : All (λ n. n < length conditions) (numbers_in tree.unwatched.items)
