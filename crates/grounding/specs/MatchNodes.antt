-- Match trees as lists of their nodes in preorder.
use Rattle.std.specs.Prelude.{◌≡◌, ◌⊎◌, ℕ, zero, suc, ◌<◌, ◌≤◌, Bool, true, List, [], ◌∷◌, ◌++◌, if◌then◌else◌, ◌^◌, length, take, filter, slice_get, Some}
use Rattle.std.specs.List.{All, list_all}
use Rattle.std.specs.List.Sorted.{IsPermutation}
use Rattle.std.specs.Option.{option_map_or}
use Rattle.grounding_instances.specs.declared.numbers.NumberedLiteral.{NumberedLiteral}
use Rattle.grounding_instances.specs.Numbers.{numbered_of}
use Rattle.grounding.specs.declared.condition.Condition.{Condition}
use Rattle.grounding.specs.declared.match_tree.Node.{Node}
use Rattle.grounding.specs.declared.match_tree.Node.TheVariants.{Test, Instance}
use Rattle.grounding.specs.Conditions.{literals_in}
use Rattle.model.specs.NumberedLiterals as model
use Rattle.model.specs.NumberedLiterals.{agrees}

-- ---- what is found by a tree

-- the instance at a node
abbrev pub met : Node → List ℕ
met (Test l below) = []
met (Instance n) = n ∷ []

-- the number of nodes that are skipped after a node: those below a test whose literal is false
abbrev pub left_out : List Bool → Node → ℕ
left_out bits (Test l below) = if agrees bits (numbered_of l) then 0 else below
left_out bits (Instance n) = 0

-- the instances that a walk meets in a packed state, after it skipped this number of nodes
abbrev pub found : List Bool → ℕ → List Node → List ℕ
found bits skip [] = []
found bits zero (node ∷ rest) = met node ++ found bits (left_out bits node) rest
found bits (suc skip) (node ∷ rest) = found bits skip rest

-- all instances in a tree
abbrev pub numbers_in : List Node → List ℕ
numbers_in [] = []
numbers_in (node ∷ rest) = met node ++ numbers_in rest

-- a test of the literal above the nodes
abbrev pub above : NumberedLiteral → List Node → List Node
above l nodes = Test l (length nodes) ∷ nodes

-- ---- what is to be found

-- the literals of the condition of this number
abbrev pub literals_at : List Condition → ℕ → List model.NumberedLiteral
literals_at conditions n = option_map_or literals_in (slice_get conditions n) []

-- whether all of them are true
abbrev pub agrees_at : List Condition → List Bool → ℕ → Bool
agrees_at conditions bits n = list_all (agrees bits) (literals_at conditions n)

-- there is such a condition, and its literals are true in the packed state
abbrev pub IsMet : List Condition → List Bool → ℕ → Type 0
IsMet conditions bits n = (n < length conditions) × (agrees_at conditions bits n ≡ true)

-- all literals are true
abbrev pub AgreesWith : List model.NumberedLiteral → List Bool → Type 0
AgreesWith literals bits = list_all (agrees bits) literals ≡ true

-- the literal is true wherever these are
abbrev pub Implies : List model.NumberedLiteral → model.NumberedLiteral → Type 0
Implies literals l = (bits : List Bool) → AgreesWith literals bits → agrees bits l ≡ true

-- the condition of this number needs the literal
abbrev pub Requires : List Condition → model.NumberedLiteral → ℕ → Type 0
Requires conditions l n = Implies (literals_at conditions n) l

-- the literals of the conditions are of atoms below the width
abbrev pub AreWithin : ℕ → List Condition → Type 0
AreWithin width conditions = (k : ℕ) (c : Condition) → slice_get conditions k ≡ Some c → All (λ (l : model.NumberedLiteral). l.atom < width) (literals_in c)

-- the atom of a test is below the width, and the number of nodes below it is one that a list can have
abbrev pub IsWithin : ℕ → Node → Type 0
IsWithin width node = (l : NumberedLiteral) (below : ℕ) → node ≡ Test l below → (l.atom < width) × (below < 2 ^ 63)

-- In the packed states that are given a tree finds, of its instances, those whose literals are true, in order; and what
-- comes after it is not left out.
pub record IsTree (width : ℕ) (conditions : List Condition) (given : List Bool → Type 0) (numbers : List ℕ) (nodes : List Node) : Type 0 where
  pub within : All (IsWithin width) nodes
  pub all : numbers_in nodes ≡ numbers
  pub closed : (bits : List Bool) (rest : List Node) → found bits 0 (nodes ++ rest) ≡ found bits 0 nodes ++ found bits 0 rest
  pub right : (bits : List Bool) → given bits → found bits 0 nodes ≡ filter (agrees_at conditions bits) numbers

-- a tree of these instances, in whichever order
pub record IsTreeOf (width : ℕ) (conditions : List Condition) (given : List Bool → Type 0) (numbers : List ℕ) (nodes : List Node) : Type 0 where
  pub same : IsPermutation numbers (numbers_in nodes)
  pub tree : IsTree width conditions given (numbers_in nodes) nodes

-- ---- how it is built

-- a tree of the first `count` of these instances, at least one
pub record IsGroup (width : ℕ) (conditions : List Condition) (given : List Bool → Type 0) (numbers : List ℕ) (count : ℕ) (nodes : List Node) : Type 0 where
  pub some : 0 < count
  pub few : count ≤ length numbers
  pub tree : IsTreeOf width conditions given (take count numbers) nodes

-- the first `count` of these instances, at least one, need the literal
pub record IsRun (width : ℕ) (conditions : List Condition) (numbers : List ℕ) (count : ℕ) (l : model.NumberedLiteral) : Type 0 where
  pub some : 0 < count
  pub few : count ≤ length numbers
  pub atom : l.atom < width
  pub required : All (Requires conditions l) (take count numbers)

-- the literal is tested above the nodes, unless the path implies it
abbrev pub IsTested : List model.NumberedLiteral → NumberedLiteral → List Node → List Node → Type 0
IsTested path l old new = (Implies path (numbered_of l) × (new ≡ old)) ⊎ (new ≡ above l old)
