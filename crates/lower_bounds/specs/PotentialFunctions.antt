-- Potential functions: a weight for each numbered atom and a constant, which give each state a value (Pommerening, Helmert,
-- Röger & Seipp 2015, "From Non-Negative to General Operator Cost Partitioning", potential heuristics).
use Rattle.std.specs.Prelude.{ℕ, zero, suc, Bool, false, if◌then◌else◌, nat_le, ℤ, pos, negsuc, ◌+ℤ◌, neg_ℤ, ◌≤ℤ◌, List, length, get_or, All}
use Rattle.model.specs.Task.{Atom}
use Rattle.model.specs.Meaning.{State}
use Rattle.model.specs.Grounding.{bits_of_state}

-- a constant, and weights, each at the index of its atom's number, from 0
pub record PotentialFunction : Type 0 where
  pub constant : ℤ
  pub weights : List ℤ

-- the weight of the atom with this number; 0 if none is given
abbrev pub weight : List ℤ → ℕ → ℤ
weight weights number = get_or weights number (pos 0)

-- the sum of f over the numbers below this one
abbrev pub sum_below : ℕ → (ℕ → ℤ) → ℤ
sum_below zero f = pos 0
sum_below (suc number) f = sum_below number f +ℤ f number

-- the contribution of the atom with this number in the packed state: its weight, if it is true
abbrev pub given : List ℤ → List Bool → ℕ → ℤ
given weights bits number = if get_or bits number false then weight weights number else pos 0

-- the constant plus the weights of the atoms that are true in the packed state
abbrev pub score : PotentialFunction → List Bool → ℤ
score p bits = p.constant +ℤ sum_below (length bits) (given p.weights bits)

abbrev pub or_zero : ℤ → ℕ
or_zero (pos n) = n
or_zero (negsuc n) = 0

-- the value of a packed state: the maximum of 0 and its score
abbrev pub value : PotentialFunction → List Bool → ℕ
value p bits = or_zero (score p bits)

-- the value of a state, for these numbered atoms: all others have weight 0
abbrev pub value_of_state : List Atom → PotentialFunction → State → ℕ
value_of_state atoms p state = value p (bits_of_state atoms state)

-- ---- dead ends

-- the packed state is reported as a dead end: its value is at least 1
abbrev pub is_dead_by : PotentialFunction → List Bool → Bool
is_dead_by p bits = nat_le 1 (value p bits)

-- the state is reported as a dead end, for these numbered atoms
abbrev pub is_dead_state : List Atom → PotentialFunction → State → Bool
is_dead_state atoms p state = is_dead_by p (bits_of_state atoms state)

-- ---- the range of constant and weights

pub record IsInRange (number : ℤ) : Type 0 where
  pub least : neg_ℤ (pos 2147483647) ≤ℤ number
  pub most : number ≤ℤ pos 2147483647

pub record AreInRange (p : PotentialFunction) : Type 0 where
  pub constant : IsInRange p.constant
  pub weights : All IsInRange p.weights
