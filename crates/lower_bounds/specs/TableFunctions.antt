-- Values over sets of atoms. A table is a pattern database (Culberson & Schaeffer 1998, "Pattern Databases"; Edelkamp 2001,
-- "Planning with Pattern Databases"): it looks at the atoms of a pattern, its scope, and at no others, so its rows are abstract
-- states, each with a weight. A table function is the sum of a constant, weights of single atoms and the weight of one row of
-- each table, as a cost partitioning distributes the cost of an action among abstractions (Seipp, Keller & Helmert 2020,
-- "Saturated Cost Partitioning for Optimal Classical Planning", JAIR 67). Without tables it is a potential function.
use Rattle.std.specs.Prelude.{ℕ, suc, zero, max, ◌==◌, nat_le, Bool, false, not, ◌||◌, ℤ, pos, ◌+ℤ◌, List, [], ◌∷◌, length, filter, get_or, if◌then◌else◌, Option, is_some}
use Rattle.std.specs.List.{list_any, list_all, find}
use Rattle.std.specs.Option.{option_map_or}
use Rattle.std.specs.Cmp.Lexicographic.{pointwise}
use Rattle.std.specs.FinSet.{items}
use Rattle.model.specs.Task.{Atom, Task}
use Rattle.model.specs.Meaning.{State}
use Rattle.model.specs.Fluents.{is_fluent}
use Rattle.model.specs.NumberedAtoms.{occurs_in}
use Rattle.model.specs.Grounding.{bits_of_state}
use Rattle.lower_bounds.specs.PotentialFunctions.{PotentialFunction, score, or_zero}

-- ---- tables

-- A row of a table is an abstract state: the numbers, in ascending order, of the true atoms of the scope. It has a weight for
-- each of several values and, last, one for dead ends.
pub record Row : Type 0 where
  pub atoms : List ℕ
  pub weights : List ℤ

-- A table: the numbers of the atoms of its pattern, in ascending order, and its rows, with distinct sets of atoms. Not every set
-- needs a row.
pub record Table : Type 0 where
  pub scope : List ℕ
  pub rows : List Row

-- the number is among these
abbrev pub is_among : List ℕ → ℕ → Bool
is_among numbers number = list_any (λ k. k == number) numbers

-- the packed state's projection to the scope: its true atoms there
abbrev pub projection : List Bool → List ℕ → List ℕ
projection bits scope = filter (λ number. get_or bits number false) scope

-- the table's row with these atoms, if there is one
abbrev pub row_of : Table → List ℕ → Option Row
row_of table atoms = find (λ (r : Row). pointwise (λ k number. k == number) r.atoms atoms) table.rows

-- the row of a packed state: the one whose atoms are those of the scope that are true in it
abbrev pub row_in : List Bool → Table → Option Row
row_in bits table = row_of table (projection bits table.scope)

-- each table has a row for the packed state
abbrev pub has_rows : List Table → List Bool → Bool
has_rows tables bits = list_all (λ (t : Table). is_some (row_in bits t)) tables

-- ---- one value

-- A constant, weights of single atoms, and tables, whose rows contribute their weights at this index, from 0.
pub record TableFunction : Type 0 where
  pub potentials : PotentialFunction
  pub tables : List Table
  pub place : ℕ

-- the row's weight at this index; 0 if none is given
abbrev pub weight_at : ℕ → Row → ℤ
weight_at place row = get_or row.weights place (pos 0)

-- the weight of the row, if there is one
abbrev pub given_by : ℕ → Option Row → ℤ
given_by place row = option_map_or (weight_at place) row (pos 0)

-- the sum of f over the tables
abbrev pub sum_over : List Table → (Table → ℤ) → ℤ
sum_over [] f = pos 0
sum_over (t ∷ tables) f = f t +ℤ sum_over tables f

-- the sum of the constant, the weights of the true atoms, and for each table the weight of the packed state's row
abbrev pub total : TableFunction → List Bool → ℤ
total h bits = score h.potentials bits +ℤ sum_over h.tables (λ t. given_by h.place (row_in bits t))

-- the same, but 0 if a table has no row for the packed state
abbrev pub score_by_tables : TableFunction → List Bool → ℤ
score_by_tables h bits = if has_rows h.tables bits then total h bits else pos 0

-- the value of a packed state: the maximum of 0 and its score
abbrev pub value : TableFunction → List Bool → ℕ
value h bits = or_zero (score_by_tables h bits)

-- the packed state is dead by this value if it is at least 1
abbrev pub is_dead_by : TableFunction → List Bool → Bool
is_dead_by h bits = nat_le 1 (value h bits)

-- ---- several values

-- the maximum of the values
abbrev pub greatest_value : List TableFunction → List Bool → ℕ
greatest_value [] bits = 0
greatest_value (h ∷ others) bits = max (value h bits) (greatest_value others bits)

-- What a certificate gives: several values over the same tables, whose maximum counts, and one for dead ends. The weights of a
-- row are in this order.
pub record SeveralValues : Type 0 where
  pub values : List PotentialFunction
  pub dead_ends : PotentialFunction
  pub tables : List Table

-- these values over the tables, whose weights are at this index and the following ones
abbrev pub over_tables : List Table → ℕ → List PotentialFunction → List TableFunction
over_tables tables place [] = []
over_tables tables place (p ∷ others) = record { potentials = p; tables = tables; place = place } ∷ over_tables tables (suc place) others

abbrev pub functions_of : SeveralValues → List TableFunction
functions_of s = over_tables s.tables zero s.values

abbrev pub dead_ends_of : SeveralValues → TableFunction
dead_ends_of s = record { potentials = s.dead_ends; tables = s.tables; place = length s.values }

-- ---- values of states

-- the fluent atoms that are true in the state have numbers
abbrev pub has_numbered_fluents : Task → List Atom → State → Bool
has_numbered_fluents task atoms state = list_all (λ (a : Atom). not (is_fluent task a.predicate) || occurs_in atoms a) (items state)

-- The value of a state, for these numbered atoms: that of its packed state, or 0 if a fluent atom without a number is true.
abbrev pub in_state : Task → List Atom → (List Bool → ℕ) → State → ℕ
in_state task atoms value state = if has_numbered_fluents task atoms state then value (bits_of_state atoms state) else 0

abbrev pub value_of_state : Task → List Atom → TableFunction → State → ℕ
value_of_state task atoms h state = in_state task atoms (value h) state

abbrev pub greatest_of_state : Task → List Atom → List TableFunction → State → ℕ
greatest_of_state task atoms functions state = in_state task atoms (greatest_value functions) state

abbrev pub is_dead_state : Task → List Atom → TableFunction → State → Bool
is_dead_state task atoms h state = nat_le 1 (value_of_state task atoms h state)
