-- Worked examples of tables: which rows agree, their successors, losses, shut-out literals, values; and table functions of small
-- tasks. Each is chosen to expose a wrong reading.
use Rattle.std.specs.Prelude.{◌≡◌, ℕ, Bool, true, false, pos, ℤ, List, [], ◌∷◌, map}
use Rattle.std.specs.FinSet.{from_list}
use Rattle.model.specs.Task.{Atom}
use Rattle.model.specs.NumberedLiterals.{NumberedLiteral, literals_of_goal}
use Rattle.model.specs.Examples.{ground, instance}
use Rattle.model.specs.GroundingExamples as numbered
use Rattle.lower_bounds.specs.PotentialExamples.{potentials, minus, hop_task, hop_atoms, when_task, when_atoms, token_task, token_atoms}
use Rattle.lower_bounds.specs.TableFunctions.{Row, Table, TableFunction, value, is_dead_by, greatest_value, SeveralValues, functions_of, dead_ends_of, value_of_state}
use Rattle.lower_bounds.specs.FairTables.{agrees, is_shut_out, ConditionalChange, afters_of, is_closed, table_loses, all_lose, table_gives, all_give, IsFairAtGoals, is_instance_shut_out, IsFair, IsDeadFair, AreFair, IsFirstUnfair, IsFirstDeadUnfair}

-- ---- notation

-- these atoms of the scope are true; the weight, and that for dead ends
abbrev pub row : List ℕ → ℤ → ℤ → Row
row atoms weight dead = record { atoms = atoms; weights = weight ∷ dead ∷ [] }

abbrev pub is_true : ℕ → NumberedLiteral
is_true number = numbered.value number true

abbrev pub is_false : ℕ → NumberedLiteral
is_false number = numbered.value number false

-- an unconditional change, one under a `when` with these literals, and one under a `when` that requires an atom without a number
abbrev pub becomes : ℕ → Bool → ConditionalChange
becomes number to = record { change = numbered.becomes number to true; condition = []; requires_unnumbered = false }

abbrev pub becomes_when : List NumberedLiteral → ℕ → Bool → ConditionalChange
becomes_when condition number to = record { change = numbered.becomes number to false; condition = condition; requires_unnumbered = false }

abbrev pub becomes_never : ℕ → Bool → ConditionalChange
becomes_never number to = record { change = numbered.becomes number to false; condition = []; requires_unnumbered = true }

-- the value without weights of atoms, with this constant
abbrev pub only_tables : ℤ → List Table → TableFunction
only_tables constant tables = record { potentials = potentials constant []; tables = tables; place = 0 }

abbrev pub for_dead_ends : ℤ → List Table → TableFunction
for_dead_ends constant tables = record { potentials = potentials constant []; tables = tables; place = 1 }

-- ---- three tables

-- A parcel at A (0), in the truck (1) or at B (2), and the truck at A (3) or B (4): the number of actions that bring the parcel
-- to B.
abbrev pub delivery : Table
delivery = record {
  scope = 0 ∷ 1 ∷ 2 ∷ 3 ∷ 4 ∷ [];
  rows = row (0 ∷ 3 ∷ []) (pos 3) (pos 0) ∷ row (0 ∷ 4 ∷ []) (pos 4) (pos 0) ∷ row (1 ∷ 3 ∷ []) (pos 2) (pos 0)
      ∷ row (1 ∷ 4 ∷ []) (pos 1) (pos 0) ∷ row (2 ∷ 3 ∷ []) (pos 0) (pos 0) ∷ row (2 ∷ 4 ∷ []) (pos 0) (pos 0) ∷ [];
}

-- the position of the truck, with weights 0
abbrev pub truck : Table
truck = record { scope = 3 ∷ 4 ∷ []; rows = row (3 ∷ []) (pos 0) (pos 0) ∷ row (4 ∷ []) (pos 0) (pos 0) ∷ [] }

-- a single atom, as in a potential function, with weight 3
abbrev pub lamp : Table
lamp = record { scope = 5 ∷ []; rows = row [] (pos 0) (pos 0) ∷ row (5 ∷ []) (pos 3) (pos 0) ∷ [] }

abbrev pub load_at_A : List ConditionalChange
load_at_A = becomes 0 false ∷ becomes 1 true ∷ []

abbrev pub drive_to_B : List ConditionalChange
drive_to_B = becomes 3 false ∷ becomes 4 true ∷ []

abbrev pub drive_to_A : List ConditionalChange
drive_to_A = becomes 4 false ∷ becomes 3 true ∷ []

-- a truck that drops its parcel at B
abbrev pub drive_and_drop : List ConditionalChange
drive_and_drop = becomes 3 false ∷ becomes 4 true ∷ becomes_when (is_true 1 ∷ []) 1 false ∷ becomes_when (is_true 1 ∷ []) 2 true ∷ []

-- a separate weight of 1 for the truck at B
abbrev pub delivery_and_truck : TableFunction
delivery_and_truck = record { potentials = potentials (pos 0) (pos 0 ∷ pos 0 ∷ pos 0 ∷ pos 0 ∷ pos 1 ∷ []); tables = delivery ∷ []; place = 0 }

-- ---- a dead row

-- a vase that is whole (0), sold (1) or broken (2): once broken, it is never sold
abbrev pub vase : Table
vase = record { scope = 0 ∷ 1 ∷ 2 ∷ []; rows = row (0 ∷ []) (pos 1) (pos 0) ∷ row (1 ∷ []) (pos 0) (pos 0) ∷ row (2 ∷ []) (pos 1000) (pos 1) ∷ [] }

-- an action that turns the vase from one condition into another
abbrev pub turns : ℕ → ℕ → List ConditionalChange
turns from to = becomes from false ∷ becomes to true ∷ []

-- the loss by the vase, for the value and for dead ends
pub record VaseLoses (from to : ℕ) (weight dead : ℤ) : Type 0 where
  pub by_value : table_loses 0 (is_true from ∷ []) (turns from to) vase ≡ weight
  pub by_dead_ends : table_loses 1 (is_true from ∷ []) (turns from to) vase ≡ dead

-- ---- the judgements

pub record AreTablesJudged : Type 0 where
  -- A row agrees with the literals that hold in it; literals of other atoms do not matter.
  pub agreed : agrees (is_true 0 ∷ is_false 4 ∷ []) delivery.scope (0 ∷ 3 ∷ []) ≡ true
  pub disagreed : agrees (is_true 0 ∷ is_true 4 ∷ []) delivery.scope (0 ∷ 3 ∷ []) ≡ false
  pub false_disagreed : agrees (is_false 0 ∷ []) delivery.scope (0 ∷ 3 ∷ []) ≡ false
  pub of_others : agrees (is_true 5 ∷ is_true 3 ∷ []) delivery.scope (0 ∷ 3 ∷ []) ≡ true
  -- No row has the parcel in two places, and none has the truck nowhere, although that table's weights are 0. One table is
  -- enough.
  pub two_places : is_shut_out (is_true 0 ∷ is_true 1 ∷ []) (delivery ∷ []) ≡ true
  pub one_place : is_shut_out (is_true 0 ∷ []) (delivery ∷ truck ∷ lamp ∷ []) ≡ false
  pub nowhere : is_shut_out (is_false 3 ∷ is_false 4 ∷ []) (lamp ∷ truck ∷ []) ≡ true
  pub without_rows : is_shut_out [] (record { scope = 0 ∷ []; rows = [] } ∷ []) ≡ true
  pub without_tables : is_shut_out (is_true 0 ∷ is_false 0 ∷ []) [] ≡ false
  -- Loading brings the parcel one action nearer, and so does driving with it; driving without it may gain nothing.
  pub load_loses : table_loses 0 (is_true 0 ∷ is_true 3 ∷ []) load_at_A delivery ≡ pos 1
  pub drive_loses : table_loses 0 (is_true 3 ∷ []) drive_to_B delivery ≡ pos 1
  pub back_loses : table_loses 0 (is_true 4 ∷ is_true 0 ∷ []) drive_to_A delivery ≡ pos 1
  -- Driving back with the parcel has a negative loss, which compensates for the loss by another part.
  pub loaded_back_gains : table_loses 0 (is_true 4 ∷ is_true 1 ∷ []) drive_to_A delivery ≡ minus 1
  pub gain_pays : all_lose 5 delivery_and_truck (is_true 4 ∷ is_true 1 ∷ []) drive_to_A ≡ pos 0
  pub without_gain : all_lose 5 delivery_and_truck (is_true 4 ∷ is_true 2 ∷ []) drive_to_A ≡ pos 1
  -- A change outside the scope loses nothing. A single atom loses what it does in a potential function.
  pub untouched_loses : table_loses 0 (is_true 3 ∷ []) (becomes 5 true ∷ []) delivery ≡ pos 0
  pub lamp_off : table_loses 0 [] (becomes 5 false ∷ []) lamp ≡ pos 3
  pub lamp_on : table_loses 0 [] (becomes 5 true ∷ []) lamp ≡ pos 0
  pub dark_lamp_on : table_loses 0 (is_false 5 ∷ []) (becomes 5 true ∷ []) lamp ≡ minus 3
  -- These lead from rows to rows; but if the truck comes to B and also stays at A, there is no such row.
  pub load_is_closed : is_closed (is_true 0 ∷ is_true 3 ∷ []) load_at_A delivery ≡ true
  pub drive_is_closed : is_closed (is_true 3 ∷ []) drive_to_B delivery ≡ true
  pub add_wins : is_closed (is_true 3 ∷ []) (becomes 3 true ∷ becomes 3 false ∷ []) delivery ≡ true
  pub not_closed : is_closed (is_true 3 ∷ []) (becomes 4 true ∷ []) delivery ≡ false
  -- A row with the parcel at A contradicts the condition of the drop. A row with the parcel in the truck leaves it open, and each
  -- change under a `when` may take effect on its own: then the parcel may be nowhere, for which there is no row.
  pub drop_contradicted : afters_of drive_and_drop delivery.scope (0 ∷ 3 ∷ []) ≡ (0 ∷ 4 ∷ []) ∷ []
  pub drop_open : afters_of drive_and_drop delivery.scope (1 ∷ 3 ∷ []) ≡ (1 ∷ 2 ∷ 4 ∷ []) ∷ (1 ∷ 4 ∷ []) ∷ (2 ∷ 4 ∷ []) ∷ (4 ∷ []) ∷ []
  pub contradicted_is_closed : is_closed (is_true 3 ∷ is_true 0 ∷ []) drive_and_drop delivery ≡ true
  pub contradicted_loses : table_loses 0 (is_true 3 ∷ is_true 0 ∷ []) drive_and_drop delivery ≡ minus 1
  pub open_is_not_closed : is_closed (is_true 3 ∷ is_true 1 ∷ []) drive_and_drop delivery ≡ false
  -- A condition on other atoms is open in each row: the lamp may or may not go out. A condition that requires an atom without a
  -- number never holds.
  pub may_go_out : table_loses 0 (is_true 5 ∷ []) (becomes_when (is_true 1 ∷ []) 5 false ∷ []) lamp ≡ pos 3
  pub may_go_on : table_loses 0 (is_false 5 ∷ []) (becomes_when (is_true 1 ∷ []) 5 true ∷ []) lamp ≡ pos 0
  pub never_goes_out : table_loses 0 (is_true 5 ∷ []) (becomes_never 5 false ∷ []) lamp ≡ pos 0
  -- In goal states the rows that agree with the goal's literals count, the greatest of each table; no row has the parcel both at
  -- A and at B.
  pub goal_gives : all_give 5 (only_tables (pos 0) (delivery ∷ lamp ∷ [])) (is_true 2 ∷ []) ≡ pos 3
  pub constant_counts : all_give 5 (only_tables (minus 3) (delivery ∷ lamp ∷ [])) (is_true 2 ∷ []) ≡ pos 0
  pub any_goal_gives : table_gives 0 [] delivery ≡ pos 4
  pub goal_shut_out : is_shut_out (is_true 0 ∷ is_true 2 ∷ []) (delivery ∷ []) ≡ true
  -- The value is that of the state's rows, with the constant; if some table has no row for the state it is 0, whatever the
  -- constant and the other tables give.
  pub begins_at : value (only_tables (pos 0) (delivery ∷ truck ∷ [])) (true ∷ false ∷ false ∷ true ∷ false ∷ []) ≡ 3
  pub with_constant : value (only_tables (pos 2) (delivery ∷ lamp ∷ [])) (true ∷ false ∷ false ∷ true ∷ false ∷ true ∷ []) ≡ 8
  pub no_row : value (only_tables (pos 2) (delivery ∷ [])) (true ∷ true ∷ false ∷ true ∷ false ∷ []) ≡ 0
  pub one_without_row : value (only_tables (pos 2) (lamp ∷ truck ∷ [])) (false ∷ false ∷ false ∷ false ∷ false ∷ true ∷ []) ≡ 0
  -- The row of the broken vase is dead: selling a whole vase loses 1, breaking one loses nothing, since the dead row's weight
  -- exceeds all others, and nothing is lost from the dead row to itself. If the vase could be glued, it would not be dead.
  pub sell : VaseLoses 0 1 (pos 1) (pos 0)
  pub break : VaseLoses 0 2 (minus 999) (minus 1)
  pub stay_broken : VaseLoses 2 2 (pos 0) (pos 0)
  pub glue : VaseLoses 2 0 (pos 999) (pos 1)
  pub broken_is_dead : is_dead_by (for_dead_ends (pos 0) (vase ∷ [])) (false ∷ false ∷ true ∷ []) ≡ true
  pub whole_is_not_dead : is_dead_by (for_dead_ends (pos 0) (vase ∷ [])) (true ∷ false ∷ false ∷ []) ≡ false
  pub sold_gives_nothing : table_gives 1 (is_true 1 ∷ []) vase ≡ pos 0

-- ---- tasks

-- the position on the walk of three places: the weights of the rows for a, b and c
abbrev pub walk : ℤ → ℤ → ℤ → Table
walk a b c = record { scope = 0 ∷ 1 ∷ 2 ∷ []; rows = row (0 ∷ []) a (pos 0) ∷ row (1 ∷ []) b (pos 0) ∷ row (2 ∷ []) c (pos 0) ∷ [] }

abbrev pub on_the_walk : ℤ → ℤ → ℤ → TableFunction
on_the_walk a b c = only_tables (pos 0) (walk a b c ∷ [])

-- without the row for b, and without that for a
abbrev pub never_at_b : TableFunction
never_at_b = only_tables (pos 0) (record { scope = 0 ∷ 1 ∷ 2 ∷ []; rows = row (0 ∷ []) (pos 3) (pos 0) ∷ row (2 ∷ []) (pos 0) (pos 0) ∷ [] } ∷ [])

abbrev pub never_at_a : TableFunction
never_at_a = only_tables (pos 0) (record { scope = 0 ∷ 1 ∷ 2 ∷ []; rows = row (1 ∷ []) (pos 3) (pos 0) ∷ row (2 ∷ []) (pos 0) (pos 0) ∷ [] } ∷ [])

-- a token that is here or there, with these weights for dead ends; and one that may be in both places as well
abbrev pub here_or_there : ℤ → ℤ → TableFunction
here_or_there here there = for_dead_ends (pos 0) (record { scope = 0 ∷ 1 ∷ []; rows = row (0 ∷ []) (pos 0) here ∷ row (1 ∷ []) (pos 0) there ∷ [] } ∷ [])

abbrev pub here_and_there : TableFunction
here_and_there =
    for_dead_ends (pos 0) (record { scope = 0 ∷ 1 ∷ []; rows = row (0 ∷ []) (pos 0) (pos 1) ∷ row (1 ∷ []) (pos 0) (pos 1) ∷ row (0 ∷ 1 ∷ []) (pos 0) (pos 1) ∷ [] } ∷ [])

-- In the task `w`, (b), (c) and (a) have the numbers 0, 1 and 2: `do` requires that (b) is false, adds (c), deletes (a), and adds
-- (b) if (a) was true. One action leads to (c): the row without atoms has weight 1, that of (c) and the others have 0.
abbrev pub to_c : List ℕ → List (List ℕ) → TableFunction
to_c scope others =
    only_tables (pos 0) (record { scope = scope; rows = row [] (pos 1) (pos 0) ∷ row (1 ∷ []) (pos 0) (pos 0) ∷ map (λ atoms. row atoms (pos 0) (pos 0)) others } ∷ [])

-- the walk in two parts: the first value counts the first hop, the second value the second
abbrev pub hop_by_hop : SeveralValues
hop_by_hop = record {
  values = potentials (pos 0) [] ∷ potentials (pos 0) [] ∷ [];
  dead_ends = potentials (pos 0) [];
  tables = record {
    scope = 0 ∷ 1 ∷ 2 ∷ [];
    rows = record { atoms = 0 ∷ []; weights = pos 3 ∷ pos 3 ∷ pos 0 ∷ [] } ∷ record { atoms = 1 ∷ []; weights = pos 0 ∷ pos 3 ∷ pos 0 ∷ [] }
        ∷ record { atoms = 2 ∷ []; weights = pos 0 ∷ pos 0 ∷ pos 0 ∷ [] } ∷ [];
  } ∷ [];
}

-- at a, at b and at c, and with the token here
abbrev pub at_a : List Bool
at_a = true ∷ false ∷ false ∷ []

abbrev pub at_b : List Bool
at_b = false ∷ true ∷ false ∷ []

abbrev pub here : List Bool
here = true ∷ false ∷ []

-- (x) and (y) of the task `t`, where only (x) has a number
abbrev pub x : Atom
x = ground 0 []

abbrev pub y : Atom
y = ground 1 []

pub record AreTasksJudged : Type 0 where
  -- From a it takes two hops of cost 3 each, and the leap from a to c costs more. Only differences of weights between a row and
  -- its successor matter.
  pub walk_is_fair : IsFair hop_task hop_atoms (on_the_walk (pos 6) (pos 3) (pos 0))
  pub walk_begins_at : value (on_the_walk (pos 6) (pos 3) (pos 0)) at_a ≡ 6
  pub first_hop_is_unfair : IsFirstUnfair hop_task hop_atoms (on_the_walk (pos 7) (pos 3) (pos 0)) 0
  pub second_hop_is_unfair : IsFirstUnfair hop_task hop_atoms (on_the_walk (pos 6) (pos 4) (pos 0)) 1
  pub left_at_goal : ¬ IsFairAtGoals hop_task hop_atoms (on_the_walk (pos 6) (pos 3) (pos 1))
  -- Without the row for b the first hop leads to no row. Without that for a it is shut out, and the value at a is 0.
  pub hop_leads_out : IsFirstUnfair hop_task hop_atoms never_at_b 0
  pub hop_is_shut_out : is_instance_shut_out hop_task hop_atoms never_at_a.tables (instance 0 (0 ∷ 1 ∷ [])) ≡ true
  pub without_row_is_fair : IsFair hop_task hop_atoms never_at_a
  pub without_row : value never_at_a at_a ≡ 0
  pub with_row : value never_at_a at_b ≡ 3
  -- The token is never in both places, as the goal requires: no row satisfies the goal, so nothing is required there, and both
  -- rows are dead. If there is a row for both places, it may not be dead.
  pub token_is_dead_fair : IsDeadFair token_task token_atoms (here_or_there (pos 1) (pos 1))
  pub token_is_dead : is_dead_by (here_or_there (pos 1) (pos 1)) here ≡ true
  pub no_row_meets_goal : is_shut_out (literals_of_goal token_task token_atoms) (here_or_there (pos 1) (pos 1)).tables ≡ true
  pub row_meets_goal : ¬ IsFairAtGoals token_task token_atoms here_and_there
  -- If only one place is dead, `fore` loses 1, its cost: that is fair, but not dead-fair.
  pub fore_costs_one : IsFair token_task token_atoms (here_or_there (pos 1) (pos 0))
  pub fore_is_dead_unfair : IsFirstDeadUnfair token_task token_atoms (here_or_there (pos 1) (pos 0)) 0
  -- Over (b) and (c) the condition is open, and the row of both is needed; over all three the rows without (a) contradict it,
  -- unless there is a row with (a).
  pub open_is_fair : IsFair when_task when_atoms (to_c (0 ∷ 1 ∷ []) ((0 ∷ 1 ∷ []) ∷ []))
  pub open_leads_out : IsFirstUnfair when_task when_atoms (to_c (0 ∷ 1 ∷ []) []) 0
  pub contradicted_is_fair : IsFair when_task when_atoms (to_c (0 ∷ 1 ∷ 2 ∷ []) [])
  pub not_contradicted : IsFirstUnfair when_task when_atoms (to_c (0 ∷ 1 ∷ 2 ∷ []) ((2 ∷ []) ∷ [])) 0
  -- If (y) has no number, `back`, which requires it, is shut out even without tables; and a state with (y) has the value 0.
  pub back_is_shut_out : is_instance_shut_out token_task (x ∷ []) [] (instance 1 []) ≡ true
  pub fore_is_asked : is_instance_shut_out token_task (x ∷ []) [] (instance 0 []) ≡ false
  pub unnumbered : value_of_state token_task (x ∷ []) (only_tables (pos 5) []) (from_list (y ∷ [])) ≡ 0
  pub all_numbered : value_of_state token_task (x ∷ []) (only_tables (pos 5) []) (from_list (x ∷ [])) ≡ 5
  -- Of several values the maximum counts, and the last weights are for dead ends.
  pub hop_by_hop_is_fair : AreFair hop_task hop_atoms hop_by_hop
  pub greatest_at_a : greatest_value (functions_of hop_by_hop) at_a ≡ 3
  pub each_at_b : map (λ (h : TableFunction). value h at_b) (functions_of hop_by_hop) ≡ 0 ∷ 3 ∷ []
  pub greatest_at_b : greatest_value (functions_of hop_by_hop) at_b ≡ 3
  pub no_dead_ends : is_dead_by (dead_ends_of hop_by_hop) at_a ≡ false
