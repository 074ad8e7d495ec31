-- Fair table functions: no kept instance makes the value fall by more than its cost, and in goal states the value is at most 0.
-- The conditions look at each instance and at the goal once, and at no state: the losses of an instance by single atoms and by
-- each table add up to no more than its cost, as in a cost partitioning (Seipp, Keller & Helmert 2020, JAIR 67). The greatest
-- loss by a table is the least cost that its abstract transitions need, the saturated cost, which may be negative.
use Rattle.std.specs.Prelude.{◌≡◌, ℕ, ◌<◌, Bool, true, false, not, ◌&&◌, ◌||◌, IsTrue, slice_get, if◌then◌else◌, ℤ, pos, ◌+ℤ◌, neg_ℤ, ◌≤ℤ◌, List, [], ◌∷◌, ◌++◌, length, map, filter, All, Some, is_some}
use Rattle.std.specs.Bool.{beq}
use Rattle.std.specs.List.{list_any, list_all, flat_map, filter_map}
use Rattle.model.specs.Task.{Atom, Task, Instance}
use Rattle.model.specs.Meaning.{cost_of}
use Rattle.model.specs.StaticallyFalse.{kept_instances}
use Rattle.model.specs.NumberedLiterals.{NumberedLiteral, NumberedChange, literals_of_instance, literals_of_goal}
pub use Rattle.model.specs.ConditionalChanges.{is_unnumbered, requires_unnumbered, instance_requires_unnumbered, ConditionalChange, changes_in, conditional_change, conditional_of_instance}
use Rattle.lower_bounds.specs.FairPotentials.{touches, may_become, greatest, loses_at_most, goal_gives_at_most, nothing}
use Rattle.lower_bounds.specs.TableFunctions.{Row, Table, is_among, row_of, TableFunction, weight_at, sum_over, SeveralValues, functions_of, dead_ends_of}

-- ---- rows and literals

-- If these atoms of the scope are true, each literal of an atom of the scope holds.
abbrev pub agrees : List NumberedLiteral → List ℕ → List ℕ → Bool
agrees literals scope atoms = list_all (λ (l : NumberedLiteral). not (is_among scope l.atom) || beq (is_among atoms l.atom) l.value) literals

-- the rows of the table that agree with the literals
abbrev pub agreeing : List NumberedLiteral → Table → List Row
agreeing literals table = filter (λ (r : Row). agrees literals table.scope r.atoms) table.rows

-- The literals are shut out if some table has no row that agrees with them: they hold in no state that has a row in every table.
abbrev pub is_shut_out : List NumberedLiteral → List Table → Bool
is_shut_out literals tables = list_any (λ (t : Table). not (list_any (λ (r : Row). agrees literals t.scope r.atoms) t.rows)) tables

-- ---- successors of a row

-- if these atoms of the scope are true, nothing contradicts the condition, so the change may take effect
abbrev pub is_open : List ℕ → List ℕ → ConditionalChange → Bool
is_open scope atoms c = not c.requires_unnumbered && agrees c.condition scope atoms

abbrev pub open_changes : List ConditionalChange → List ℕ → List ℕ → List NumberedChange
open_changes changes scope atoms = changes_in (filter (is_open scope atoms) changes)

-- The sets of atoms of the scope that may be true after these changes, given those true before. For each atom separately:
-- unconditional deletes and then unconditional adds take effect; of the changes under a `when`, deletes before adds, any may; an
-- unconditional add wins over all.
abbrev pub afters : List NumberedChange → List ℕ → List ℕ → List (List ℕ)
afters changes [] before = [] ∷ []
afters changes (number ∷ scope) before =
    (if may_become changes number (is_among before number) true then map (λ rest. number ∷ rest) (afters changes scope before) else [])
    ++ (if may_become changes number (is_among before number) false then afters changes scope before else [])

-- the possible successors of a row with these atoms
abbrev pub afters_of : List ConditionalChange → List ℕ → List ℕ → List (List ℕ)
afters_of changes scope atoms = afters (open_changes changes scope atoms) scope atoms

-- one of the changes affects an atom of the scope
abbrev pub touches_scope : List ConditionalChange → Table → Bool
touches_scope changes table = list_any (touches (changes_in changes)) table.scope

-- For each row that agrees with the literals, all possible successors are rows. If no change affects an atom of the scope, each
-- row is its own successor.
abbrev pub is_closed : List NumberedLiteral → List ConditionalChange → Table → Bool
is_closed literals changes table =
    not (touches_scope changes table)
    || list_all (λ (r : Row). list_all (λ after. is_some (row_of table after)) (afters_of changes table.scope r.atoms)) (agreeing literals table)

-- ---- losses

-- the weight of the row minus that of each possible successor
abbrev pub losses_from : ℕ → List ConditionalChange → Table → Row → List ℤ
losses_from place changes table row =
    map (λ (after : Row). weight_at place row +ℤ neg_ℤ (weight_at place after)) (filter_map (row_of table) (afters_of changes table.scope row.atoms))

-- the greatest loss from a row that agrees, possibly negative
abbrev pub most_lost : ℕ → List NumberedLiteral → List ConditionalChange → Table → ℤ
most_lost place literals changes table = greatest (flat_map (losses_from place changes table) (agreeing literals table))

-- the loss by the table: that, or 0 if no change affects an atom of its scope
abbrev pub table_loses : ℕ → List NumberedLiteral → List ConditionalChange → Table → ℤ
table_loses place literals changes table = if touches_scope changes table then most_lost place literals changes table else pos 0

-- the greatest loss by single atoms, given the number of numbered ones, and by tables
abbrev pub all_lose : ℕ → TableFunction → List NumberedLiteral → List ConditionalChange → ℤ
all_lose count h literals changes = loses_at_most count h.potentials.weights literals (changes_in changes) +ℤ sum_over h.tables (table_loses h.place literals changes)

-- An instance with these literals and changes is fair at this allowance: it leads from rows to rows, and loses no more.
pub record IsFairAcross (allowance count : ℕ) (h : TableFunction) (literals : List NumberedLiteral) (changes : List ConditionalChange) : Type 0 where
  pub closed : IsTrue (list_all (is_closed literals changes) h.tables)
  pub within : all_lose count h literals changes ≤ℤ pos allowance

-- ---- values in goal states

-- the greatest weight of a row that agrees with the goal's literals
abbrev pub table_gives : ℕ → List NumberedLiteral → Table → ℤ
table_gives place literals table = greatest (map (weight_at place) (agreeing literals table))

-- the greatest contribution of the constant, single atoms and tables in states that agree with the goal's literals
abbrev pub all_give : ℕ → TableFunction → List NumberedLiteral → ℤ
all_give count h literals = (h.potentials.constant +ℤ goal_gives_at_most count h.potentials.weights literals) +ℤ sum_over h.tables (table_gives h.place literals)

-- nothing is required if no row of some table satisfies the goal
pub record IsFairAtGoals (task : Task) (atoms : List Atom) (h : TableFunction) : Type 0 where
  pub within : is_shut_out (literals_of_goal task atoms) h.tables ≡ false → all_give (length atoms) h (literals_of_goal task atoms) ≤ℤ pos 0

-- ---- instances of a task

-- An instance is shut out if its precondition requires an atom without a number, or its sure literals are shut out: it is not
-- applicable in any state that has a row in every table.
abbrev pub is_instance_shut_out : Task → List Atom → List Table → Instance → Bool
is_instance_shut_out task atoms tables i = instance_requires_unnumbered task atoms i || is_shut_out (literals_of_instance task atoms i) tables

-- the other instances must be fair
abbrev pub is_asked : Task → List Atom → List Table → Instance → Bool
is_asked task atoms tables i = not (is_instance_shut_out task atoms tables i)

-- all instances must be fair, as for potential functions
abbrev pub each_instance : Instance → Bool
each_instance i = true

-- an instance of the task is fair at this allowance
abbrev pub IsFairAt : ℕ → Task → List Atom → TableFunction → Instance → Type 0
IsFairAt allowance task atoms h i = IsFairAcross allowance (length atoms) h (literals_of_instance task atoms i) (conditional_of_instance task atoms i)

-- ---- fair table functions

-- each kept instance that must be fair is fair at its allowance, and so are the goals
pub record AreFairAt (asked : Instance → Bool) (allowance : Instance → ℕ) (task : Task) (atoms : List Atom) (h : TableFunction) : Type 0 where
  pub instances : All (λ (i : Instance). IsTrue (asked i) → IsFairAt (allowance i) task atoms h i) (kept_instances task)
  pub goals : IsFairAtGoals task atoms h

-- fair: no instance that is not shut out makes the value fall by more than its cost
abbrev pub IsFair : Task → List Atom → TableFunction → Type 0
IsFair task atoms h = AreFairAt (is_asked task atoms h.tables) (cost_of task) task atoms h

-- dead-fair: no such instance makes it fall at all
abbrev pub IsDeadFair : Task → List Atom → TableFunction → Type 0
IsDeadFair task atoms h = AreFairAt (is_asked task atoms h.tables) nothing task atoms h

-- each of several values is fair, and that of dead ends is dead-fair
pub record AreFair (task : Task) (atoms : List Atom) (s : SeveralValues) : Type 0 where
  pub values : All (IsFair task atoms) (functions_of s)
  pub dead_ends : IsDeadFair task atoms (dead_ends_of s)

-- ---- the first that is not fair

-- the instance with this number is the first that must be fair and is not, at its allowance
pub record IsFirstUnfairAt (asked : Instance → Bool) (allowance : Instance → ℕ) (task : Task) (atoms : List Atom) (h : TableFunction) (number : ℕ) : Type 0 where
  pub instance : Instance
  pub named : slice_get (kept_instances task) number ≡ Some instance
  pub is_asked : IsTrue (asked instance)
  pub unfair : ¬ IsFairAt (allowance instance) task atoms h instance
  pub earlier : (n : ℕ) (i : Instance) → n < number → slice_get (kept_instances task) n ≡ Some i → IsTrue (asked i) → IsFairAt (allowance i) task atoms h i

abbrev pub IsFirstUnfair : Task → List Atom → TableFunction → ℕ → Type 0
IsFirstUnfair task atoms h = IsFirstUnfairAt (is_asked task atoms h.tables) (cost_of task) task atoms h

abbrev pub IsFirstDeadUnfair : Task → List Atom → TableFunction → ℕ → Type 0
IsFirstDeadUnfair task atoms h = IsFirstUnfairAt (is_asked task atoms h.tables) nothing task atoms h
