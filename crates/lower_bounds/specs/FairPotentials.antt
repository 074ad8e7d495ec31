-- Fair potential functions: no kept instance makes the sum of weights fall by more than its cost, and in goal states the sum is
-- at most 0. The conditions look at each instance and at the goal once, and at no state: they use the literals that surely hold
-- before an instance, and the counting changes (the conditions of Pommerening, Helmert, Röger & Seipp 2015 for potential
-- heuristics, here for preconditions that leave an atom open and for conditional effects).
use Rattle.std.specs.Prelude.{◌≡◌, ℕ, ◌<◌, ◌==◌, Bool, true, false, not, ◌&&◌, ◌||◌, if◌then◌else◌, ℤ, pos, ◌+ℤ◌, neg_ℤ, ◌≤ℤ◌, List, [], ◌∷◌, length, map, filter, fold, slice_get, All, Some}
use Rattle.std.specs.Bool.{beq}
use Rattle.std.specs.List.{list_any}
use Rattle.std.specs.Int.{int_max}
use Rattle.model.specs.Task.{Atom, Task, Instance}
use Rattle.model.specs.Meaning.{cost_of}
use Rattle.model.specs.StaticallyFalse.{kept_instances}
use Rattle.model.specs.NumberedLiterals.{NumberedLiteral, NumberedChange, literals_of_instance, literals_of_goal, counting_of_instance}
use Rattle.lower_bounds.specs.PotentialFunctions.{PotentialFunction, weight, sum_below}

-- ---- what an instance may do to an atom's truth value

-- one of the literals states that the atom with this number is true (or false)
abbrev pub says : List NumberedLiteral → ℕ → Bool → Bool
says literals number value = list_any (λ (l : NumberedLiteral). l.atom == number && beq l.value value) literals

-- one of the changes affects the atom with this number
abbrev pub touches : List NumberedChange → ℕ → Bool
touches changes number = list_any (λ (c : NumberedChange). c.atom == number) changes

-- one of the changes, unconditional or under a `when`, makes the atom true (or false)
abbrev pub makes : List NumberedChange → Bool → Bool → ℕ → Bool
makes changes unconditional value number =
    list_any (λ (c : NumberedChange). c.atom == number && beq c.is_unconditional unconditional && beq c.value value) changes

-- The atom may have this truth value after the instance, given the one before. If an unconditional change adds it, it is true.
-- Otherwise it is false if an unconditional change deletes it, and unchanged if none does; or it is true because a change under a
-- `when` adds it, or false because one deletes it.
abbrev pub may_become : List NumberedChange → ℕ → Bool → Bool → Bool
may_become changes number before after =
    if makes changes true true number then after
    else beq after (before && not (makes changes true false number)) || makes changes false after number

-- an atom's truth values before and after an instance with these literals and changes
pub record Pair : Type 0 where
  pub before : Bool
  pub after : Bool

-- the atom with this number may have these truth values: before, as far as the literals say, and then after
abbrev pub is_pair : List NumberedLiteral → List NumberedChange → ℕ → Pair → Bool
is_pair literals changes number p = not (says literals number (not p.before)) && may_become changes number p.before p.after

abbrev pub pairs : List NumberedLiteral → List NumberedChange → ℕ → List Pair
pairs literals changes number =
    filter (is_pair literals changes number)
    (record { before = false; after = false } ∷ record { before = false; after = true } ∷ record { before = true; after = false } ∷ record { before = true; after = true } ∷ [])

-- the weight times (before minus after)
abbrev pub loss : ℤ → Pair → ℤ
loss w p = if p.before then (if p.after then pos 0 else w) else if p.after then neg_ℤ w else pos 0

-- the greatest of the numbers; 0 if there is none
abbrev pub greatest : List ℤ → ℤ
greatest [] = pos 0
greatest (first ∷ rest) = fold int_max first rest

-- the greatest loss of the instance by an atom with this weight
abbrev pub worst : List NumberedLiteral → List NumberedChange → ℤ → ℕ → ℤ
worst literals changes w number = greatest (map (loss w) (pairs literals changes number))

-- the loss by an atom that the changes affect; by every other atom it is 0
abbrev pub loses : List NumberedLiteral → List NumberedChange → List ℤ → ℕ → ℤ
loses literals changes weights number = if touches changes number then worst literals changes (weight weights number) number else pos 0

-- The greatest loss of an instance with these literals and changes, for this many numbered atoms.
abbrev pub loses_at_most : ℕ → List ℤ → List NumberedLiteral → List NumberedChange → ℤ
loses_at_most count weights literals changes = sum_below count (loses literals changes weights)

-- the greatest loss of an instance of the task
abbrev pub instance_loses : Task → List Atom → List ℤ → Instance → ℤ
instance_loses task atoms weights i = loses_at_most (length atoms) weights (literals_of_instance task atoms i) (counting_of_instance task atoms i)

-- an instance is fair at this cost if it loses no more
pub record IsFairAt (cost : ℕ) (task : Task) (atoms : List Atom) (weights : List ℤ) (i : Instance) : Type 0 where
  pub within : instance_loses task atoms weights i ≤ℤ pos cost

-- ---- the value in goal states

-- the greatest contribution of an atom with this weight in states that agree with the goal's literals
abbrev pub goal_gives : List NumberedLiteral → List ℤ → ℕ → ℤ
goal_gives literals weights number =
    if says literals number false then pos 0
    else if says literals number true then weight weights number
    else int_max (pos 0) (weight weights number)

abbrev pub goal_gives_at_most : ℕ → List ℤ → List NumberedLiteral → ℤ
goal_gives_at_most count weights literals = sum_below count (goal_gives literals weights)

pub record IsFairAtGoals (task : Task) (atoms : List Atom) (p : PotentialFunction) : Type 0 where
  pub within : (p.constant +ℤ goal_gives_at_most (length atoms) p.weights (literals_of_goal task atoms)) ≤ℤ pos 0

-- ---- fair potential functions

-- each kept instance is fair at its allowance, and so are the goals
pub record AreFairAt (allowance : Instance → ℕ) (task : Task) (atoms : List Atom) (p : PotentialFunction) : Type 0 where
  pub instances : All (λ (i : Instance). IsFairAt (allowance i) task atoms p.weights i) (kept_instances task)
  pub goals : IsFairAtGoals task atoms p

-- fair: no kept instance makes the sum of weights fall by more than its cost
abbrev pub AreFair : Task → List Atom → PotentialFunction → Type 0
AreFair task = AreFairAt (cost_of task) task

-- the allowance 0 for every instance, whatever its cost
abbrev pub nothing : Instance → ℕ
nothing i = 0

-- dead-fair: no kept instance makes the sum of weights fall at all
abbrev pub AreDeadFair : Task → List Atom → PotentialFunction → Type 0
AreDeadFair = AreFairAt nothing

-- the instance with this number is the first that is not fair at its allowance
pub record IsFirstUnfairAt (allowance : Instance → ℕ) (task : Task) (atoms : List Atom) (p : PotentialFunction) (number : ℕ) : Type 0 where
  pub instance : Instance
  pub named : slice_get (kept_instances task) number ≡ Some instance
  pub unfair : ¬ IsFairAt (allowance instance) task atoms p.weights instance
  pub earlier : (n : ℕ) (i : Instance) → n < number → slice_get (kept_instances task) n ≡ Some i → IsFairAt (allowance i) task atoms p.weights i

-- the first that may make the sum of weights fall by more than its cost, and the first that may make it fall at all
abbrev pub IsFirstUnfair : Task → List Atom → PotentialFunction → ℕ → Type 0
IsFirstUnfair task = IsFirstUnfairAt (cost_of task) task

abbrev pub IsFirstDeadUnfair : Task → List Atom → PotentialFunction → ℕ → Type 0
IsFirstDeadUnfair = IsFirstUnfairAt nothing
