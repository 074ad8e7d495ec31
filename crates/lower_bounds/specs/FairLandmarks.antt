-- Fair landmark functions: the zones that a kept instance may break weigh no more than it costs, and each zone has a literal of the
-- goal. The conditions look at each instance and at the goal once, and at no state. Nothing is asked about how the zones were
-- found: no reachability, and no mutexes.
use Rattle.std.specs.Prelude.{ℕ, ◌≤◌, Bool, true, not, ◌&&◌, ◌||◌, IsTrue, List, All, filter, if◌then◌else◌, sum_by}
use Rattle.std.specs.List.{list_all, list_any}
use Rattle.model.specs.Task.{Atom, Task, Instance}
use Rattle.model.specs.Meaning.{cost_of}
use Rattle.model.specs.StaticallyFalse.{kept_instances}
use Rattle.model.specs.NumberedLiterals.{NumberedLiteral, NumberedChange, literals_of_instance, literals_of_goal}
use Rattle.model.specs.ConditionalChanges.{ConditionalChange, changes_in, conditional_of_instance}
use Rattle.lower_bounds.specs.FairPotentials.{makes, nothing}
use Rattle.lower_bounds.specs.TableFunctions.{Table}
use Rattle.lower_bounds.specs.FairTables.{is_asked, is_closed}
use Rattle.lower_bounds.specs.LandmarkFunctions.{Zone, is_in, has_any, Landmark, LandmarkFunction}

-- ---- instances that may break a zone

-- The change makes a literal of the zone true: it adds one of its atoms, or deletes one of the negated ones. A delete does not
-- count if an unconditional change adds the atom.
abbrev pub makes_one : List ConditionalChange → Zone → NumberedChange → Bool
makes_one changes zone c = is_in zone (record { atom = c.atom; value = c.value }) && (c.value || not (makes (changes_in changes) true true c.atom))

-- the change may take effect where the zone is whole: its condition has no literal of it, and requires no atom without a number
abbrev pub may_take_effect : Zone → ConditionalChange → Bool
may_take_effect zone c = not (has_any zone c.condition) && not c.requires_unnumbered

-- An instance with these literals and changes may break the zone: a change that may take effect makes one of its literals true. If
-- a literal of the precondition is one of its literals, it is not whole where the instance is applicable.
abbrev pub may_break : List NumberedLiteral → List ConditionalChange → Zone → Bool
may_break literals changes zone =
    not (has_any zone literals) && list_any (λ (c : ConditionalChange). makes_one changes zone c.change && may_take_effect zone c) changes

-- an instance of the task may break the zone
abbrev pub instance_may_break : Task → List Atom → Zone → Instance → Bool
instance_may_break task atoms zone i = may_break (literals_of_instance task atoms i) (conditional_of_instance task atoms i) zone

-- the cut of a zone, a disjunctive action landmark of each state in which it is whole: the kept instances that may break it
abbrev pub cut_of : Task → List Atom → Zone → List Instance
cut_of task atoms zone = filter (instance_may_break task atoms zone) (kept_instances task)

-- ---- charges

-- an instance is charged the weight of a zone that it may break
abbrev pub charge : List NumberedLiteral → List ConditionalChange → Landmark → ℕ
charge literals changes landmark = if may_break literals changes landmark.zone then landmark.weight else 0

-- the sum of its charges: those of all zones that it may break, since it may break them at once
abbrev pub charges : Task → List Atom → List Landmark → Instance → ℕ
charges task atoms landmarks i = sum_by (charge (literals_of_instance task atoms i) (conditional_of_instance task atoms i)) landmarks

-- an instance of the task is fair at this allowance
pub record IsFairAt (allowance : ℕ) (task : Task) (atoms : List Atom) (h : LandmarkFunction) (i : Instance) : Type 0 where
  pub within : charges task atoms h.landmarks i ≤ allowance

-- each zone has one of the goal's literals, so none is whole in a goal state
abbrev pub AreOfGoal : Task → List Atom → LandmarkFunction → Type 0
AreOfGoal task atoms h = IsTrue (list_all (λ (landmark : Landmark). has_any landmark.zone (literals_of_goal task atoms)) h.landmarks)

-- ---- fair landmark functions

-- each kept instance that is not shut out is fair at its allowance, and each zone has a literal of the goal
pub record AreFairAt (allowance : Instance → ℕ) (task : Task) (atoms : List Atom) (h : LandmarkFunction) : Type 0 where
  pub instances : All (λ (i : Instance). IsTrue (is_asked task atoms h.tables i) → IsFairAt (allowance i) task atoms h i) (kept_instances task)
  pub goals : AreOfGoal task atoms h

-- fair: no such instance is charged more than it costs
abbrev pub IsFair : Task → List Atom → LandmarkFunction → Type 0
IsFair task atoms h = AreFairAt (cost_of task) task atoms h

-- dead-fair: no such instance is charged at all
abbrev pub IsDeadFair : Task → List Atom → LandmarkFunction → Type 0
IsDeadFair task atoms h = AreFairAt nothing task atoms h

-- ---- the tables beside them

-- From rows each kept instance that is not shut out leads to rows: nothing more is asked of tables, and this is part of the fairness
-- of values over them.
abbrev pub AreClosed : Task → List Atom → List Table → Type 0
AreClosed task atoms tables =
    All (λ (i : Instance). IsTrue (is_asked task atoms tables i)
    → IsTrue (list_all (is_closed (literals_of_instance task atoms i) (conditional_of_instance task atoms i)) tables)) (kept_instances task)
