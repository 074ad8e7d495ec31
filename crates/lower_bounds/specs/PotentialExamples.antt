-- Worked examples of potential functions: the loss of an instance by one atom, the contribution in goal states, values, and four
-- small tasks. Each is chosen to expose a wrong reading.
use Rattle.std.specs.Prelude.{◌≡◌, ℕ, true, false, ℤ, pos, neg_ℤ, List, [], ◌∷◌, codes, All}
use Rattle.model.specs.Task.{Atom, variable, object, atom, and, not, forall, add, when, by_number, Schema, Task, Instance}
use Rattle.model.specs.Meaning.{cost_of}
use Rattle.model.specs.StaticallyFalse.{kept_instances}
use Rattle.model.specs.NumberedLiterals.{NumberedLiteral, NumberedChange}
use Rattle.model.specs.Examples.{formulas, lifted, ground, instance, root, untyped, any, fact, adds, deletes, all}
use Rattle.model.specs.GroundingExamples.{value, becomes}
use Rattle.lower_bounds.specs.PotentialFunctions as potential
use Rattle.lower_bounds.specs.PotentialFunctions.{PotentialFunction, is_dead_by}
use Rattle.lower_bounds.specs.FairPotentials.{loses_at_most, instance_loses, IsFairAt, goal_gives_at_most, IsFairAtGoals, AreFair, nothing, AreDeadFair, IsFirstUnfair, IsFirstDeadUnfair}
use Rattle.lower_bounds.specs.Settled.{initial_value}

abbrev pub minus : ℕ → ℤ
minus n = neg_ℤ (pos n)

abbrev pub potentials : ℤ → List ℤ → PotentialFunction
potentials constant weights = record { constant = constant; weights = weights }

-- ---- one atom, with number 0

-- literals of a precondition: the atom is true, the atom is false
abbrev pub is_true : NumberedLiteral
is_true = value 0 true

abbrev pub is_false : NumberedLiteral
is_false = value 0 false

-- changes of an effect: unconditional, or under a `when`
abbrev pub added : NumberedChange
added = becomes 0 true true

abbrev pub deleted : NumberedChange
deleted = becomes 0 false true

abbrev pub may_be_added : NumberedChange
may_be_added = becomes 0 true false

abbrev pub may_be_deleted : NumberedChange
may_be_deleted = becomes 0 false false

-- the greatest loss of an instance with these literals and changes by the atom, for the weights 3, -3 and 0
pub record Loses (literals : List NumberedLiteral) (changes : List NumberedChange) (at_three at_minus_three at_zero : ℤ) : Type 0 where
  pub three : loses_at_most 1 (pos 3 ∷ []) literals changes ≡ at_three
  pub minus_three : loses_at_most 1 (minus 3 ∷ []) literals changes ≡ at_minus_three
  pub zero : loses_at_most 1 (pos 0 ∷ []) literals changes ≡ at_zero

-- the atom's greatest contribution in goal states with these literals
pub record Gives (literals : List NumberedLiteral) (at_three at_minus_three at_zero : ℤ) : Type 0 where
  pub three : goal_gives_at_most 1 (pos 3 ∷ []) literals ≡ at_three
  pub minus_three : goal_gives_at_most 1 (minus 3 ∷ []) literals ≡ at_minus_three
  pub zero : goal_gives_at_most 1 (pos 0 ∷ []) literals ≡ at_zero

-- ---- a walk by hops and leaps

-- (define (domain hop) (:predicates (at ?p) (road ?x ?y) (far ?x ?y)) (:functions (total-cost))
--  (:action hop :parameters (?x ?y) :precondition (and (at ?x) (road ?x ?y))
--   :effect (and (not (at ?x)) (at ?y) (increase (total-cost) 3)))
--  (:action leap :parameters (?x ?y) :precondition (and (at ?x) (far ?x ?y))
--   :effect (and (not (at ?x)) (at ?y) (increase (total-cost) 10))))
-- (define (problem h) (:domain hop) (:objects a b c) (:init (at a) (road a b) (road b c) (far a c))
--  (:goal (at c)) (:metric minimize (total-cost)))
abbrev pub along : List ℕ → ℕ → ℕ → Schema
along name ways cost = record {
  name = name;
  parameters = any 2;
  precondition = and (formulas (atom (lifted 0 (variable 0 ∷ [])) ∷ atom (lifted ways (variable 0 ∷ variable 1 ∷ [])) ∷ []));
  effect = all (deletes (lifted 0 (variable 0 ∷ [])) ∷ adds (lifted 0 (variable 1 ∷ [])) ∷ []);
  increase = by_number cost;
}

abbrev pub hop_task : Task
hop_task = record {
  types = root ∷ [];
  objects = untyped (codes "a") ∷ untyped (codes "b") ∷ untyped (codes "c") ∷ [];
  predicates = record { name = codes "at"; arguments = any 1 } ∷ record { name = codes "road"; arguments = any 2 } ∷ record { name = codes "far"; arguments = any 2 } ∷ [];
  functions = [];
  schemas = along (codes "hop") 1 3 ∷ along (codes "leap") 2 10 ∷ [];
  init = ground 0 (0 ∷ []) ∷ ground 1 (0 ∷ 1 ∷ []) ∷ ground 1 (1 ∷ 2 ∷ []) ∷ ground 2 (0 ∷ 2 ∷ []) ∷ [];
  values = [];
  goal = atom (lifted 0 (object 2 ∷ []));
  has_metric = true;
}

-- (at a), (at b) and (at c)
abbrev pub hop_atoms : List Atom
hop_atoms = ground 0 (0 ∷ []) ∷ ground 0 (1 ∷ []) ∷ ground 0 (2 ∷ []) ∷ []

abbrev pub hop_weights : List ℤ
hop_weights = pos 0 ∷ minus 3 ∷ minus 6 ∷ []

-- ---- a condition that may or may not hold

-- (define (domain w) (:predicates (a) (b) (c))
--  (:action do :parameters () :precondition (not (b)) :effect (and (c) (not (a)) (when (a) (b)))))
-- (define (problem p) (:domain w) (:init) (:goal (c)))
abbrev pub when_task : Task
when_task = record {
  types = root ∷ [];
  objects = [];
  predicates = fact (codes "a") ∷ fact (codes "b") ∷ fact (codes "c") ∷ [];
  functions = [];
  schemas = record {
    name = codes "do";
    parameters = [];
    precondition = not (atom (lifted 1 []));
    effect = all (adds (lifted 2 []) ∷ deletes (lifted 0 []) ∷ when (atom (lifted 0 [])) (add (lifted 1 []) ∷ []) ∷ []);
    increase = by_number 0;
  } ∷ [];
  init = [];
  values = [];
  goal = atom (lifted 2 []);
  has_metric = false;
}

-- (b), (c) and (a)
abbrev pub when_atoms : List Atom
when_atoms = ground 1 [] ∷ ground 2 [] ∷ ground 0 [] ∷ []

-- ---- lamps

-- (define (domain lamps) (:predicates (on ?s))
--  (:action flip :parameters (?s) :precondition (not (on ?s)) :effect (on ?s)))
-- (define (problem l) (:domain lamps) (:objects s t) (:init) (:goal (forall (?s) (on ?s))))
abbrev pub lamps_task : Task
lamps_task = record {
  types = root ∷ [];
  objects = untyped (codes "s") ∷ untyped (codes "t") ∷ [];
  predicates = record { name = codes "on"; arguments = any 1 } ∷ [];
  functions = [];
  schemas = record {
    name = codes "flip";
    parameters = any 1;
    precondition = not (atom (lifted 0 (variable 0 ∷ [])));
    effect = adds (lifted 0 (variable 0 ∷ []));
    increase = by_number 0;
  } ∷ [];
  init = [];
  values = [];
  goal = forall (0 ∷ []) (atom (lifted 0 (variable 0 ∷ [])));
  has_metric = false;
}

abbrev pub lamps_atoms : List Atom
lamps_atoms = ground 0 (0 ∷ []) ∷ ground 0 (1 ∷ []) ∷ []

-- ---- a token that is here or there

-- (define (domain token) (:predicates (x) (y))
--  (:action fore :parameters () :precondition (x) :effect (and (not (x)) (y)))
--  (:action back :parameters () :precondition (y) :effect (and (not (y)) (x))))
-- (define (problem t) (:domain token) (:init (x)) (:goal (and (x) (y))))
abbrev pub moves : List ℕ → ℕ → ℕ → Schema
moves name from to = record {
  name = name;
  parameters = [];
  precondition = atom (lifted from []);
  effect = all (deletes (lifted from []) ∷ adds (lifted to []) ∷ []);
  increase = by_number 0;
}

abbrev pub token_task : Task
token_task = record {
  types = root ∷ [];
  objects = [];
  predicates = fact (codes "x") ∷ fact (codes "y") ∷ [];
  functions = [];
  schemas = moves (codes "fore") 0 1 ∷ moves (codes "back") 1 0 ∷ [];
  init = ground 0 [] ∷ [];
  values = [];
  goal = and (formulas (atom (lifted 0 []) ∷ atom (lifted 1 []) ∷ []));
  has_metric = false;
}

-- (x) and (y)
abbrev pub token_atoms : List Atom
token_atoms = ground 0 [] ∷ ground 1 [] ∷ []

-- one token is missing in goal states
abbrev pub one_missing : PotentialFunction
one_missing = potentials (pos 2) (minus 1 ∷ minus 1 ∷ [])

-- the instances are fair at their allowances, and the goals are not
pub record IsUnfairAtGoalsAt (allowance : Instance → ℕ) (task : Task) (atoms : List Atom) (p : PotentialFunction) : Type 0 where
  pub instances : All (λ (i : Instance). IsFairAt (allowance i) task atoms p.weights i) (kept_instances task)
  pub goals : ¬ IsFairAtGoals task atoms p

abbrev pub IsUnfairAtGoals : Task → List Atom → PotentialFunction → Type 0
IsUnfairAtGoals task = IsUnfairAtGoalsAt (cost_of task) task

abbrev pub IsDeadUnfairAtGoals : Task → List Atom → PotentialFunction → Type 0
IsDeadUnfairAtGoals = IsUnfairAtGoalsAt nothing

pub record AreJudged : Type 0 where
  -- An add makes the atom true, whatever it was; if it was true before, nothing is lost and nothing gained.
  pub add : Loses [] (added ∷ []) (pos 0) (pos 3) (pos 0)
  pub add_to_true : Loses (is_true ∷ []) (added ∷ []) (pos 0) (pos 0) (pos 0)
  pub add_to_false : Loses (is_false ∷ []) (added ∷ []) (minus 3) (pos 3) (pos 0)
  -- A delete is the reverse.
  pub delete : Loses [] (deleted ∷ []) (pos 3) (pos 0) (pos 0)
  pub delete_of_true : Loses (is_true ∷ []) (deleted ∷ []) (pos 3) (minus 3) (pos 0)
  pub delete_of_false : Loses (is_false ∷ []) (deleted ∷ []) (pos 0) (pos 0) (pos 0)
  -- An add under a `when` may gain, or may not: the gain is not counted.
  pub uncertain_add : Loses [] (may_be_added ∷ []) (pos 0) (pos 3) (pos 0)
  pub uncertain_add_to_true : Loses (is_true ∷ []) (may_be_added ∷ []) (pos 0) (pos 0) (pos 0)
  pub uncertain_add_to_false : Loses (is_false ∷ []) (may_be_added ∷ []) (pos 0) (pos 3) (pos 0)
  -- The same for a delete under one.
  pub uncertain_delete : Loses [] (may_be_deleted ∷ []) (pos 3) (pos 0) (pos 0)
  pub uncertain_delete_of_true : Loses (is_true ∷ []) (may_be_deleted ∷ []) (pos 3) (pos 0) (pos 0)
  pub uncertain_delete_of_false : Loses (is_false ∷ []) (may_be_deleted ∷ []) (pos 0) (pos 0) (pos 0)
  -- An add wins over a delete, in either order, and over one under a `when`.
  pub add_and_delete : Loses (is_true ∷ []) (added ∷ deleted ∷ []) (pos 0) (pos 0) (pos 0)
  pub delete_and_add : Loses (is_false ∷ []) (deleted ∷ added ∷ []) (minus 3) (pos 3) (pos 0)
  pub add_and_uncertain_delete : Loses (is_true ∷ []) (may_be_deleted ∷ added ∷ []) (pos 0) (pos 0) (pos 0)
  -- Under a `when` an add may win over a delete, or may not; a delete under one adds nothing to an unconditional delete.
  pub delete_and_uncertain_add : Loses (is_true ∷ []) (deleted ∷ may_be_added ∷ []) (pos 3) (pos 0) (pos 0)
  pub delete_and_uncertain_add_to_false : Loses (is_false ∷ []) (may_be_added ∷ deleted ∷ []) (pos 0) (pos 3) (pos 0)
  pub delete_and_uncertain_delete : Loses (is_true ∷ []) (deleted ∷ may_be_deleted ∷ []) (pos 3) (minus 3) (pos 0)
  -- With both under a `when` the atom may have either truth value.
  pub both_uncertain : Loses [] (may_be_added ∷ may_be_deleted ∷ []) (pos 3) (pos 3) (pos 0)
  pub both_uncertain_at_true : Loses (is_true ∷ []) (may_be_deleted ∷ may_be_added ∷ []) (pos 3) (pos 0) (pos 0)
  pub both_uncertain_at_false : Loses (is_false ∷ []) (may_be_added ∷ may_be_deleted ∷ []) (pos 0) (pos 3) (pos 0)
  -- Contradictory literals leave no pair, and an atom that no change affects loses nothing.
  pub never_applicable : Loses (is_true ∷ is_false ∷ []) (deleted ∷ []) (pos 0) (pos 0) (pos 0)
  pub untouched : Loses (is_true ∷ []) [] (pos 0) (pos 0) (pos 0)
  -- The effect of two changes on one atom is counted once, and literals of other atoms do not matter.
  pub touched_twice : Loses (is_false ∷ []) (added ∷ added ∷ []) (minus 3) (pos 3) (pos 0)
  pub of_another : Loses (value 1 true ∷ []) (deleted ∷ []) (pos 3) (pos 0) (pos 0)
  -- The sum is over all atoms: one is deleted, and another added.
  pub of_two_atoms : loses_at_most 2 (pos 5 ∷ pos 2 ∷ []) (is_true ∷ value 1 false ∷ []) (deleted ∷ becomes 1 true true ∷ []) ≡ pos 3
  pub of_no_atom : loses_at_most 0 [] [] [] ≡ pos 0
  -- In a goal state an atom contributes its weight if it must be true, nothing if it must be false, or both; if the goal does not
  -- mention it, it contributes its weight if that is positive.
  pub to_be_true : Gives (is_true ∷ []) (pos 3) (minus 3) (pos 0)
  pub to_be_false : Gives (is_false ∷ []) (pos 0) (pos 0) (pos 0)
  pub to_be_both : Gives (is_true ∷ is_false ∷ []) (pos 0) (pos 0) (pos 0)
  pub not_named : Gives [] (pos 3) (pos 0) (pos 0)
  -- The value is the sum of the weights of the true atoms and the constant, and never below 0; an atom without a weight
  -- contributes nothing.
  pub of_some : potential.value (potentials (pos 6) hop_weights) (true ∷ true ∷ false ∷ []) ≡ 3
  pub of_none : potential.value (potentials (pos 6) hop_weights) (false ∷ false ∷ false ∷ []) ≡ 6
  pub below_zero : potential.value (potentials (pos 6) hop_weights) (false ∷ true ∷ true ∷ []) ≡ 0
  pub without_weights : potential.value (potentials (pos 6) []) (true ∷ true ∷ []) ≡ 6
  -- Hops and leaps: a hop may lose all of its cost, and a leap less. (hop a c), for which there is no road, is not constrained.
  pub hop_loses : instance_loses hop_task hop_atoms hop_weights (instance 0 (0 ∷ 1 ∷ [])) ≡ pos 3
  pub leap_loses : instance_loses hop_task hop_atoms hop_weights (instance 1 (0 ∷ 2 ∷ [])) ≡ pos 6
  pub no_road : instance_loses hop_task hop_atoms hop_weights (instance 0 (0 ∷ 2 ∷ [])) ≡ pos 6
  pub hops_are_fair : AreFair hop_task hop_atoms (potentials (pos 6) hop_weights)
  pub hops_begin_at : initial_value hop_task hop_atoms (potentials (pos 6) hop_weights) ≡ 6
  -- One more for (at b) makes the first hop lose less than its cost and the second more; the first unfair instance is reported.
  pub second_hop_is_unfair : IsFirstUnfair hop_task hop_atoms (potentials (pos 6) (pos 0 ∷ minus 2 ∷ minus 6 ∷ [])) 1
  pub constant_too_high : IsUnfairAtGoals hop_task hop_atoms (potentials (pos 7) hop_weights)
  -- The add of (b) under a `when` does not make up for (c), whose weight is 3.
  pub uncertain_add_gives_nothing : IsFirstUnfair when_task when_atoms (potentials (pos 1) (pos 2 ∷ minus 3 ∷ pos 0 ∷ [])) 0
  pub without_it : AreFair when_task when_atoms (potentials (pos 1) (pos 0 ∷ minus 1 ∷ pos 0 ∷ []))
  pub goals_are_unfair : IsUnfairAtGoals when_task when_atoms (potentials (pos 2) (pos 0 ∷ minus 1 ∷ pos 0 ∷ []))
  -- The weight of each lamp is the cost of its flip.
  pub lamps_are_fair : AreFair lamps_task lamps_atoms (potentials (pos 2) (minus 1 ∷ minus 1 ∷ []))
  pub lamps_begin_at : initial_value lamps_task lamps_atoms (potentials (pos 2) (minus 1 ∷ minus 1 ∷ [])) ≡ 2
  -- The token is here or there, never both: neither step makes the sum fall, and from the initial state, whose value is 1, no
  -- list leads to the goal.
  pub token_is_dead_fair : AreDeadFair token_task token_atoms one_missing
  pub token_begins_at : initial_value token_task token_atoms one_missing ≡ 1
  pub token_begins_dead : is_dead_by one_missing (true ∷ false ∷ []) ≡ true
  pub token_never_there : is_dead_by one_missing (false ∷ false ∷ []) ≡ true
  pub both_is_not_dead : is_dead_by one_missing (true ∷ true ∷ []) ≡ false
  pub dead_constant_too_high : IsDeadUnfairAtGoals token_task token_atoms (potentials (pos 3) (minus 1 ∷ minus 1 ∷ []))
  -- If (y) weighs more, `fore` may make the sum fall by 1, its cost: that is fair, but not dead-fair.
  pub fore_costs_one : AreFair token_task token_atoms (potentials (pos 2) (minus 1 ∷ minus 2 ∷ []))
  pub fore_is_dead_unfair : IsFirstDeadUnfair token_task token_atoms (potentials (pos 2) (minus 1 ∷ minus 2 ∷ [])) 0
  -- The costs of instances do not matter there: hops are fair, but the first is not dead-fair.
  pub hops_are_not_dead_fair : IsFirstDeadUnfair hop_task hop_atoms (potentials (pos 6) hop_weights) 0
