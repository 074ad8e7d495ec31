-- Worked examples: what the definitions say about small tasks, each chosen to expose a wrong reading.
use Rattle.std.specs.Prelude.{◌≡◌, ℕ, Bool, true, false, List, [], ◌∷◌, ◌++◌, map, codes, replicate, None, Some}
use Rattle.std.specs.FinSet.{len}
use Rattle.model.specs.Task.{ObjectType, Object, Union, Predicate, Atom, LiftedAtom, Term, variable, object, Formula, Formulas, atom, equal, and, not, forall, no_formula, more_formulas, EffectLiteral, add, delete, Effect, Effects, literal, both, each, when, no_effect, more_effects, by_number, by_function, FunctionValue, Schema, Task, Instance}
use Rattle.model.specs.Runs.{IsVerdict, valid, not_applicable, goal_missed}
use Rattle.model.specs.Meaning.{State, objects_of, ground_atom, GroundLiteral, Change, changes_of, after_changes, is_instance, step, cost_of, initial_state, system_of}
use Rattle.model.specs.Meaning as meaning
use Rattle.model.specs.Instances.{all_instances}
use Rattle.model.specs.WellTyped.{is_term, is_effect}
use Rattle.model.specs.Fluents.{is_fluent}

-- ---- formulas and effects from lists

abbrev pub formulas : List Formula → Formulas
formulas [] = no_formula
formulas (part ∷ rest) = more_formulas part (formulas rest)

abbrev pub effects : List Effect → Effects
effects [] = no_effect
effects (part ∷ rest) = more_effects part (effects rest)

abbrev pub lifted : ℕ → List Term → LiftedAtom
lifted predicate terms = record { predicate = predicate; terms = terms }

abbrev pub ground : ℕ → List ℕ → Atom
ground predicate objects = record { predicate = predicate; objects = objects }

abbrev pub instance : ℕ → List ℕ → Instance
instance schema objects = record { schema = schema; objects = objects }

-- ---- tasks without types

abbrev pub root : ObjectType
root = record { name = codes "object"; supertypes = 0 ∷ [] }

abbrev pub untyped : List ℕ → Object
untyped name = record { name = name; type = 0 }

-- this many parameters of any type
abbrev pub any : ℕ → List Union
any count = replicate count (0 ∷ [])

-- ---- a task in which one effect deletes an atom and adds it

-- (define (domain go) (:predicates (p) (q))
--  (:action go :parameters () :effect (and (not (p)) (p) (q))))
-- (define (problem g) (:domain go) (:init (p)) (:goal (and (p) (q))))
abbrev pub go : Schema
go = record {
  name = codes "go";
  parameters = [];
  precondition = and (formulas []);
  effect = both (effects (literal (delete (lifted 0 [])) ∷ literal (add (lifted 0 [])) ∷ literal (add (lifted 1 [])) ∷ []));
  increase = by_number 0;
}

abbrev pub go_task : Task
go_task = record {
  types = root ∷ [];
  objects = [];
  predicates = record { name = codes "p"; arguments = [] } ∷ record { name = codes "q"; arguments = [] } ∷ [];
  functions = [];
  schemas = go ∷ [];
  init = ground 0 [] ∷ [];
  values = [];
  goal = and (formulas (atom (lifted 0 []) ∷ atom (lifted 1 []) ∷ []));
  has_metric = false;
}

-- ---- a task with one object for two parameters

-- (define (domain tie) (:predicates (link ?x ?y) (tied))
--  (:action tie :parameters (?x ?y) :precondition (link ?x ?y) :effect (tied)))
-- (define (problem t) (:domain tie) (:objects a) (:init (link a a)) (:goal (tied)))
abbrev pub tie : Schema
tie = record {
  name = codes "tie";
  parameters = any 2;
  precondition = atom (lifted 0 (variable 0 ∷ variable 1 ∷ []));
  effect = literal (add (lifted 1 []));
  increase = by_number 0;
}

abbrev pub tie_task : Task
tie_task = record {
  types = root ∷ [];
  objects = untyped (codes "a") ∷ [];
  predicates = record { name = codes "link"; arguments = any 2 } ∷ record { name = codes "tied"; arguments = [] } ∷ [];
  functions = [];
  schemas = tie ∷ [];
  init = ground 0 (0 ∷ 0 ∷ []) ∷ [];
  values = [];
  goal = atom (lifted 1 []);
  has_metric = false;
}

-- ---- a walk over places

-- (define (domain walk) (:predicates (at ?x) (road ?x ?y))
--  (:action move :parameters (?x ?y) :precondition (and (at ?x) (road ?x ?y)) :effect (and (not (at ?x)) (at ?y))))
-- (define (problem w) (:domain walk) (:objects a b c)
--  (:init (at a) (road a a) (road a b) (road b c) (at a)) (:goal (at b)))
abbrev pub move : Schema
move = record {
  name = codes "move";
  parameters = any 2;
  precondition = and (formulas (atom (lifted 0 (variable 0 ∷ [])) ∷ atom (lifted 1 (variable 0 ∷ variable 1 ∷ [])) ∷ []));
  effect = both (effects (literal (delete (lifted 0 (variable 0 ∷ []))) ∷ literal (add (lifted 0 (variable 1 ∷ []))) ∷ []));
  increase = by_number 0;
}

abbrev pub walk_to : ℕ → Task
walk_to place = record {
  types = root ∷ [];
  objects = untyped (codes "a") ∷ untyped (codes "b") ∷ untyped (codes "c") ∷ [];
  predicates = record { name = codes "at"; arguments = any 1 } ∷ record { name = codes "road"; arguments = any 2 } ∷ [];
  functions = [];
  schemas = move ∷ [];
  init = ground 0 (0 ∷ []) ∷ ground 1 (0 ∷ 0 ∷ []) ∷ ground 1 (0 ∷ 1 ∷ []) ∷ ground 1 (1 ∷ 2 ∷ []) ∷ ground 0 (0 ∷ []) ∷ [];
  values = [];
  goal = atom (lifted 0 (object place ∷ []));
  has_metric = false;
}

abbrev pub a_to_a : Instance
a_to_a = instance 0 (0 ∷ 0 ∷ [])

abbrev pub a_to_b : Instance
a_to_b = instance 0 (0 ∷ 1 ∷ [])

abbrev pub b_to_c : Instance
b_to_c = instance 0 (1 ∷ 2 ∷ [])

-- ---- a task with types

-- (define (domain fleet) (:types truck - vehicle vehicle place) (:predicates (seen ?x - (either place truck)))
--  (:action see :parameters (?x - (either place truck)) :effect (seen ?x)))
-- (define (problem f) (:domain fleet) (:objects t - truck v - vehicle p - place z) (:init) (:goal (seen p)))
abbrev pub place_or_truck : Union
place_or_truck = 3 ∷ 1 ∷ []

abbrev pub typed : List ℕ → ℕ → Object
typed name type = record { name = name; type = type }

abbrev pub object_type : List ℕ → List ℕ → ObjectType
object_type name supertypes = record { name = name; supertypes = supertypes }

abbrev pub see : Schema
see = record {
  name = codes "see";
  parameters = place_or_truck ∷ [];
  precondition = and (formulas []);
  effect = literal (add (lifted 0 (variable 0 ∷ [])));
  increase = by_number 0;
}

abbrev pub fleet_task : Task
fleet_task = record {
  types = root ∷ object_type (codes "truck") (1 ∷ 2 ∷ 0 ∷ []) ∷ object_type (codes "vehicle") (2 ∷ 0 ∷ []) ∷ object_type (codes "place") (3 ∷ 0 ∷ []) ∷ [];
  objects = typed (codes "t") 1 ∷ typed (codes "v") 2 ∷ typed (codes "p") 3 ∷ untyped (codes "z") ∷ [];
  predicates = record { name = codes "seen"; arguments = place_or_truck ∷ [] } ∷ [];
  functions = [];
  schemas = see ∷ [];
  init = [];
  values = [];
  goal = atom (lifted 0 (object 2 ∷ []));
  has_metric = false;
}

-- ---- tasks of one action, for its effect

-- the objects t (a truck), v (a vehicle), p (a place) and z (untyped); and boats, of which there are none
abbrev pub fleet : Task
fleet = record fleet_task { types = fleet_task.types ++ object_type (codes "boat") (4 ∷ 2 ∷ 0 ∷ []) ∷ [] }

abbrev pub trucks : Union
trucks = 1 ∷ []

abbrev pub vehicles : Union
vehicles = 2 ∷ []

abbrev pub boats : Union
boats = 4 ∷ []

-- (:predicates (seen ?x) (p) (q) (r))
abbrev pub seen : Term → LiftedAtom
seen t = lifted 0 (t ∷ [])

abbrev pub p : LiftedAtom
p = lifted 1 []

abbrev pub q : LiftedAtom
q = lifted 2 []

abbrev pub r : LiftedAtom
r = lifted 3 []

-- a predicate without arguments
abbrev pub fact : List ℕ → Predicate
fact name = record { name = name; arguments = [] }

-- an action with these parameters and this effect, which is always applicable
abbrev pub doer : List Union → Effect → Schema
doer parameters effect = record { name = codes "do"; parameters = parameters; precondition = and (formulas []); effect = effect; increase = by_number 0 }

-- the task of that action in which these atoms are initially true, and the goal is the conjunction of these formulas
abbrev pub doing : List Union → Effect → List LiftedAtom → List Formula → Task
doing parameters effect before goals = record {
  types = fleet.types;
  objects = fleet.objects;
  predicates = record { name = codes "seen"; arguments = any 1 } ∷ fact (codes "p") ∷ fact (codes "q") ∷ fact (codes "r") ∷ [];
  functions = [];
  schemas = doer parameters effect ∷ [];
  init = map (ground_atom []) before;
  values = [];
  goal = and (formulas goals);
  has_metric = false;
}

-- from these true atoms, the action with these objects leads to a state in which all of these formulas hold
pub record LeadsWith (parameters : List Union) (objects : List ℕ) (before : List LiftedAtom) (effect : Effect) (goals : List Formula) : Type 0 where
  pub is_solved : IsVerdict (system_of (doing parameters effect before goals)) (instance 0 objects ∷ []) (valid 1)

-- the same without parameters
abbrev pub Leads : List LiftedAtom → Effect → List Formula → Type 0
Leads before effect goals = LeadsWith [] [] before effect goals

abbrev pub adds : LiftedAtom → Effect
adds a = literal (add a)

abbrev pub deletes : LiftedAtom → Effect
deletes a = literal (delete a)

-- the conjunction (and ..) of these effects
abbrev pub all : List Effect → Effect
all parts = both (effects parts)

-- (when (p) ..), and (when (r) ..)
abbrev pub when_p : EffectLiteral → Effect
when_p l = when (atom p) (l ∷ [])

abbrev pub when_r : EffectLiteral → Effect
when_r l = when (atom r) (l ∷ [])

-- the object t, and v
abbrev pub the_truck : Term
the_truck = object 0

abbrev pub the_vehicle : Term
the_vehicle = object 1

-- (and (p) (forall (?x - vehicle) (when (seen ?x) (and (not (seen ?x)) (q)))) (forall (?x - truck) (seen ?x)))
abbrev pub of_each_kind : Effect
of_each_kind = all (
    adds p
    ∷ each vehicles (when (atom (seen (variable 0))) (delete (seen (variable 0)) ∷ add q ∷ []))
    ∷ each trucks (adds (seen (variable 0))) ∷ []
    )

abbrev pub change : Formula → List ℕ → GroundLiteral → Change
change condition binding l = record { condition = condition; binding = binding; literal = l }

-- ---- a task with costs

-- the action go with (increase (total-cost) 3), and without it; with the metric or without it
abbrev pub priced : Bool → Task
priced has_metric = record go_task { schemas = record go { increase = by_number 3 } ∷ go ∷ []; has_metric = has_metric }

-- ---- a task with a function

-- from ?x to ?y, which increases the cost by the value of the function 0 for them:
--   (:action go :parameters (?x ?y) :precondition (at ?x) :effect (and (not (at ?x)) (at ?y) (increase (total-cost) (len ?x ?y))))
abbrev pub go_along : Schema
go_along = record {
  name = codes "go";
  parameters = any 2;
  precondition = atom (lifted 0 (variable 0 ∷ []));
  effect = both (effects (literal (delete (lifted 0 (variable 0 ∷ []))) ∷ literal (add (lifted 0 (variable 1 ∷ []))) ∷ []));
  increase = by_function (lifted 0 (variable 0 ∷ variable 1 ∷ []));
}

abbrev pub len_is : ℕ → ℕ → ℕ → FunctionValue
len_is from to length = record { function = ground 0 (from ∷ to ∷ []); value = length }

-- (:functions (len ?x ?y) (total-cost)); (:objects a b c); (:init (at a) (= (len a b) 4) (= (len b a) 6) (= (len b c) 0));
-- (:goal (at c)); with the metric or without it
abbrev pub by_length : Bool → Task
by_length has_metric = record {
  types = root ∷ [];
  objects = untyped (codes "a") ∷ untyped (codes "b") ∷ untyped (codes "c") ∷ [];
  predicates = record { name = codes "at"; arguments = any 1 } ∷ [];
  functions = record { name = codes "len"; arguments = any 2 } ∷ fact (codes "total-cost") ∷ [];
  schemas = go_along ∷ [];
  init = ground 0 (0 ∷ []) ∷ [];
  values = len_is 0 1 4 ∷ len_is 1 0 6 ∷ len_is 1 2 0 ∷ [];
  goal = atom (lifted 0 (object 2 ∷ []));
  has_metric = has_metric;
}

abbrev pub b_to_a : Instance
b_to_a = instance 0 (1 ∷ 0 ∷ [])

-- an instance without a value
abbrev pub a_to_c : Instance
a_to_c = instance 0 (0 ∷ 2 ∷ [])

abbrev pub b_to_b : Instance
b_to_b = instance 0 (1 ∷ 1 ∷ [])

-- ---- what is true of them

pub record WorkedExamples : Type 0 where
  -- An atom that one effect deletes and adds is true afterwards, regardless of the order of the literals.
  pub add_wins_over_delete : IsVerdict (system_of go_task) (instance 0 [] ∷ []) (valid 1)
  -- The same if two different literals denote the same atom: (move a a) deletes (at ?x) and adds (at ?y).
  pub add_wins_over_another_literal : IsVerdict (system_of (walk_to 0)) (a_to_a ∷ []) (valid 1)
  -- Each instance costs 1; one that occurs twice in a list costs 2.
  pub each_instance_costs : IsVerdict (system_of go_task) (instance 0 [] ∷ instance 0 [] ∷ []) (valid 2)
  -- Two parameters may have the same object.
  pub one_object_for_two_parameters : IsVerdict (system_of tie_task) (instance 0 (0 ∷ 0 ∷ []) ∷ []) (valid 1)
  pub one_object_is_an_instance : is_instance tie_task (instance 0 (0 ∷ 0 ∷ [])) ≡ true
  -- An instance has as many objects as its schema has parameters, and each belongs to the task.
  pub too_few_objects : is_instance tie_task (instance 0 (0 ∷ [])) ≡ false
  pub unknown_object : is_instance tie_task (instance 0 (0 ∷ 1 ∷ [])) ≡ false
  pub unknown_schema : is_instance tie_task (instance 1 (0 ∷ 0 ∷ [])) ≡ false
  -- An atom that occurs twice in `:init` counts once: of five atoms written, four are true.
  pub atom_twice_in_init : len (initial_state (walk_to 1)) ≡ 4
  -- Steps count from 1: the first step is not applicable.
  pub first_step_not_applicable : IsVerdict (system_of (walk_to 2)) (b_to_c ∷ a_to_b ∷ []) (not_applicable 1)
  -- A later step is not applicable in the state that the steps before it lead to; the steps after it do not matter.
  pub later_step_not_applicable : IsVerdict (system_of (walk_to 1)) (a_to_b ∷ a_to_b ∷ b_to_c ∷ []) (not_applicable 2)
  -- The empty list solves, at no cost, a task whose goal holds initially.
  pub empty_plan_solves : IsVerdict (system_of (walk_to 0)) [] (valid 0)
  -- For another task it misses the goal.
  pub empty_plan_misses : IsVerdict (system_of go_task) [] goal_missed
  -- A goal that holds on the way but not at the end is missed.
  pub goal_left_after : IsVerdict (system_of (walk_to 1)) (a_to_b ∷ b_to_c ∷ []) goal_missed
  -- What is not deleted stays true, and conditions are evaluated before the change.
  pub two_steps : IsVerdict (system_of (walk_to 2)) (a_to_b ∷ b_to_c ∷ []) (valid 2)
  -- An object is of its type and of all supertypes, and of no other.
  pub objects_of_a_supertype : objects_of fleet_task (2 ∷ []) ≡ 0 ∷ 1 ∷ []
  pub objects_of_a_subtype : objects_of fleet_task (1 ∷ []) ≡ 0 ∷ []
  pub objects_of_the_root : objects_of fleet_task (0 ∷ []) ≡ 0 ∷ 1 ∷ 2 ∷ 3 ∷ []
  -- The objects of several types are in the order of objects, without repetition.
  pub objects_of_a_union : objects_of fleet_task place_or_truck ≡ 0 ∷ 2 ∷ []
  pub one_object_of_two_types : objects_of fleet_task (1 ∷ 2 ∷ 1 ∷ []) ≡ 0 ∷ 1 ∷ []
  -- A parameter ranges only over the objects of its types.
  pub instances_by_type : all_instances fleet_task ≡ instance 0 (0 ∷ []) ∷ instance 0 (2 ∷ []) ∷ []
  pub object_of_another_type : is_instance fleet_task (instance 0 (1 ∷ [])) ≡ false
  -- A term fits if each of its types is a subtype of a required one: a truck is accepted for a vehicle, but not vice versa.
  pub subtype_fits : is_term fleet_task ((1 ∷ []) ∷ []) (2 ∷ []) (variable 0) ≡ true
  pub supertype_does_not : is_term fleet_task ((2 ∷ []) ∷ []) (1 ∷ []) (variable 0) ≡ false
  pub one_of_two_does_not : is_term fleet_task (place_or_truck ∷ []) (2 ∷ []) (variable 0) ≡ false
  -- An atom that is deleted and added under the same condition is true afterwards: (and (when (p) (not (p))) (when (p) (p)) (q)).
  pub under_one_condition : Leads (p ∷ []) (all (when_p (delete p) ∷ when_p (add p) ∷ adds q ∷ [])) (atom p ∷ atom q ∷ [])
  -- Under two conditions it is true if both hold; if one of them holds, only that one counts, and if none holds, it is unchanged.
  pub under_two_conditions : Leads (p ∷ r ∷ []) (all (when_p (add q) ∷ when_r (delete q) ∷ [])) (atom q ∷ [])
  pub under_the_delete : Leads (q ∷ r ∷ []) (all (when_p (add q) ∷ when_r (delete q) ∷ [])) (not (atom q) ∷ [])
  pub under_the_add : Leads (p ∷ []) (all (when_p (add q) ∷ when_r (delete q) ∷ [])) (atom q ∷ [])
  pub under_none : Leads (q ∷ []) (all (when_p (add q) ∷ when_r (delete q) ∷ [])) (atom q ∷ [])
  -- The same with and without a condition.
  pub add_under_a_condition : Leads (p ∷ q ∷ []) (all (when_p (add q) ∷ deletes q ∷ [])) (atom q ∷ [])
  pub delete_without : Leads (q ∷ []) (all (when_p (add q) ∷ deletes q ∷ [])) (not (atom q) ∷ [])
  pub delete_under_a_condition : Leads (p ∷ []) (all (adds q ∷ when_p (delete q) ∷ [])) (atom q ∷ [])
  -- Conditions are evaluated in the state before: it does not matter that the action makes one false or true.
  pub made_false : Leads (p ∷ []) (all (deletes p ∷ when_p (add q) ∷ [])) (not (atom p) ∷ atom q ∷ [])
  pub made_true : Leads [] (all (adds p ∷ when_p (add q) ∷ [])) (atom p ∷ not (atom q) ∷ [])
  -- A `forall` applies its effect for each object of its variable's types, including subtypes, and for no other.
  pub for_each : Leads [] (each vehicles (adds (seen (variable 0)))) (atom (seen the_truck) ∷ atom (seen the_vehicle) ∷ not (atom (seen (object 2))) ∷ not (atom (seen (object 3))) ∷ [])
  pub for_none : Leads [] (each boats (adds p)) (not (atom p) ∷ [])
  -- An atom that is added for one object and deleted for another, in either order, is true.
  pub for_one_and_another : Leads [] (each vehicles (all (when (equal (variable 0) the_truck) (add p ∷ []) ∷ when (equal (variable 0) the_vehicle) (delete p ∷ []) ∷ []))) (atom p ∷ [])
  pub for_another_and_one : Leads [] (each vehicles (all (when (equal (variable 0) the_truck) (delete p ∷ []) ∷ when (equal (variable 0) the_vehicle) (add p ∷ []) ∷ []))) (atom p ∷ [])
  pub over_one_another : Leads (seen the_truck ∷ seen the_vehicle ∷ []) (each vehicles (all (when (equal (variable 0) the_truck) (add (seen the_vehicle) ∷ []) ∷ deletes (seen (variable 0)) ∷ [])))
      (not (atom (seen the_truck)) ∷ atom (seen the_vehicle) ∷ [])
  -- A condition may have quantifiers, and is evaluated under the binding of all enclosing variables: with (and (q) (forall (?x -
  -- vehicle) (when (not (= ?x ?y)) (and (seen ?x) (not (seen ?y)))))), where ?y is t.
  pub each_is_seen : Leads (seen the_truck ∷ seen the_vehicle ∷ []) (when (forall vehicles (atom (seen (variable 0)))) (add q ∷ [])) (atom q ∷ [])
  pub one_is_not : Leads (seen the_truck ∷ []) (when (forall vehicles (atom (seen (variable 0)))) (add q ∷ [])) (not (atom q) ∷ [])
  pub variables_around : LeadsWith (vehicles ∷ []) (0 ∷ []) (seen the_truck ∷ []) (all (adds q ∷ each vehicles (when (not (equal (variable 1) (variable 0))) (add (seen (variable 1)) ∷ delete (seen (variable 0)) ∷ [])) ∷ []))
      (atom q ∷ atom (seen the_vehicle) ∷ not (atom (seen the_truck)) ∷ [])
  pub one_in_another : Leads [] (each vehicles (each (0 ∷ []) (when (and (formulas (equal (variable 0) the_vehicle ∷ equal (variable 1) (object 2) ∷ []))) (add (seen (variable 1)) ∷ [])))) (atom (seen (object 2)) ∷ not (atom (seen the_vehicle)) ∷ [])
  -- The changes are listed for each object, in order; a change outside any `when` has the condition `(and)`.
  pub its_changes : changes_of (doing [] of_each_kind [] []) of_each_kind []
      ≡ change (and no_formula) [] (meaning.adds (ground 1 []))
      ∷ change (atom (seen (variable 0))) (0 ∷ []) (meaning.deletes (ground 0 (0 ∷ []))) ∷ change (atom (seen (variable 0))) (0 ∷ []) (meaning.adds (ground 2 []))
      ∷ change (atom (seen (variable 0))) (1 ∷ []) (meaning.deletes (ground 0 (1 ∷ []))) ∷ change (atom (seen (variable 0))) (1 ∷ []) (meaning.adds (ground 2 []))
      ∷ change (and no_formula) (0 ∷ []) (meaning.adds (ground 0 (0 ∷ []))) ∷ []
  -- The variable of a `forall` is in scope in its effect but not after it, and 16 variables may be in scope.
  pub in_its_effect : is_effect fleet [] (each vehicles (when (equal (variable 0) the_truck) [])) ≡ true
  pub after_its_effect : is_effect fleet [] (all (each vehicles (all []) ∷ when (equal (variable 0) the_truck) [] ∷ [])) ≡ false
  pub sixteen_variables : is_effect fleet (replicate 15 vehicles) (each vehicles (all [])) ≡ true
  pub seventeen_variables : is_effect fleet (replicate 16 vehicles) (each vehicles (all [])) ≡ false
  -- A literal under `when` and `forall` makes its predicate fluent; a condition does not.
  pub changed_under_when : is_fluent (doing [] (each vehicles (when_p (add (seen (variable 0))))) [] []) 0 ≡ true
  pub read_in_a_condition : is_fluent (doing [] (each vehicles (when_p (add (seen (variable 0))))) [] []) 1 ≡ false
  -- With the metric an instance costs the amount by which its action increases the cost, or nothing if it does not; without the
  -- metric it costs 1 in either case.
  pub with_an_increase : cost_of (priced true) (instance 0 []) ≡ 3
  pub without_an_increase : cost_of (priced true) (instance 1 []) ≡ 0
  pub an_increase_without_the_metric : cost_of (priced false) (instance 0 []) ≡ 1
  pub none_without_the_metric : cost_of (priced false) (instance 1 []) ≡ 1
  -- The cost of a list is the sum of the costs.
  pub sum_of_costs : IsVerdict (system_of (priced true)) (instance 0 [] ∷ instance 0 [] ∷ []) (valid 6)
  pub sum_with_none : IsVerdict (system_of (priced true)) (instance 0 [] ∷ instance 1 [] ∷ []) (valid 3)
  pub count_of_steps : IsVerdict (system_of (priced false)) (instance 0 [] ∷ instance 1 [] ∷ []) (valid 2)
  -- An increase by a function has the function's value for the instance's own objects, in order, and 0 is a value. Without the
  -- metric the instance costs 1 nevertheless.
  pub by_its_objects : cost_of (by_length true) a_to_b ≡ 4
  pub by_their_order : cost_of (by_length true) b_to_a ≡ 6
  pub by_a_value_of_zero : cost_of (by_length true) b_to_c ≡ 0
  pub a_value_without_the_metric : cost_of (by_length false) a_to_b ≡ 1
  -- If there is a value, the precondition decides.
  pub leads_with_a_value : (has_metric : Bool) → step (by_length has_metric) (initial_state (by_length has_metric)) a_to_b ≡ Some (after_changes (by_length has_metric) (initial_state (by_length has_metric)) (changes_of (by_length has_metric) go_along.effect (0 ∷ 1 ∷ [])))
  pub value_elsewhere : (has_metric : Bool) → step (by_length has_metric) (initial_state (by_length has_metric)) b_to_c ≡ None
  -- Without a value an instance of the task is not applicable in any state, with or without the metric.
  pub instance_without_a_value : is_instance (by_length true) a_to_c ≡ true
  pub nowhere_without_a_value : (has_metric : Bool) (state : State) → step (by_length has_metric) state a_to_c ≡ None
  -- The values along a list are added up, and a step without a value is not applicable.
  pub sum_of_values : IsVerdict (system_of (by_length true)) (a_to_b ∷ b_to_c ∷ []) (valid 4)
  pub count_of_steps_with_values : IsVerdict (system_of (by_length false)) (a_to_b ∷ b_to_c ∷ []) (valid 2)
  pub step_without_a_value : (has_metric : Bool) → IsVerdict (system_of (by_length has_metric)) (a_to_b ∷ b_to_b ∷ b_to_c ∷ []) (not_applicable 2)
