-- Worked examples of exchanges that are symmetries of small tasks, of others that are not, and of representatives. Each is chosen
-- to expose a wrong reading.
use Rattle.std.specs.Prelude.{◌≡◌, ℕ, Bool, true, false, List, [], ◌∷◌, ◌++◌, map, codes}
use Rattle.std.specs.FinSet.{from_list}
use Rattle.model.specs.Task.{Predicate, Atom, LiftedAtom, Term, variable, object, Formula, atom, equal, and, or, not, imply, exists, forall, add, Effect, each, when, Increase, by_number, by_function, FunctionValue, Schema, Task}
use Rattle.model.specs.Meaning.{State}
use Rattle.model.specs.WellTyped.{is_task}
use Rattle.model.specs.Examples.{formulas, lifted, ground, root, typed, object_type, adds, deletes, all}
use Rattle.symmetries_definitions.specs.Exchanges.{Exchange}
use Rattle.symmetries_definitions.specs.Symmetries.{is_symmetry}
use Rattle.symmetries_definitions.specs.Orbits.{representative}

-- the exchange that swaps these two
abbrev pub swapping : ℕ → ℕ → Exchange
swapping first second = (first, second) ∷ []

abbrev pub predicate : List ℕ → List (List ℕ) → Predicate
predicate name arguments = record { name = name; arguments = arguments }

abbrev pub x : Term
x = variable 0

abbrev pub y : Term
y = variable 1

abbrev pub z : Term
z = variable 2

-- ---- two balls and two grippers

-- (define (domain gripper) (:types room ball gripper)
--  (:predicates (at-robby ?r - room) (at ?b - ball ?r - room) (free ?g - gripper) (carry ?b - ball ?g - gripper))
--  (:action move :parameters (?from ?to - room) :precondition (at-robby ?from) :effect (and (not (at-robby ?from)) (at-robby ?to)))
--  (:action pick :parameters (?b - ball ?r - room ?g - gripper) :precondition (and (at ?b ?r) (at-robby ?r) (free ?g))
--   :effect (and (not (at ?b ?r)) (not (free ?g)) (carry ?b ?g)))
--  (:action drop :parameters (?b - ball ?r - room ?g - gripper) :precondition (and (carry ?b ?g) (at-robby ?r))
--   :effect (and (not (carry ?b ?g)) (at ?b ?r) (free ?g))))
-- (define (problem two) (:domain gripper) (:objects rooma roomb - room ball1 ball2 - ball left right - gripper)
--  (:init (at-robby rooma) (at ball1 rooma) (at ball2 roomb) (free left) (free right))
--  (:goal (and (at ball1 roomb) (at ball2 roomb))))
abbrev pub robby_at : Term → LiftedAtom
robby_at room = lifted 0 (room ∷ [])

abbrev pub ball_at : Term → Term → LiftedAtom
ball_at ball room = lifted 1 (ball ∷ room ∷ [])

abbrev pub free : Term → LiftedAtom
free gripper = lifted 2 (gripper ∷ [])

abbrev pub carried : Term → Term → LiftedAtom
carried ball gripper = lifted 3 (ball ∷ gripper ∷ [])

abbrev pub move : Schema
move = record {
  name = codes "move";
  parameters = (1 ∷ []) ∷ (1 ∷ []) ∷ [];
  precondition = atom (robby_at x);
  effect = all (deletes (robby_at x) ∷ adds (robby_at y) ∷ []);
  increase = by_number 0;
}

abbrev pub pick_ball : Schema
pick_ball = record {
  name = codes "pick";
  parameters = (2 ∷ []) ∷ (1 ∷ []) ∷ (3 ∷ []) ∷ [];
  precondition = and (formulas (atom (ball_at x y) ∷ atom (robby_at y) ∷ atom (free z) ∷ []));
  effect = all (deletes (ball_at x y) ∷ deletes (free z) ∷ adds (carried x z) ∷ []);
  increase = by_number 0;
}

abbrev pub drop_ball : Schema
drop_ball = record {
  name = codes "drop";
  parameters = (2 ∷ []) ∷ (1 ∷ []) ∷ (3 ∷ []) ∷ [];
  precondition = and (formulas (atom (carried x z) ∷ atom (robby_at y) ∷ []));
  effect = all (deletes (carried x z) ∷ adds (ball_at x y) ∷ adds (free z) ∷ []);
  increase = by_number 0;
}

abbrev pub gripper : Task
gripper = record {
  types = root ∷ object_type (codes "room") (1 ∷ 0 ∷ []) ∷ object_type (codes "ball") (2 ∷ 0 ∷ []) ∷ object_type (codes "gripper") (3 ∷ 0 ∷ []) ∷ [];
  objects = typed (codes "rooma") 1 ∷ typed (codes "roomb") 1 ∷ typed (codes "ball1") 2 ∷ typed (codes "ball2") 2
      ∷ typed (codes "left") 3 ∷ typed (codes "right") 3 ∷ [];
  predicates = predicate (codes "at-robby") ((1 ∷ []) ∷ []) ∷ predicate (codes "at") ((2 ∷ []) ∷ (1 ∷ []) ∷ [])
      ∷ predicate (codes "free") ((3 ∷ []) ∷ []) ∷ predicate (codes "carry") ((2 ∷ []) ∷ (3 ∷ []) ∷ []) ∷ [];
  functions = [];
  schemas = move ∷ pick_ball ∷ drop_ball ∷ [];
  init = ground 0 (0 ∷ []) ∷ ground 1 (2 ∷ 0 ∷ []) ∷ ground 1 (3 ∷ 1 ∷ []) ∷ ground 2 (4 ∷ []) ∷ ground 2 (5 ∷ []) ∷ [];
  values = [];
  goal = and (formulas (atom (ball_at (object 2) (object 1)) ∷ atom (ball_at (object 3) (object 1)) ∷ []));
  has_metric = false;
}

-- ---- two parcels

-- (define (domain delivery) (:types place parcel crate - parcel)
--  (:predicates (at ?p - parcel ?x - place) (road ?x ?y - place) (fragile ?p - parcel))
--  (:functions (total-cost) (weight ?p - parcel))
--  (:action carry :parameters (?p - parcel ?x ?y - place) :precondition (and (at ?p ?x) (road ?x ?y))
--   :effect (and (not (at ?p ?x)) (at ?p ?y) (increase (total-cost) (weight ?p)))))
-- (define (problem d) (:domain delivery) (:objects a b - place p q - parcel c - crate)
--  (:init (at p a) (at q b) (road a b) (road b a) (= (weight p) 1) (= (weight q) 1))
--  (:goal (and (at p b) (at q b))) (:metric minimize (total-cost)))
abbrev pub parcel_at : Term → Term → LiftedAtom
parcel_at parcel place = lifted 0 (parcel ∷ place ∷ [])

abbrev pub road : Term → Term → LiftedAtom
road from to = lifted 1 (from ∷ to ∷ [])

abbrev pub fragile : Term → LiftedAtom
fragile parcel = lifted 2 (parcel ∷ [])

abbrev pub weight : Term → LiftedAtom
weight parcel = lifted 1 (parcel ∷ [])

-- the objects of the problem
abbrev pub a : Term
a = object 0

abbrev pub b : Term
b = object 1

abbrev pub p : Term
p = object 2

abbrev pub q : Term
q = object 3

abbrev pub weighs : ℕ → ℕ → FunctionValue
weighs parcel amount = record { function = ground 1 (parcel ∷ []); value = amount }

abbrev pub carry : Schema
carry = record {
  name = codes "carry";
  parameters = (2 ∷ []) ∷ (1 ∷ []) ∷ (1 ∷ []) ∷ [];
  precondition = and (formulas (atom (parcel_at x y) ∷ atom (road y z) ∷ []));
  effect = all (deletes (parcel_at x y) ∷ adds (parcel_at x z) ∷ []);
  increase = by_function (weight x);
}

-- the atoms that are initially true in each of the tasks but one
abbrev pub start : List Atom
start = ground 0 (2 ∷ 0 ∷ []) ∷ ground 0 (3 ∷ 1 ∷ []) ∷ ground 1 (0 ∷ 1 ∷ []) ∷ []

abbrev pub road_back : Atom
road_back = ground 1 (1 ∷ 0 ∷ [])

abbrev pub delivery : Task
delivery = record {
  types = root ∷ object_type (codes "place") (1 ∷ 0 ∷ []) ∷ object_type (codes "parcel") (2 ∷ 0 ∷ []) ∷ object_type (codes "crate") (3 ∷ 2 ∷ 0 ∷ []) ∷ [];
  objects = typed (codes "a") 1 ∷ typed (codes "b") 1 ∷ typed (codes "p") 2 ∷ typed (codes "q") 2 ∷ typed (codes "c") 3 ∷ [];
  predicates = predicate (codes "at") ((2 ∷ []) ∷ (1 ∷ []) ∷ []) ∷ predicate (codes "road") ((1 ∷ []) ∷ (1 ∷ []) ∷ []) ∷ predicate (codes "fragile") ((2 ∷ []) ∷ []) ∷ [];
  functions = predicate (codes "total-cost") [] ∷ predicate (codes "weight") ((2 ∷ []) ∷ []) ∷ [];
  schemas = carry ∷ [];
  init = start ++ road_back ∷ [];
  values = weighs 2 1 ∷ weighs 3 1 ∷ [];
  goal = and (formulas (atom (parcel_at p b) ∷ atom (parcel_at q b) ∷ []));
  has_metric = true;
}

-- the same with another goal, other values, or further initial atoms
abbrev pub with_goal : Formula → Task
with_goal goal = record delivery { goal = goal }

abbrev pub with_values : List FunctionValue → Task
with_values values = record delivery { values = values }

abbrev pub with_fragile : List ℕ → Task
with_fragile [] = delivery
with_fragile (parcel ∷ parcels) = record delivery { init = ground 2 (parcel ∷ []) ∷ (with_fragile parcels).init }

-- with one more action, which has a parcel as its parameter: with this precondition, this effect and this cost increase
abbrev pub acting : Formula → Effect → Increase → Task
acting precondition effect increase =
    record delivery { schemas = carry ∷ record { name = codes "act"; parameters = (2 ∷ []) ∷ []; precondition = precondition; effect = effect; increase = increase } ∷ [] }

abbrev pub asking : Formula → Task
asking precondition = acting precondition (adds (fragile x)) (by_number 0)

abbrev pub doing : Effect → Task
doing effect = acting (and (formulas [])) effect (by_number 0)

-- whether the parcels p and q are interchangeable
abbrev pub are_alike : Task → Bool
are_alike task = is_symmetry task (swapping 2 3)

-- ---- the judgements

pub record AreExchangesJudged : Type 0 where
  pub gripper_typed : is_task gripper ≡ true
  -- Two balls are interchangeable although they start in different rooms, and two grippers are; also both pairs at once.
  pub balls : is_symmetry gripper (swapping 2 3) ≡ true
  pub grippers : is_symmetry gripper (swapping 4 5) ≡ true
  pub balls_and_grippers : is_symmetry gripper ((2, 3) ∷ (4, 5) ∷ []) ≡ true
  pub nothing : is_symmetry gripper [] ≡ true
  -- A room and a gripper have different types, and the goal requires the balls in a particular room.
  pub two_types : is_symmetry gripper (swapping 0 4) ≡ false
  pub rooms : is_symmetry gripper (swapping 0 1) ≡ false
  -- An object may occur only once, in one pair.
  pub twice : is_symmetry gripper ((2, 3) ∷ (3, 2) ∷ []) ≡ false
  pub with_itself : is_symmetry gripper (swapping 2 2) ≡ false

pub record AreTasksJudged : Type 0 where
  pub delivery_typed : is_task delivery ≡ true
  -- Two parcels with the same destination are interchangeable wherever they are. With different destinations they are not, but
  -- swapping each together with its destination is a symmetry, since the road leads both ways.
  pub one_destination : are_alike delivery ≡ true
  pub two_destinations : are_alike (with_goal (and (formulas (atom (parcel_at p a) ∷ atom (parcel_at q b) ∷ [])))) ≡ false
  pub with_destinations : is_symmetry (with_goal (and (formulas (atom (parcel_at p a) ∷ atom (parcel_at q b) ∷ [])))) ((2, 3) ∷ (0, 1) ∷ []) ≡ true
  pub one_way : is_symmetry (record (with_goal (and (formulas (atom (parcel_at p a) ∷ atom (parcel_at q b) ∷ [])))) { init = start }) ((2, 3) ∷ (0, 1) ∷ []) ≡ false
  -- A crate is a parcel, but declared with another type. That is the only difference here.
  pub below : is_symmetry (record (with_values []) { goal = forall (2 ∷ []) (atom (parcel_at x b)) }) (swapping 3 4) ≡ false
  -- Static atoms and values may not differ.
  pub one_fragile : are_alike (with_fragile (2 ∷ [])) ≡ false
  pub other_fragile : are_alike (with_fragile (3 ∷ [])) ≡ false
  pub both_fragile : are_alike (with_fragile (2 ∷ 3 ∷ [])) ≡ true
  pub one_heavier : are_alike (with_values (weighs 2 1 ∷ weighs 3 2 ∷ [])) ≡ false
  pub one_weighed : are_alike (with_values (weighs 3 1 ∷ [])) ≡ false
  pub none_weighed : are_alike (with_values []) ≡ true

-- an action that names one of the parcels, and an action that names none
pub record AreActionsJudged : Type 0 where
  pub acting_typed : is_task (asking (atom (parcel_at p a))) ≡ true
  pub in_precondition : are_alike (asking (atom (parcel_at p a))) ≡ false
  pub in_equality : are_alike (asking (not (equal x q))) ≡ false
  pub in_conclusion : are_alike (asking (imply (atom (fragile x)) (or (formulas (atom (parcel_at q a) ∷ []))))) ≡ false
  pub under_exists : are_alike (asking (exists (1 ∷ []) (atom (parcel_at p y)))) ≡ false
  pub under_forall : are_alike (asking (forall (2 ∷ []) (or (formulas (equal y p ∷ atom (fragile y) ∷ []))))) ≡ false
  pub of_all : are_alike (asking (forall (2 ∷ []) (not (atom (fragile y))))) ≡ true
  pub of_another : are_alike (asking (exists (2 ∷ []) (and (formulas (not (equal x y) ∷ atom (parcel_at y b) ∷ []))))) ≡ true
  pub in_effect : are_alike (doing (all (adds (fragile x) ∷ deletes (fragile p) ∷ []))) ≡ false
  pub for_each : are_alike (doing (each (1 ∷ []) (adds (parcel_at q y)))) ≡ false
  pub in_condition : are_alike (doing (when (atom (fragile p)) (add (fragile x) ∷ []))) ≡ false
  pub under_condition : are_alike (doing (when (atom (fragile x)) (add (fragile p) ∷ []))) ≡ false
  pub in_increase : are_alike (acting (and (formulas [])) (adds (fragile x)) (by_function (weight p))) ≡ false

-- The goal's conjuncts are mapped to its conjuncts, in any order and however nested; within another formula, order matters.
pub record AreGoalsJudged : Type 0 where
  pub goal_typed : is_task (with_goal (or (formulas (atom (parcel_at p b) ∷ atom (parcel_at q b) ∷ [])))) ≡ true
  pub nested : are_alike (with_goal (and (formulas (atom (parcel_at p b) ∷ and (formulas (atom (parcel_at q b) ∷ [])) ∷ [])))) ≡ true
  pub one_required : are_alike (with_goal (atom (parcel_at p b))) ≡ false
  pub one_more : are_alike (with_goal (and (formulas (atom (parcel_at p b) ∷ atom (parcel_at q b) ∷ not (atom (parcel_at p a)) ∷ [])))) ≡ false
  pub under_or : are_alike (with_goal (or (formulas (atom (parcel_at p b) ∷ atom (parcel_at q b) ∷ [])))) ≡ false
  pub or_each : are_alike (with_goal (and (formulas (or (formulas (atom (parcel_at p a) ∷ atom (parcel_at p b) ∷ [])) ∷ or (formulas (atom (parcel_at q a) ∷ atom (parcel_at q b) ∷ [])) ∷ [])))) ≡ true
  pub by_forall : are_alike (with_goal (forall (2 ∷ []) (atom (parcel_at x b)))) ≡ true
  pub under_forall : are_alike (with_goal (forall (1 ∷ []) (or (formulas (atom (parcel_at p x) ∷ atom (parcel_at q x) ∷ []))))) ≡ false
  pub forall_each : are_alike (with_goal (and (formulas (forall (1 ∷ []) (not (atom (parcel_at p x))) ∷ forall (1 ∷ []) (not (atom (parcel_at q x))) ∷ [])))) ≡ true

-- ---- representatives by the positions of the balls

-- the first ball in the first room, the first in the second, the second in the first, the second in the second
abbrev pub ball_atoms : List Atom
ball_atoms = ground 1 (2 ∷ 0 ∷ []) ∷ ground 1 (2 ∷ 1 ∷ []) ∷ ground 1 (3 ∷ 0 ∷ []) ∷ ground 1 (3 ∷ 1 ∷ []) ∷ []

-- the rooms of the two balls
abbrev pub balls_in : ℕ → ℕ → State
balls_in first second = from_list (ground 1 (2 ∷ first ∷ []) ∷ ground 1 (3 ∷ second ∷ []) ∷ [])

abbrev pub ball_representative : State → State
ball_representative = representative ball_atoms (swapping 2 3 ∷ [])

-- ---- a row of eleven objects, one of them marked

-- one exchange swaps neighbours beginning with the first object, the other beginning with the second
abbrev pub from_first : Exchange
from_first = (0, 1) ∷ (2, 3) ∷ (4, 5) ∷ (6, 7) ∷ (8, 9) ∷ []

abbrev pub from_second : Exchange
from_second = (1, 2) ∷ (3, 4) ∷ (5, 6) ∷ (7, 8) ∷ (9, 10) ∷ []

abbrev pub mark_of : ℕ → Atom
mark_of o = ground 0 (o ∷ [])

-- the atoms, the last object's first
abbrev pub marks : List Atom
marks = map mark_of (10 ∷ 9 ∷ 8 ∷ 7 ∷ 6 ∷ 5 ∷ 4 ∷ 3 ∷ 2 ∷ 1 ∷ 0 ∷ [])

abbrev pub marked : ℕ → State
marked o = from_list (mark_of o ∷ [])

abbrev pub row_representative : State → State
row_representative = representative marks (from_first ∷ from_second ∷ [])

pub record AreRepresentativesJudged : Type 0 where
  -- If one ball is in each room, it is the first ball that is in the first room, and then nothing comes before.
  pub exchanged : ball_representative (balls_in 1 0) ≡ balls_in 0 1
  pub itself : ball_representative (balls_in 0 1) ≡ balls_in 0 1
  -- Two balls in one room stay where they are.
  pub together : ball_representative (balls_in 1 1) ≡ balls_in 1 1
  -- In another order of atoms the other state comes first, and without exchanges each state is its own representative.
  pub other_order : representative (ground 1 (3 ∷ 0 ∷ []) ∷ ground 1 (2 ∷ 0 ∷ []) ∷ []) (swapping 2 3 ∷ []) (balls_in 0 1) ≡ balls_in 1 0
  pub alone : representative ball_atoms [] (balls_in 1 0) ≡ balls_in 1 0
  -- The two exchanges alternately move the mark from one object to the next. From the first to the last there are ten images, of
  -- which nine are taken: so the representative of a state may itself have another one, and states of the same orbit may have
  -- different ones.
  pub cut_short : row_representative (marked 0) ≡ marked 9
  pub one_more : row_representative (marked 9) ≡ marked 10
  pub whole_chain : row_representative (marked 1) ≡ marked 10
