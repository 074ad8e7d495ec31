-- Worked examples of landmark values: which instances may break which zones, where zones are whole, and values; and landmark
-- functions of small tasks. Each is chosen to expose a wrong reading.
use Rattle.std.specs.Prelude.{◌≡◌, ℕ, Bool, true, false, List, [], ◌∷◌, codes}
use Rattle.std.specs.FinSet.{from_list}
use Rattle.model.specs.Task.{Atom, atom, not, by_number, Task}
use Rattle.model.specs.Examples.{ground, lifted, instance, root, fact, deletes, all}
use Rattle.lower_bounds.specs.FairTables.{is_instance_shut_out}
use Rattle.lower_bounds.specs.PotentialExamples.{hop_task, hop_atoms, when_task, when_atoms, token_task, token_atoms}
use Rattle.lower_bounds.specs.TableFunctions.{Table}
use Rattle.lower_bounds.specs.TableExamples.{is_true, is_false, becomes, becomes_when, becomes_never, never_at_a, never_at_b, at_a, at_b, x, y}
use Rattle.lower_bounds.specs.LandmarkFunctions.{Zone, is_whole, Landmark, LandmarkFunction, value, is_dead_by, value_of_state}
use Rattle.lower_bounds.specs.FairLandmarks.{may_break, instance_may_break, cut_of, charges, AreOfGoal, IsFair, IsDeadFair, AreClosed}

-- ---- notation

-- the atoms that are false where the zone is whole, and those that are true
abbrev pub zone : List ℕ → List ℕ → Zone
zone atoms negated = record { atoms = atoms; negated = negated }

abbrev pub weighing : ℕ → Zone → Landmark
weighing weight z = record { zone = z; weight = weight }

abbrev pub beside : List Table → List Landmark → LandmarkFunction
beside tables landmarks = record { landmarks = landmarks; tables = tables }

abbrev pub alone : List Landmark → LandmarkFunction
alone landmarks = beside [] landmarks

-- ---- zones

pub record AreZonesJudged : Type 0 where
  -- A zone of atom 0 and of the negation of 1 is whole where 0 is false and 1 is true, and nowhere else.
  pub whole : is_whole (false ∷ true ∷ []) (zone (0 ∷ []) (1 ∷ [])) ≡ true
  pub not_whole_by_atom : is_whole (true ∷ true ∷ []) (zone (0 ∷ []) (1 ∷ [])) ≡ false
  pub not_whole_by_negated : is_whole (false ∷ false ∷ []) (zone (0 ∷ []) (1 ∷ [])) ≡ false
  -- An add of an atom breaks the zone; a delete of it, or a change of another atom, does not.
  pub add_breaks : may_break [] (becomes 0 true ∷ []) (zone (0 ∷ []) []) ≡ true
  pub delete_keeps : may_break [] (becomes 0 false ∷ []) (zone (0 ∷ []) []) ≡ false
  pub other_keeps : may_break [] (becomes 1 true ∷ []) (zone (0 ∷ []) []) ≡ false
  -- Of a negated atom it is the reverse.
  pub delete_breaks : may_break [] (becomes 0 false ∷ []) (zone [] (0 ∷ [])) ≡ true
  pub add_keeps : may_break [] (becomes 0 true ∷ []) (zone [] (0 ∷ [])) ≡ false
  -- An unconditional add wins over a delete, in whatever order, and also over one under a `when`. An add under a `when` may not
  -- come.
  pub added_again : may_break [] (becomes 0 false ∷ becomes 0 true ∷ []) (zone [] (0 ∷ [])) ≡ false
  pub added_first : may_break [] (becomes 0 true ∷ becomes_when (is_true 1 ∷ []) 0 false ∷ []) (zone [] (0 ∷ [])) ≡ false
  pub perhaps_added_again : may_break [] (becomes 0 false ∷ becomes_when (is_true 1 ∷ []) 0 true ∷ []) (zone [] (0 ∷ [])) ≡ true
  -- A precondition with a literal of the zone keeps it: it is not whole there. A literal of another zone does not, nor does one that
  -- contradicts a literal of this zone.
  pub not_whole_before : may_break (is_true 1 ∷ []) (becomes 0 true ∷ []) (zone (0 ∷ 1 ∷ []) []) ≡ false
  pub negation_before : may_break (is_false 1 ∷ []) (becomes 0 true ∷ []) (zone (0 ∷ []) (1 ∷ [])) ≡ false
  pub whole_before : may_break (is_true 1 ∷ []) (becomes 0 true ∷ []) (zone (0 ∷ []) []) ≡ true
  pub contradicted_before : may_break (is_false 1 ∷ []) (becomes 0 true ∷ []) (zone (0 ∷ 1 ∷ []) []) ≡ true
  -- So does the condition of a change, for this change alone.
  pub condition_keeps : may_break [] (becomes_when (is_true 1 ∷ []) 0 true ∷ []) (zone (0 ∷ 1 ∷ []) []) ≡ false
  pub when_breaks : may_break [] (becomes_when (is_true 1 ∷ []) 0 true ∷ []) (zone (0 ∷ []) []) ≡ true
  pub another_breaks : may_break [] (becomes_when (is_true 1 ∷ []) 0 true ∷ becomes_when (is_true 2 ∷ []) 0 true ∷ []) (zone (0 ∷ 1 ∷ []) []) ≡ true
  -- A condition that requires an atom without a number never holds.
  pub never_breaks : may_break [] (becomes_never 0 true ∷ []) (zone (0 ∷ []) []) ≡ false

-- ---- landmark functions of the walk

-- not at c, and neither at b nor at c
abbrev pub not_at_c : Zone
not_at_c = zone (2 ∷ []) []

abbrev pub at_neither : Zone
at_neither = zone (1 ∷ 2 ∷ []) []

-- at b, and not at c
abbrev pub still_at_b : Zone
still_at_b = zone (2 ∷ []) (1 ∷ [])

-- two cuts, one after the other
abbrev pub by_hops : LandmarkFunction
by_hops = alone (weighing 3 not_at_c ∷ weighing 3 at_neither ∷ [])

-- the second hop breaks both
abbrev pub at_once : ℕ → ℕ → LandmarkFunction
at_once one other = alone (weighing one not_at_c ∷ weighing other still_at_b ∷ [])

abbrev pub never_without_tables : LandmarkFunction
never_without_tables = alone (weighing 1000 at_neither ∷ [])

abbrev pub at_c : List Bool
at_c = false ∷ false ∷ true ∷ []

-- ---- a fire

-- (define (domain fire) (:predicates (burns)) (:functions (total-cost))
--  (:action douse :parameters () :precondition (burns) :effect (and (not (burns)) (increase (total-cost) 2))))
-- (define (problem f) (:domain fire) (:init (burns)) (:goal (not (burns))) (:metric minimize (total-cost)))
abbrev pub fire_task : Task
fire_task = record {
  types = root ∷ [];
  objects = [];
  predicates = fact (codes "burns") ∷ [];
  functions = [];
  schemas = record {
    name = codes "douse";
    parameters = [];
    precondition = atom (lifted 0 []);
    effect = all (deletes (lifted 0 []) ∷ []);
    increase = by_number 2;
  } ∷ [];
  init = ground 0 [] ∷ [];
  values = [];
  goal = not (atom (lifted 0 []));
  has_metric = true;
}

abbrev pub fire_atoms : List Atom
fire_atoms = ground 0 [] ∷ []

-- as long as it burns
abbrev pub burning : ℕ → LandmarkFunction
burning weight = alone (weighing weight (zone [] (0 ∷ [])) ∷ [])

-- ---- the token

-- nowhere, and not here
abbrev pub nowhere : LandmarkFunction
nowhere = alone (weighing 1 (zone (0 ∷ 1 ∷ []) []) ∷ [])

abbrev pub not_here : LandmarkFunction
not_here = alone (weighing 1 (zone (0 ∷ []) []) ∷ [])

-- ---- the judgements

pub record AreTasksJudged : Type 0 where
  -- Two instances lead to c, at 3 and at 10: the cut weighs as much as the cheaper one.
  pub two_lead_to_c : cut_of hop_task hop_atoms not_at_c ≡ instance 0 (1 ∷ 2 ∷ []) ∷ instance 1 (0 ∷ 2 ∷ []) ∷ []
  pub cut_is_fair : IsFair hop_task hop_atoms (alone (weighing 3 not_at_c ∷ []))
  pub cut_is_too_dear : ¬ IsFair hop_task hop_atoms (alone (weighing 4 not_at_c ∷ []))
  -- The second hop does not break the other cut, since it starts at b; the leap breaks both.
  pub first_cut : cut_of hop_task hop_atoms at_neither ≡ instance 0 (0 ∷ 1 ∷ []) ∷ instance 1 (0 ∷ 2 ∷ []) ∷ []
  pub leap_is_charged_both : charges hop_task hop_atoms by_hops.landmarks (instance 1 (0 ∷ 2 ∷ [])) ≡ 6
  pub walk_is_fair : IsFair hop_task hop_atoms by_hops
  pub walk_at_a : value by_hops at_a ≡ 6
  pub walk_at_b : value by_hops at_b ≡ 3
  pub walk_at_c : value by_hops at_c ≡ 0
  -- The second hop breaks two zones at once, and costs 3: two weights of 2 are too dear by one, although each by itself is fair.
  pub once_is_fair : IsFair hop_task hop_atoms (at_once 2 1)
  pub once_at_b : value (at_once 2 1) at_b ≡ 3
  pub once_at_a : value (at_once 2 1) at_a ≡ 2
  pub dearer_by_one : charges hop_task hop_atoms (at_once 2 2).landmarks (instance 0 (1 ∷ 2 ∷ [])) ≡ 4
  pub once_is_too_dear : ¬ IsFair hop_task hop_atoms (at_once 2 2)
  -- A zone without a literal of the goal is whole in a goal state.
  pub not_of_goal : ¬ AreOfGoal hop_task hop_atoms (alone (weighing 3 (zone (1 ∷ []) []) ∷ []))
  pub left_at_c : value (alone (weighing 3 (zone (1 ∷ []) []) ∷ [])) at_c ≡ 3
  -- `do` adds (b) if (a) is true. This breaks a zone of (b), and not one of (b) and (a).
  pub when_breaks : instance_may_break when_task when_atoms (zone (0 ∷ []) []) (instance 0 []) ≡ true
  pub condition_keeps : instance_may_break when_task when_atoms (zone (0 ∷ 2 ∷ []) []) (instance 0 []) ≡ false
  -- The goal is that nothing burns: a zone of this literal is whole as long as it burns.
  pub fire_is_fair : IsFair fire_task fire_atoms (burning 2)
  pub fire_is_too_dear : ¬ IsFair fire_task fire_atoms (burning 3)
  pub while_it_burns : value (burning 2) (true ∷ []) ≡ 2
  pub after_fire : value (burning 2) (false ∷ []) ≡ 0
  -- From nowhere the token never comes back: the zone is broken by no instance. One that `back` breaks may weigh what that costs.
  pub nowhere_is_dead_fair : IsDeadFair token_task token_atoms nowhere
  pub nowhere_is_dead : is_dead_by nowhere (false ∷ false ∷ []) ≡ true
  pub there_is_not_dead : is_dead_by nowhere (false ∷ true ∷ []) ≡ false
  pub back_costs_one : IsFair token_task token_atoms not_here
  pub back_breaks_it : ¬ IsDeadFair token_task token_atoms not_here
  -- Without the row for a, whatever starts there is shut out and may break anything; but the value at a is 0.
  pub hop_is_shut_out : is_instance_shut_out hop_task hop_atoms never_at_a.tables (instance 0 (0 ∷ 1 ∷ [])) ≡ true
  pub shut_out_is_fair : IsFair hop_task hop_atoms (beside never_at_a.tables never_without_tables.landmarks)
  pub without_tables : ¬ IsFair hop_task hop_atoms never_without_tables
  pub without_row : value (beside never_at_a.tables never_without_tables.landmarks) at_a ≡ 0
  -- The tables have to be closed: without the row for b the value falls by more than the first hop costs.
  pub fair_beside_hole : IsFair hop_task hop_atoms (beside never_at_b.tables by_hops.landmarks)
  pub before_hole : value (beside never_at_b.tables by_hops.landmarks) at_a ≡ 6
  pub in_hole : value (beside never_at_b.tables by_hops.landmarks) at_b ≡ 0
  pub not_closed : ¬ AreClosed hop_task hop_atoms never_at_b.tables
  -- A state with a true fluent atom that has no number has the value 0.
  pub unnumbered : value_of_state token_task (x ∷ []) (alone (weighing 5 (zone (0 ∷ []) []) ∷ [])) (from_list (y ∷ [])) ≡ 0
