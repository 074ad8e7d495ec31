-- Worked examples of grounding: what is statically false, which instances are kept, which changes count, which atoms are
-- numbered, and what packed states mean. Each is chosen to expose a wrong reading.
use Rattle.std.specs.Prelude.{◌≡◌, ℕ, Bool, true, false, List, [], ◌∷◌, Option, None, Some}
use Rattle.model.specs.Task.{Union, Atom, LiftedAtom, variable, object, Formula, atom, equal, and, or, not, imply, exists, forall, add, delete, Effect, each, when, Task, Instance}
use Rattle.model.specs.Examples.{formulas, ground, instance, walk_to, a_to_b, b_to_c, priced, go_along, by_length, b_to_a, trucks, vehicles, boats, seen, p, q, r, doer, doing, adds, deletes, all, the_truck, the_vehicle}
use Rattle.model.specs.StaticallyFalse.{is_statically_false, kept_instances}
use Rattle.model.specs.NumberedAtoms.{numbered_atoms, number_of}
use Rattle.model.specs.NumberedLiterals.{NumberedLiteral, literals_of_instance, literals_of_goal, NumberedChange, counting_of_instance}
use Rattle.model.specs.Grounding.{ground_step, ground_system, applicable_numbers, GroundLimit, of_instances, of_atoms, exceeded_limit}

-- The objects t and v are vehicles, and t is a truck; there are no boats. Of (:predicates (seen ?x) (p) (q) (r)) the single
-- action adds q, or deletes it: q is fluent, the others are static. These atoms are initially true.
abbrev pub adding_q : List LiftedAtom → Task
adding_q before = doing [] (adds q) before []

abbrev pub deleting_q : List LiftedAtom → Task
deleting_q before = doing [] (deletes q) before []

-- whether the formula is statically false there, under this binding
pub record Closes (before : List LiftedAtom) (formula : Formula) (binding : List ℕ) (answer : Bool) : Type 0 where
  pub is_closed : is_statically_false (adding_q before) formula binding ≡ answer

-- which instances are kept, and which atoms are numbered
pub record Keeps (task : Task) (found : List Instance) : Type 0 where
  pub are_kept : kept_instances task ≡ found

pub record Numbers (task : Task) (more found : List Atom) : Type 0 where
  pub are_numbered : numbered_atoms task more ≡ found

-- the successor by the instance with this number, and whether the goal holds, if these atoms are numbered
pub record Leads (task : Task) (atoms : List Atom) (bits : List Bool) (number : ℕ) (next : Option (List Bool)) : Type 0 where
  pub leads : ground_step task atoms bits number ≡ next

pub record Meets (task : Task) (atoms : List Atom) (bits : List Bool) (answer : Bool) : Type 0 where
  pub is_met : (ground_system task atoms).meets_goal bits ≡ answer

-- which of these limits is reported
pub record Reports (max_instances max_atoms : ℕ) (task : Task) (more : List Atom) (limit : Option GroundLimit) : Type 0 where
  pub is_reported : exceeded_limit max_instances max_atoms task more ≡ limit

abbrev pub both_same : Formula
both_same = equal (variable 0) (variable 1)

-- an action with these parameters, this precondition and this effect, and its task, in which these atoms are initially true
abbrev pub acting : List Union → Formula → Effect → List LiftedAtom → Task
acting parameters precondition effect before =
    record (doing parameters effect before []) { schemas = record (doer parameters effect) { precondition = precondition } ∷ [] }

-- an action of two vehicles, under this precondition
abbrev pub of_two : Formula → Task
of_two precondition = acting (vehicles ∷ vehicles ∷ []) precondition (adds (seen (variable 0))) []

-- An action sees a truck if the vehicle v is seen. Nothing ever makes that true, although `seen` is fluent and it is the goal.
abbrev pub unreached : Task
unreached = record (acting (trucks ∷ []) (atom (seen the_vehicle)) (adds (seen (variable 0))) []) { goal = atom (seen the_vehicle) }

-- the same places and values, but an action requires its target to be the place a
abbrev pub closed_by_length : Task
closed_by_length = record (by_length true) { schemas = record go_along { precondition = equal (variable 1) (object 0) } ∷ [] }

-- changes under (and), under (and (and)), under no condition, and under a statically false condition
abbrev pub conditional : Effect
conditional = all (
    when (and (formulas [])) (add (seen the_truck) ∷ [])
    ∷ when (and (formulas (and (formulas []) ∷ []))) (delete (seen the_vehicle) ∷ [])
    ∷ deletes (seen (object 2))
    ∷ when (atom p) (add q ∷ []) ∷ []
    )

abbrev pub conditional_task : Task
conditional_task = doing [] conditional [] []

-- the atom with this number is true or false, and becomes so, with or without a condition
abbrev pub value : ℕ → Bool → NumberedLiteral
value number is_true = record { atom = number; value = is_true }

abbrev pub becomes : ℕ → Bool → Bool → NumberedChange
becomes number is_true is_unconditional = record { atom = number; value = is_true; is_unconditional = is_unconditional }

-- the places of the walk, and the numbers of their atoms if only these are numbered
abbrev pub at_places : List Atom
at_places = ground 0 (0 ∷ []) ∷ ground 0 (1 ∷ []) ∷ ground 0 (2 ∷ []) ∷ []

abbrev pub at_a : List Bool
at_a = true ∷ false ∷ false ∷ []

abbrev pub at_b : List Bool
at_b = false ∷ true ∷ false ∷ []

abbrev pub at_c : List Bool
at_c = false ∷ false ∷ true ∷ []

pub record AreGrounded : Type 0 where
  -- A static atom that is initially false makes a precondition statically false; a true one does not, and neither does a fluent
  -- one.
  pub static_and_false : Closes [] (atom p) [] true
  pub static_and_true : Closes (p ∷ []) (atom p) [] false
  pub fluent_and_false : Closes [] (atom q) [] false
  -- The reverse holds for a negated atom; a predicate that is only deleted is fluent too.
  pub not_static_and_true : Closes (p ∷ []) (not (atom p)) [] true
  pub not_static_and_false : Closes [] (not (atom p)) [] false
  pub not_fluent_and_true : Closes (q ∷ []) (not (atom q)) [] false
  pub only_deleted : is_statically_false (deleting_q (q ∷ [])) (not (atom q)) [] ≡ false
  -- An equality is evaluated under the binding of the variables.
  pub are_not_same : Closes [] both_same (0 ∷ 1 ∷ []) true
  pub are_same : Closes [] both_same (0 ∷ 0 ∷ []) false
  pub do_not_differ : Closes [] (not both_same) (0 ∷ 0 ∷ []) true
  pub do_differ : Closes [] (not both_same) (0 ∷ 1 ∷ []) false
  -- What is under `and` and `forall` is a sure literal, for each object of the variable's types; over no objects there is none.
  pub under_and : Closes [] (and (formulas (atom q ∷ atom p ∷ []))) [] true
  pub under_forall : Closes (seen the_truck ∷ []) (forall vehicles (atom (seen (variable 0)))) [] true
  pub under_forall_of_trucks : Closes (seen the_truck ∷ []) (forall trucks (atom (seen (variable 0)))) [] false
  pub over_no_boat : Closes [] (forall boats (atom p)) [] false
  -- Nothing else is, even if the formula is false in every state: not `(not (not p))`, and not the only part of an `or`.
  pub under_two_nots : Closes [] (not (not (atom p))) [] false
  pub single_part_of_or : Closes [] (or (formulas (atom p ∷ []))) [] false
  pub not_of_and : Closes (p ∷ []) (not (and (formulas (atom p ∷ [])))) [] false
  pub conclusion : Closes [] (imply (and (formulas [])) (atom p)) [] false
  pub under_exists : Closes [] (exists trucks (atom p)) [] false
  -- What an action adds is fluent, even if its only instance is statically inapplicable; that instance's atoms are not numbered.
  pub never_added : is_statically_false (acting [] (atom p) (adds q) []) (atom q) [] ≡ false
  pub is_not_kept : Keeps (acting [] (atom p) (adds q) []) []
  pub has_no_atoms : Numbers (acting [] (atom p) (adds q) []) [] []
  -- Two parameters may have the same object; if they must differ, those instances are statically inapplicable, and the others
  -- keep their order.
  pub any_two : Keeps (of_two (and (formulas []))) (instance 0 (0 ∷ 0 ∷ []) ∷ instance 0 (0 ∷ 1 ∷ []) ∷ instance 0 (1 ∷ 0 ∷ []) ∷ instance 0 (1 ∷ 1 ∷ []) ∷ [])
  pub two_that_differ : Keeps (of_two (not both_same)) (instance 0 (0 ∷ 1 ∷ []) ∷ instance 0 (1 ∷ 0 ∷ []) ∷ [])
  -- A fluent atom that is initially true has a number; a static one does not.
  pub initial_fluent : Numbers (adding_q (p ∷ q ∷ [])) [] (ground 2 [] ∷ [])
  pub static_has_none : number_of (ground 2 [] ∷ []) (ground 1 []) ≡ None
  -- A deleted atom has a number too, but no other fluent atom that is initially false.
  pub deleted_has_one : Numbers (deleting_q []) [] (ground 2 [] ∷ [])
  -- The initially true ones come before the changed ones, without repetition.
  pub initial_come_first : Numbers (doing [] (each vehicles (adds (seen (variable 0)))) (seen the_vehicle ∷ seen the_vehicle ∷ []) []) [] (ground 0 (1 ∷ []) ∷ ground 0 (0 ∷ []) ∷ [])
  -- And `more` comes first, in its order, whether or not the task needs its atoms.
  pub more_comes_first : Numbers (doing [] (each vehicles (adds (seen (variable 0)))) (seen the_vehicle ∷ []) []) (ground 0 (2 ∷ []) ∷ ground 0 (0 ∷ []) ∷ [])
      (ground 0 (2 ∷ []) ∷ ground 0 (0 ∷ []) ∷ ground 0 (1 ∷ []) ∷ [])
  -- An instance that requires a fluent atom without a number is kept and is applicable in no packed state; a goal that requires
  -- one is satisfied in none.
  pub unreached_is_kept : Keeps unreached (instance 0 (0 ∷ []) ∷ [])
  pub unreached_has_no_number : Numbers unreached [] (ground 0 (0 ∷ []) ∷ [])
  pub never_applicable : (bits : List Bool) → Leads unreached (ground 0 (0 ∷ []) ∷ []) bits 0 None
  pub never_met : (bits : List Bool) → Meets unreached (ground 0 (0 ∷ []) ∷ []) bits false
  -- With a number it is applicable if its bit is set.
  pub with_a_number : Leads unreached (ground 0 (1 ∷ []) ∷ ground 0 (0 ∷ []) ∷ []) (true ∷ false ∷ []) 0 (Some (true ∷ true ∷ []))
  -- A change that cannot be made does not count: its atom has no number. A change under `(and)` is unconditional, as is one
  -- outside a `when`; under `(and (and))` it is not.
  pub only_what_counts : Numbers conditional_task [] (ground 0 (0 ∷ []) ∷ ground 0 (1 ∷ []) ∷ ground 0 (2 ∷ []) ∷ [])
  pub its_changes : counting_of_instance conditional_task (ground 0 (0 ∷ []) ∷ ground 0 (1 ∷ []) ∷ ground 0 (2 ∷ []) ∷ []) (instance 0 [])
      ≡ becomes 0 true true ∷ becomes 1 false false ∷ becomes 2 false true ∷ []
  -- A change that may be made later counts, and for a `forall` those for the objects for which it may be made, each at its place.
  pub may_be_made : Numbers (doing [] (all (when (atom q) (add r ∷ []) ∷ adds q ∷ [])) [] []) [] (ground 3 [] ∷ ground 2 [] ∷ [])
  pub for_one_object : Numbers (doing [] (each vehicles (when (equal (variable 0) the_vehicle) (add (seen (variable 0)) ∷ []))) [] []) [] (ground 0 (1 ∷ []) ∷ [])
  -- In the walk to c the moves along roads are kept, and the atoms of places are numbered, the initial place first.
  pub along_roads : Keeps (walk_to 2) (instance 0 (0 ∷ 0 ∷ []) ∷ instance 0 (0 ∷ 1 ∷ []) ∷ instance 0 (1 ∷ 2 ∷ []) ∷ [])
  pub of_places : Numbers (walk_to 2) [] at_places
  -- The static roads are true in each packed state, and are not literals of a move; a move deletes and then adds.
  pub starts_at_a : (ground_system (walk_to 2) at_places).initial ≡ at_a
  pub moves_from_a : applicable_numbers (walk_to 2) at_places at_a ≡ 0 ∷ 1 ∷ []
  pub stays_at_a : Leads (walk_to 2) at_places at_a 0 (Some at_a)
  pub moves_to_b : Leads (walk_to 2) at_places at_a 1 (Some at_b)
  pub not_from_a : Leads (walk_to 2) at_places at_a 2 None
  pub no_such_number : Leads (walk_to 2) at_places at_a 3 None
  pub not_yet_at_c : Meets (walk_to 2) at_places at_b false
  pub ends_at_c : Meets (walk_to 2) at_places at_c true
  pub needs_a : literals_of_instance (walk_to 2) at_places (instance 0 (0 ∷ 1 ∷ [])) ≡ value 0 true ∷ []
  pub requires_c : literals_of_goal (walk_to 2) at_places ≡ value 2 true ∷ []
  -- An equality is not a literal of an atom, and a negated atom must be false.
  pub needs_false : literals_of_instance (acting [] (and (formulas (equal the_truck the_truck ∷ not (atom q) ∷ atom p ∷ []))) (adds q) (p ∷ [])) (ground 2 [] ∷ []) (instance 0 []) ≡ value 0 false ∷ []
  -- The cost of an instance, by its number, is its cost in the task, here with the metric.
  pub costs_three : (ground_system (priced true) []).cost 0 ≡ 3
  pub costs_nothing : (ground_system (priced true) []).cost 1 ≡ 0
  -- An instance whose cost function has no value for its objects is not kept, with or without the metric; the costs of the
  -- others, by number, are the values.
  pub only_with_a_value : (has_metric : Bool) → Keeps (by_length has_metric) (a_to_b ∷ b_to_a ∷ b_to_c ∷ [])
  pub its_value : (ground_system (by_length true) at_places).cost 0 ≡ 4
  pub the_next_value : (ground_system (by_length true) at_places).cost 1 ≡ 6
  pub a_value_of_zero : (ground_system (by_length true) at_places).cost 2 ≡ 0
  pub a_value_without_the_metric : (ground_system (by_length false) at_places).cost 0 ≡ 1
  pub leads_by_its_number : (has_metric : Bool) → Leads (by_length has_metric) at_places at_b 2 (Some at_c)
  -- An instance that has a value but is statically false is not kept either.
  pub value_and_statically_false : Keeps closed_by_length (b_to_a ∷ [])
  -- A limit is reported if there are more, not if there are exactly as many; the limit of instances comes first.
  pub too_many_instances : Reports 3 2 (of_two (and (formulas []))) [] (Some of_instances)
  pub both_too_many : Reports 3 1 (of_two (and (formulas []))) [] (Some of_instances)
  pub too_many_atoms : Reports 4 1 (of_two (and (formulas []))) [] (Some of_atoms)
  pub neither : Reports 4 2 (of_two (and (formulas []))) [] None
  -- What is statically false does not count; `more` does.
  pub statically_false_does_not_count : Reports 2 2 (of_two (not both_same)) [] None
  pub more_counts : Reports 2 2 (of_two (not both_same)) (ground 0 (2 ∷ []) ∷ []) (Some of_atoms)
