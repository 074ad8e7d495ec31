-- The worked examples of grounding.
use Rattle.std.specs.Prelude.{◌≡◌, ℕ, Bool, true, false, List, [], ◌∷◌, slice_get, length, Option, None, Some, nat_lt, if◌then◌else◌, refl}
use Rattle.std.proofs.Common.{◌∙◌, ap}
use Rattle.std.specs.Option.{option_map, option_and_then}
use Rattle.model.specs.Task.{Atom, LiftedAtom, variable, Formula, atom, not, Task, Instance}
use Rattle.model.specs.Meaning.{step}
use Rattle.model.specs.Fluents.{is_fluent}
use Rattle.model.specs.Grounding.{state_of_bits, bits_of_state, ground_step, ground_system, GroundLimit, of_instances, of_atoms}
use Rattle.model.specs.Examples.{ground, instance, priced, by_length, p, q, doer, trucks, seen, adds, walk_to}
use Rattle.model.specs.GroundingExamples.{adding_q, deleting_q, acting, Closes, Keeps, Numbers, Leads, Meets, Reports, unreached, conditional_task, at_places, at_a, AreGrounded}
use Rattle.model.proofs.PackedStates.{contains-unnumbered}
use Rattle.model.proofs.Steps.{leads_nowhere}
use Rattle.model.proofs.GroundingComputes.{statically_false, statically_false-is, kept, kept-is, counting_numbers-is, numbered, numbered-is, exceeded_limit-is, initial-is, cost-is, holds_packed, meets_goal-is, leads_packed, ground_step-is, applicable-is}

-- if this computes, the definition holds

closes : {before : List LiftedAtom} {f : Formula} {binding : List ℕ} {answer : Bool} → statically_false (adding_q before) f binding ≡ answer → Closes before f binding answer
closes {before} {f} {binding} is = record { is_closed = statically_false-is (adding_q before) f binding ∙ is }

keeps : {task : Task} {found : List Instance} → kept task ≡ found → Keeps task found
keeps {task} is = record { are_kept = kept-is task ∙ is }

numbers : {task : Task} {more found : List Atom} → numbered task more ≡ found → Numbers task more found
numbers {task} {more} is = record { are_numbered = numbered-is task more ∙ is }

leads : {task : Task} {atoms : List Atom} {bits : List Bool} {number : ℕ} {next : Option (List Bool)} → leads_packed task atoms bits number ≡ next → Leads task atoms bits number next
leads {task} {atoms} {bits} {number} is = record { leads = ground_step-is task atoms bits number ∙ is }

meets : {task : Task} {atoms : List Atom} {bits : List Bool} {answer : Bool} → holds_packed task atoms bits task.goal [] ≡ answer → Meets task atoms bits answer
meets {task} {atoms} {bits} is = record { is_met = meets_goal-is task atoms bits ∙ is }

reports : {max_instances max_atoms : ℕ} {task : Task} {more : List Atom} {limit : Option GroundLimit}
    → (if nat_lt max_instances (length (kept task)) then Some of_instances else if nat_lt max_atoms (length (numbered task more)) then Some of_atoms else None) ≡ limit
    → Reports max_instances max_atoms task more limit
reports {max_instances} {max_atoms} {task} {more} is = record { is_reported = exceeded_limit-is max_instances max_atoms task more ∙ is }

-- ---- an atom that no action makes true

abbrev its_atoms : List Atom
its_atoms = ground 0 (0 ∷ []) ∷ []

abbrev the_instance : Instance
the_instance = instance 0 (0 ∷ [])

-- the vehicle v is seen in no packed state
not_seen : (bits : List Bool) → (ground_system unreached its_atoms).meets_goal bits ≡ false
not_seen bits = contains-unnumbered (is_fluent unreached) unreached.init its_atoms bits (ground 0 (1 ∷ [])) refl refl

leads_nowhere_at_all : (bits : List Bool) → ground_step unreached its_atoms bits 0 ≡ None
leads_nowhere_at_all bits =
    ap (λ l. option_and_then (λ i. option_map (bits_of_state its_atoms) (step unreached (state_of_bits unreached its_atoms bits) i)) (slice_get l 0)) (kept-is unreached)
    ∙ ap (option_map (bits_of_state its_atoms)) (leads_nowhere unreached (state_of_bits unreached its_atoms bits) the_instance
    (record (doer (trucks ∷ []) (adds (seen (variable 0)))) { precondition = unreached.goal }) refl refl (not_seen bits))

pub are_grounded : AreGrounded
are_grounded = record {
  static_and_false = closes refl;
  static_and_true = closes refl;
  fluent_and_false = closes refl;
  not_static_and_true = closes refl;
  not_static_and_false = closes refl;
  not_fluent_and_true = closes refl;
  only_deleted = statically_false-is (deleting_q (q ∷ [])) (not (atom q)) [] ∙ refl;
  are_not_same = closes refl;
  are_same = closes refl;
  do_not_differ = closes refl;
  do_differ = closes refl;
  under_and = closes refl;
  under_forall = closes refl;
  under_forall_of_trucks = closes refl;
  over_no_boat = closes refl;
  under_two_nots = closes refl;
  single_part_of_or = closes refl;
  not_of_and = closes refl;
  conclusion = closes refl;
  under_exists = closes refl;
  never_added = statically_false-is (acting [] (atom p) (adds q) []) (atom q) [] ∙ refl;
  is_not_kept = keeps refl;
  has_no_atoms = numbers refl;
  any_two = keeps refl;
  two_that_differ = keeps refl;
  initial_fluent = numbers refl;
  static_has_none = refl;
  deleted_has_one = numbers refl;
  initial_come_first = numbers refl;
  more_comes_first = numbers refl;
  unreached_is_kept = keeps refl;
  unreached_has_no_number = numbers refl;
  never_applicable = λ bits. record { leads = leads_nowhere_at_all bits };
  never_met = λ bits. record { is_met = not_seen bits };
  with_a_number = leads refl;
  only_what_counts = numbers refl;
  its_changes = counting_numbers-is conditional_task (ground 0 (0 ∷ []) ∷ ground 0 (1 ∷ []) ∷ ground 0 (2 ∷ []) ∷ []) (instance 0 []) ∙ refl;
  may_be_made = numbers refl;
  for_one_object = numbers refl;
  along_roads = keeps refl;
  of_places = numbers refl;
  starts_at_a = initial-is (walk_to 2) at_places ∙ refl;
  moves_from_a = applicable-is (walk_to 2) at_places at_a ∙ refl;
  stays_at_a = leads refl;
  moves_to_b = leads refl;
  not_from_a = leads refl;
  no_such_number = leads refl;
  not_yet_at_c = meets refl;
  ends_at_c = meets refl;
  needs_a = refl;
  requires_c = refl;
  needs_false = refl;
  costs_three = cost-is (priced true) [] 0 ∙ refl;
  costs_nothing = cost-is (priced true) [] 1 ∙ refl;
  only_with_a_value = λ has_metric. keeps refl;
  its_value = cost-is (by_length true) at_places 0 ∙ refl;
  the_next_value = cost-is (by_length true) at_places 1 ∙ refl;
  a_value_of_zero = cost-is (by_length true) at_places 2 ∙ refl;
  a_value_without_the_metric = cost-is (by_length false) at_places 0 ∙ refl;
  leads_by_its_number = λ has_metric. leads refl;
  value_and_statically_false = keeps refl;
  too_many_instances = reports refl;
  both_too_many = reports refl;
  too_many_atoms = reports refl;
  neither = reports refl;
  statically_false_does_not_count = reports refl;
  more_counts = reports refl;
}
