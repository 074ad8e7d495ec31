-- Grounding in a form that computes on a given task: with a list of the true atoms instead of their set.
use Rattle.std.specs.Prelude.{◌≡◌, ℕ, Bool, true, false, not, ◌&&◌, nat_eq, nat_lt, List, [], ◌∷◌, ◌++◌, map, filter, length, slice_get, if◌then◌else◌, Option, None, Some, is_some, refl}
use Rattle.std.proofs.Common.{◌∙◌, ap}
use Rattle.std.specs.List.{list_any, flat_map, filter_map, range_with_len}
use Rattle.std.specs.Option.{option_map, option_map_or, option_and_then}
use Rattle.std.specs.FinSet.{contains-from_list}
use Rattle.model.specs.Task.{Atom, Formula, Schema, Task, Instance}
use Rattle.model.specs.Meaning.{State, initial_state, fits, has_amount, can_apply, Change, changes_of, changes_of_instance, after_changes, cost_of, step}
use Rattle.model.specs.Fluents.{static_atoms}
use Rattle.model.specs.Instances.{all_instances}
use Rattle.model.specs.SureLiterals.{Literal, is_true, is_false, are_same, are_different, literal_holds, sure}
use Rattle.model.specs.StaticallyFalse.{is_fixed, is_statically_false, kept_instances, counting_changes}
use Rattle.model.specs.NumberedAtoms.{occurs_in, with_atoms, atom_of_literal, initial_fluent_atoms, numbered_atoms}
use Rattle.model.specs.NumberedLiterals.{numbered_change, counting_of_instance}
use Rattle.model.specs.Grounding.{chosen, state_of_bits, bits_of_state, ground_step, ground_system, applicable_numbers, of_instances, of_atoms, exceeded_limit}
use Rattle.model.proofs.Atoms.{atoms_total}
use Rattle.model.proofs.Steps.{holds_where, true_after, contains-state_after, holds-after}

-- ---- what is statically false

abbrev holds_among : List Atom → Literal → Bool
holds_among init (is_true a) = occurs_in init a
holds_among init (is_false a) = not (occurs_in init a)
holds_among init (are_same a b) = nat_eq a b
holds_among init (are_different a b) = not (nat_eq a b)

literal-holds : (task : Task) (l : Literal) → literal_holds (initial_state task) l ≡ holds_among task.init l
literal-holds task (is_true a) = contains-from_list atoms_total task.init a
literal-holds task (is_false a) = ap not (contains-from_list atoms_total task.init a)
literal-holds task (are_same a b) = refl
literal-holds task (are_different a b) = refl

abbrev pub statically_false : Task → Formula → List ℕ → Bool
statically_false task f binding = list_any (λ l. is_fixed task l && not (holds_among task.init l)) (sure task f binding)

pub statically_false-is : (task : Task) (f : Formula) (binding : List ℕ) → is_statically_false task f binding ≡ statically_false task f binding
statically_false-is task f binding = λ i. list_any (λ l. is_fixed task l && not (literal-holds task l i)) (sure task f binding)

abbrev pub kept : Task → List Instance
kept task = filter (λ j. option_map_or (λ schema. has_amount task schema j.objects && not (statically_false task schema.precondition j.objects)) (slice_get task.schemas j.schema) false) (all_instances task)

pub kept-is : (task : Task) → kept_instances task ≡ kept task
kept-is task = λ i. filter (λ j. option_map_or (λ schema. has_amount task schema j.objects && not (statically_false-is task schema.precondition j.objects i)) (slice_get task.schemas j.schema) false) (all_instances task)

-- ---- what counts, and what is numbered

abbrev pub counting : Task → Instance → List Change
counting task j = filter (λ c. not (statically_false task c.condition c.binding)) (changes_of_instance task j)

pub counting-is : (task : Task) (j : Instance) → counting_changes task j ≡ counting task j
counting-is task j = λ i. filter (λ c. not (statically_false-is task c.condition c.binding i)) (changes_of_instance task j)

pub counting_numbers-is : (task : Task) (atoms : List Atom) (j : Instance) → counting_of_instance task atoms j ≡ filter_map (numbered_change atoms) (counting task j)
counting_numbers-is task atoms j = ap (filter_map (numbered_change atoms)) (counting-is task j)

abbrev atoms_of : List Change → List Atom
atoms_of changes = map (λ (c : Change). atom_of_literal c.literal) changes

abbrev pub numbered : Task → List Atom → List Atom
numbered task more = with_atoms [] (more ++ initial_fluent_atoms task ++ flat_map (λ j. atoms_of (counting task j)) (kept task))

pub numbered-is : (task : Task) (more : List Atom) → numbered_atoms task more ≡ numbered task more
numbered-is task more = λ i. with_atoms [] (more ++ initial_fluent_atoms task ++ flat_map (λ j. atoms_of (counting-is task j i)) (kept-is task i))

pub exceeded_limit-is : (max_instances max_atoms : ℕ) (task : Task) (more : List Atom)
    → exceeded_limit max_instances max_atoms task more ≡ (if nat_lt max_instances (length (kept task)) then Some of_instances else if nat_lt max_atoms (length (numbered task more)) then Some of_atoms else None)
exceeded_limit-is max_instances max_atoms task more =
    λ i. if nat_lt max_instances (length (kept-is task i)) then Some of_instances else if nat_lt max_atoms (length (numbered-is task more i)) then Some of_atoms else None

-- ---- the meaning of packed states

module _ (task : Task) (atoms : List Atom) where
  pub initial-is : (ground_system task atoms).initial ≡ map (occurs_in task.init) atoms
  initial-is = λ i. map (λ a. contains-from_list atoms_total task.init a i) atoms

  pub cost-is : (number : ℕ) → (ground_system task atoms).cost number ≡ option_map_or (cost_of task) (slice_get (kept task) number) 0
  cost-is number = λ i. option_map_or (cost_of task) (slice_get (kept-is task i) number) 0

  module _ (bits : List Bool) where
    -- the atoms that are true
    abbrev true_atoms : List Atom
    true_atoms = chosen atoms bits ++ static_atoms task

    -- whether a formula holds
    abbrev pub holds_packed : Formula → List ℕ → Bool
    holds_packed f binding = holds_where task (true_after task true_atoms []) f binding

    pub meets_goal-is : (ground_system task atoms).meets_goal bits ≡ holds_packed task.goal []
    meets_goal-is = holds-after task true_atoms [] task.goal []

    abbrev by_schema : Instance → Schema → Option (List Bool)
    by_schema j schema =
        if fits task schema j.objects && (has_amount task schema j.objects && holds_packed schema.precondition j.objects) then Some (map (true_after task true_atoms (changes_of task schema.effect j.objects ∷ [])) atoms)
        else None

    abbrev pub leads_packed : ℕ → Option (List Bool)
    leads_packed number = option_and_then (λ j. option_and_then (by_schema j) (slice_get task.schemas j.schema)) (slice_get (kept task) number)

    mapped : (a b : Bool) (x : State) → option_map (bits_of_state atoms) (if a && b then Some x else None) ≡ (if a && b then Some (bits_of_state atoms x) else None)
    mapped true true x = refl
    mapped true false x = refl
    mapped false b x = refl

    by_instance : (j : Instance) → option_map (bits_of_state atoms) (step task (state_of_bits task atoms bits) j) ≡ option_and_then (by_schema j) (slice_get task.schemas j.schema)
    by_instance j =
        elim (slice_get task.schemas j.schema) as (λ o. option_map (bits_of_state atoms) (option_and_then by o) ≡ option_and_then (by_schema j) o) [
          | None ↦ refl
          | Some schema ↦
              mapped (fits task schema j.objects) (can_apply task schema j.objects (state_of_bits task atoms bits)) (after_changes task (state_of_bits task atoms bits) (changes_of task schema.effect j.objects))
              ∙ (λ i. if fits task schema j.objects && (has_amount task schema j.objects && holds-after task true_atoms [] schema.precondition j.objects i) then Some (map (λ q. contains-state_after task true_atoms (changes_of task schema.effect j.objects ∷ []) q i) atoms) else None)
        ]
      where
        by : Schema → Option State
        by schema = if fits task schema j.objects && can_apply task schema j.objects (state_of_bits task atoms bits) then Some (after_changes task (state_of_bits task atoms bits) (changes_of task schema.effect j.objects)) else None

    pub ground_step-is : (number : ℕ) → ground_step task atoms bits number ≡ leads_packed number
    ground_step-is number = λ i. option_and_then (λ j. by_instance j i) (slice_get (kept-is task i) number)

    pub applicable-is : applicable_numbers task atoms bits ≡ filter (λ number. is_some (leads_packed number)) (range_with_len 0 (length (kept task)))
    applicable-is = λ i. filter (λ number. is_some (ground_step-is number i)) (range_with_len 0 (length (kept-is task i)))
