-- The list of all instances contains each instance of the task, and the successors of a state are the states its instances lead
-- to.
use Rattle.std.proofs.Common.{◌≡◌, ℕ, zero, suc, ◌+◌, ◌<◌, inl, inr, Bool, true, false, ◌&&◌, List, [], ◌∷◌, length, map, Option, None, Some, refl, sym, ap, subst, arith}
use Rattle.std.specs.Prelude.{Contains, slice_get, if◌then◌else◌}
use Rattle.std.specs.Cmp.Lexicographic.{pointwise}
use Rattle.std.specs.List.{range_with_len}
use Rattle.std.specs.Option.{option_map, option_map_or, option_and_then}
use Rattle.std.proofs.lemmas.Bool.{and_parts, and_from}
use Rattle.std.proofs.lemmas.Option.{slice_get_within}
use Rattle.std.proofs.lemmas.List.Elements.{Contains-append_left, Contains-append_right, Contains-append_cases}
use Rattle.model.specs.Task.{Object, Union, Schema, Task, Instance}
use Rattle.model.specs.Meaning.{State, is_below, is_of, objects_of, step, can_apply, after_changes, changes_of, is_instance, fits}
use Rattle.model.specs.Instances.{product, instances_of_schema, instances_from, all_instances, leading_to, successors_of}
use Rattle.model.proofs.ListLemmas.{Contains-here, Contains-cases, Contains-none, Contains-map, map-Contains, Contains-flat_map, flat_map-Contains, Contains-filter_map, filter_map-Contains, Contains-filter, filter-Contains, Contains-range}

abbrev is_instance_of : Task → Option Schema → List ℕ → Bool
is_instance_of task schema objects = option_map_or (λ s. fits task s objects) schema false

abbrev step_of : Task → State → Option Schema → List ℕ → Option State
step_of task state found objects =
    option_and_then (λ schema.
    if fits task schema objects && can_apply task schema objects state then Some (after_changes task state (changes_of task schema.effect objects))
    else None)
    found

-- only the numbers of objects are of a type
pub is_of-within : (task : Task) (types : Union) (o : ℕ) → is_of task types o ≡ true → o < length task.objects
is_of-within task types o of = by_found (slice_get task.objects o) refl of
  where
    by_found : (found : Option Object) → slice_get task.objects o ≡ found → option_map_or (λ (x : Object). is_below task types x.type) found false ≡ true → o < length task.objects
    by_found None at not_so = absurd (cc)
    by_found (Some x) at so = slice_get_within task.objects o x at

Contains-objects_of : (task : Task) (types : Union) (o : ℕ) → is_of task types o ≡ true → Contains (objects_of task types) o
Contains-objects_of task types o of =
    Contains-filter (is_of task types) (range_with_len 0 (length task.objects)) o (Contains-range 0 (length task.objects) o (omega arith) (omega (arith, is_of-within task types o of))) of

abbrev ranges : Task → List Union → List (List ℕ)
ranges task unions = map (objects_of task) unions

Contains-product : (task : Task) (unions : List Union) (objects : List ℕ) → pointwise (is_of task) unions objects ≡ true → Contains (product (ranges task unions)) objects
Contains-product task [] [] fit = Contains-here [] []
Contains-product task [] (o ∷ objects) fit = absurd (cc)
Contains-product task (types ∷ unions) [] fit = absurd (cc)
Contains-product task (types ∷ unions) (o ∷ objects) fit =
    let parts = and_parts (is_of task types o) (pointwise (is_of task) unions objects) fit in
    Contains-flat_map (λ first. map (λ rest. first ∷ rest) (product (ranges task unions))) (objects_of task types) o (o ∷ objects)
    (Contains-objects_of task types o parts.0)
    (Contains-map (λ rest. o ∷ rest) (product (ranges task unions)) objects (Contains-product task unions objects parts.1))

product-Contains : (task : Task) (unions : List Union) (objects : List ℕ) → Contains (product (ranges task unions)) objects → pointwise (is_of task) unions objects ≡ true
product-Contains task [] objects at =
    elim (Contains-cases [] [] objects at) [
      | inl is ↦ subst (λ os. pointwise (is_of task) [] os ≡ true) is refl
      | inr none ↦ absurd (Contains-none objects none)
    ]
product-Contains task (types ∷ unions) objects at =
    let first = flat_map-Contains (λ first. map (λ rest. first ∷ rest) (product (ranges task unions))) (objects_of task types) objects at in
    let rest = map-Contains (λ rest. first.0 ∷ rest) (product (ranges task unions)) objects first.2 in
    let of = (filter-Contains (is_of task types) (range_with_len 0 (length task.objects)) first.0 first.1).1 in
    subst (λ os. pointwise (is_of task) (types ∷ unions) os ≡ true) rest.2
    (and_from (is_of task types first.0) (pointwise (is_of task) unions rest.0) of (product-Contains task unions rest.0 rest.1))

abbrev instance_at : ℕ → List ℕ → Instance
instance_at number objects = record { schema = number; objects = objects }

Contains-instances_of_schema : (task : Task) (number : ℕ) (schema : Schema) (objects : List ℕ) → fits task schema objects ≡ true
    → Contains (instances_of_schema task number schema) (instance_at number objects)
Contains-instances_of_schema task number schema objects fit =
    Contains-map (instance_at number) (product (ranges task schema.parameters)) objects (Contains-product task schema.parameters objects fit)

-- one object for each parameter of the schema at this index makes an instance in the list
Contains-instances_from : (task : Task) (number place n : ℕ) (schemas : List Schema) (schema : Schema) (objects : List ℕ)
    → n ≡ number + place → slice_get schemas place ≡ Some schema → fits task schema objects ≡ true
    → Contains (instances_from task number schemas) (instance_at n objects)
Contains-instances_from task number place n [] schema objects is at fit = absurd (cc)
Contains-instances_from task number zero n (first ∷ schemas) schema objects is at fit =
    let same : schema ≡ first = cc in
    let here : n ≡ number = omega arith in
    Contains-append_left (instances_of_schema task number first) (instances_from task (number + 1) schemas) (instance_at n objects)
    (subst (λ k. Contains (instances_of_schema task number first) (instance_at k objects)) (sym here)
    (Contains-instances_of_schema task number first objects (subst (λ s. fits task s objects ≡ true) same fit)))
Contains-instances_from task number (suc place) n (first ∷ schemas) schema objects is at fit =
    Contains-append_right (instances_of_schema task number first) (instances_from task (number + 1) schemas) (instance_at n objects)
    (Contains-instances_from task (number + 1) place n schemas schema objects (omega arith) at fit)

pub Contains-all_instances : (task : Task) (i : Instance) → is_instance task i ≡ true → Contains (all_instances task) i
Contains-all_instances task i is =
    elim (slice_get task.schemas i.schema) as (λ o. slice_get task.schemas i.schema ≡ o → is_instance_of task o i.objects ≡ true → Contains (all_instances task) i) [
      | None ↦ λ _ not_so. absurd (cc)
      | Some schema ↦ λ at fit. Contains-instances_from task 0 i.schema i.schema task.schemas schema i.objects (omega arith) at fit
    ] refl is

instances_of_schema-Contains : (task : Task) (number : ℕ) (schema : Schema) (i : Instance) → Contains (instances_of_schema task number schema) i
    → (i.schema ≡ number) × (fits task schema i.objects ≡ true)
instances_of_schema-Contains task number schema i at =
    let there = map-Contains (instance_at number) (product (ranges task schema.parameters)) i at in
    subst (λ j. (j.schema ≡ number) × (fits task schema j.objects ≡ true)) there.2 (refl, product-Contains task schema.parameters there.0 there.1)

instances_from-Contains : (task : Task) (number : ℕ) (schemas : List Schema) (i : Instance) → Contains (instances_from task number schemas) i
    → (place : ℕ) × (i.schema ≡ number + place) × (is_instance_of task (slice_get schemas place) i.objects ≡ true)
instances_from-Contains task number [] i at = absurd (Contains-none i at)
instances_from-Contains task number (first ∷ schemas) i at =
    elim (Contains-append_cases (instances_of_schema task number first) (instances_from task (number + 1) schemas) i at) [
      | inl here ↦ let known = instances_of_schema-Contains task number first i here in (0, omega (arith, known.0), known.1)
      | inr later ↦ let known = instances_from-Contains task (number + 1) schemas i later in (suc known.0, omega (arith, known.1), known.2)
    ]

pub all_instances-Contains : (task : Task) (i : Instance) → Contains (all_instances task) i → is_instance task i ≡ true
all_instances-Contains task i at =
    let known = instances_from-Contains task 0 task.schemas i at in
    let same : known.0 ≡ i.schema = omega (arith, known.1) in
    subst (λ place. is_instance_of task (slice_get task.schemas place) i.objects ≡ true) same known.2

first_test : {X : Type 0} (a b : Bool) (x : Option X) (y : X) → (if a && b then x else None) ≡ Some y → a ≡ true
first_test true b x y is = refl
first_test false b x y is = absurd (cc)

-- only an instance of the task is applicable
pub is_instance-of_step : (task : Task) (state : State) (i : Instance) (next : State) → step task state i ≡ Some next → is_instance task i ≡ true
is_instance-of_step task state i next leads =
    elim (slice_get task.schemas i.schema) as (λ o. step_of task state o i.objects ≡ Some next → is_instance_of task o i.objects ≡ true) [
      | None ↦ λ none. absurd (cc)
      | Some schema ↦ λ some. first_test (fits task schema i.objects) (can_apply task schema i.objects state) _ next some
    ] leads

pair_of_option_map : {X Y : Type 0} (j i : X) (o : Option Y) (y : Y) → option_map {U = X × Y} (λ (z : Y). (j, z)) o ≡ Some (i, y) → (j ≡ i) × (o ≡ Some y)
pair_of_option_map j i None y is = absurd (cc)
pair_of_option_map {X} {Y} j i (Some z) y is =
    let left : X × Y = (j, z) in
    let right : X × Y = (i, y) in
    let same : left ≡ right = cc in
    (ap (λ (p : X × Y). p.0) same, ap (λ (p : X × Y). Some p.1) same)

-- the result of a step is among the successors
pub Contains-successors : (task : Task) (state : State) (i : Instance) (next : State) → step task state i ≡ Some next
    → Contains (successors_of task state) (i, next)
Contains-successors task state i next leads =
    Contains-filter_map (leading_to task state) (all_instances task) i (i, next)
    (Contains-all_instances task i (is_instance-of_step task state i next leads))
    (ap (option_map (λ (next : State). (i, next))) leads)

pub successors-Contains : (task : Task) (state : State) (i : Instance) (next : State) → Contains (successors_of task state) (i, next)
    → step task state i ≡ Some next
successors-Contains task state i next at =
    let known = filter_map-Contains (leading_to task state) (all_instances task) (i, next) at in
    let here = pair_of_option_map known.0 i (step task state known.0) next known.2 in
    subst (λ j. step task state j ≡ Some next) here.0 here.1
