-- The successors of a state, as the ground task has them: of each instance that is applicable, by its number.
use Rattle.std.proofs.Common.{◌≡◌, ◌∙◌, ℕ, suc, ◌+◌, ◌<◌, Bool, true, false, List, [], ◌∷◌, length, map, get_or, Option, None, Some, refl, sym, ap, subst, arith, true≢false}
use Rattle.std.specs.Prelude.{Contains, IsTrue, All, cond, filter, is_some, slice_get}
use Rattle.std.specs.List.{filter_map, range_with_len, cons_option}
use Rattle.std.specs.Option.{option_map, option_map_or, option_and_then}
use Rattle.std.proofs.lemmas.List.{get_or_default}
use Rattle.std.proofs.lemmas.Option.{get_or_from_slice_get}
use Rattle.model.specs.Task.{Atom, Task, Instance}
use Rattle.model.specs.Meaning.{State, step, cost_of, system_of}
use Rattle.model.specs.Fluents.{is_fluent}
use Rattle.model.specs.Instances.{all_instances, leading_to, successors_of}
use Rattle.model.specs.StaticallyFalse.{is_kept, kept_instances}
use Rattle.model.specs.NumberedAtoms.{numbered_atoms}
use Rattle.model.specs.Grounding.{state_of_bits, bits_of_state, ground_step, ground_system, applicable_numbers}
use Rattle.model.proofs.ListLemmas.{filter-Contains}
use Rattle.model.proofs.StaticallyFalseLemmas.{statically_false_is_not_applicable}
use Rattle.model.proofs.GroundTaskLemmas.{packs_states, ground_task_is_bisimilar}

-- ---- lists

-- elements of which nothing comes can be left out
filter_map-filter : {X Y : Type 0} (h : X → Option Y) (p : X → Bool) → ((x : X) → p x ≡ false → h x ≡ None) → (xs : List X) → filter_map h xs ≡ filter_map h (filter p xs)
filter_map-filter h p nothing [] = refl
filter_map-filter h p nothing (x ∷ xs) =
    elim (p x) as (λ b. p x ≡ b → cons_option (h x) (filter_map h xs) ≡ filter_map h (cond b (x ∷ filter p xs) (filter p xs))) [
      | true ↦ λ _. ap (cons_option (h x)) (filter_map-filter h p nothing xs)
      | false ↦ λ fails. ap (λ o. cons_option o (filter_map h xs)) (nothing x fails) ∙ filter_map-filter h p nothing xs
    ] refl

-- what comes of the elements, by the numbers of those of which something comes
by_numbers : {X Y : Type 0} (h : X → Option Y) (xs : List X) (p : ℕ → Bool) (view : ℕ → Y) (from : ℕ)
    → ((k n : ℕ) (x : X) → n ≡ from + k → slice_get xs k ≡ Some x → p n ≡ is_some (h x))
    → ((k n : ℕ) (x : X) (y : Y) → n ≡ from + k → slice_get xs k ≡ Some x → h x ≡ Some y → view n ≡ y)
    → map view (filter p (range_with_len from (length xs))) ≡ filter_map h xs
by_numbers h [] p view from tests gives = refl
by_numbers {X} {Y} h (x ∷ xs) p view from tests gives =
    let rest = by_numbers h xs p view (from + 1) (λ k n y is at. tests (suc k) n y (omega (arith, is)) at) (λ k n y z is at. gives (suc k) n y z (omega (arith, is)) at) in
    let later = filter p (range_with_len (from + 1) (length xs)) in
    ap (λ b. map view (cond b (from ∷ later) later)) (tests 0 from x (omega arith) refl)
    ∙ elim (h x) as (λ o. h x ≡ o → map view (cond (is_some o) (from ∷ later) later) ≡ cons_option o (filter_map h xs)) [
      | None ↦ λ _. rest
      | Some y ↦ λ is. (λ i. gives 0 from x y (omega arith) refl is i ∷ rest i)
    ] refl

is_some-map : {X Y : Type 0} (f : X → Y) (o : Option X) → is_some (option_map f o) ≡ is_some o
is_some-map f None = refl
is_some-map f (Some x) = refl

-- ---- the successors

abbrev no_instance : Instance
no_instance = record { schema = 0; objects = [] }

-- the instance of this number, with the state that it leads to
abbrev pub leads_by : Task → List Atom → List Bool → ℕ → Instance × State
leads_by task atoms bits number =
    (get_or (kept_instances task) number no_instance, option_map_or (state_of_bits task atoms) (ground_step task atoms bits number) (state_of_bits task atoms bits))

module _ (task : Task) (more : List Atom) (fluent : All (λ (a : Atom). IsTrue (is_fluent task a.predicate)) more) (bits : List Bool) where
  abbrev atoms : List Atom
  atoms = numbered_atoms task more

  abbrev here : State
  here = state_of_bits task atoms bits

  applies-number : (k : ℕ) (i : Instance) → slice_get (kept_instances task) k ≡ Some i → is_some (ground_step task atoms bits k) ≡ is_some (leading_to task here i)
  applies-number k i at =
      ap (λ o. is_some (option_and_then (λ (j : Instance). option_map (bits_of_state atoms) (step task here j)) o)) at
      ∙ is_some-map (bits_of_state atoms) (step task here i)
      ∙ sym (is_some-map (λ (next : State). (i, next)) (step task here i))

  leads-number : (k : ℕ) (i : Instance) (y : Instance × State) → slice_get (kept_instances task) k ≡ Some i → leading_to task here i ≡ Some y → leads_by task atoms bits k ≡ y
  leads-number k i y at leads =
      elim (ground_step task atoms bits k) as (λ o. ground_step task atoms bits k ≡ o → leads_by task atoms bits k ≡ y) [
        | None ↦ λ none. absurd (true≢false (sym (ap is_some leads) ∙ sym (applies-number k i at) ∙ ap is_some none))
        | Some next ↦ λ some.
            let there = (ground_task_is_bisimilar task more fluent).forth bits here k next refl some in
            let same : there.0 ≡ i = cc in
            let led : leading_to task here i ≡ Some (i, there.1) = ap (option_map (λ (s : State). (i, s))) (ap (step task here) (sym same) ∙ there.3) in
            let is : (i, there.1) ≡ y = cc in
            (λ j. (get_or_from_slice_get (kept_instances task) k i no_instance at j, option_map_or (state_of_bits task atoms) (some j) here))
            ∙ (λ j. (i, there.4 j)) ∙ is
      ] refl

  -- in the order of their numbers, they are the successors of the state
  pub leads_by-successors : map (leads_by task atoms bits) (applicable_numbers task atoms bits) ≡ successors_of task here
  leads_by-successors =
      by_numbers (leading_to task here) (kept_instances task) (λ number. is_some (ground_step task atoms bits number)) (leads_by task atoms bits) 0
      (λ k n i is at. applies-number n i (ap (slice_get (kept_instances task)) (omega (arith, is)) ∙ at))
      (λ k n i y is at leads. leads-number n i y (ap (slice_get (kept_instances task)) (omega (arith, is)) ∙ at) leads)
      ∙ sym (filter_map-filter (leading_to task here) (is_kept task)
      (λ i closed. ap (option_map (λ (next : State). (i, next))) (statically_false_is_not_applicable task i here ((packs_states task more fluent).statics bits) closed)) (all_instances task))

-- ---- a number of the list

module _ (task : Task) (atoms : List Atom) (bits : List Bool) where
  pub applies_at : (numbers : List ℕ) (k : ℕ) → numbers ≡ applicable_numbers task atoms bits → k < length numbers → is_some (ground_step task atoms bits (get_or numbers k 0)) ≡ true
  applies_at numbers k is lt =
      let number = get_or numbers k 0 in
      let among : Contains numbers number = (k, lt, get_or_default numbers k number 0 lt) in
      (filter-Contains (λ n. is_some (ground_step task atoms bits n)) (range_with_len 0 (length (kept_instances task))) number (subst (λ those. Contains those number) is among)).1

  pub next_by : (number : ℕ) (next : List Bool) → ground_step task atoms bits number ≡ Some next → (leads_by task atoms bits number).1 ≡ state_of_bits task atoms next
  next_by number next leads = ap (λ o. option_map_or (state_of_bits task atoms) o (state_of_bits task atoms bits)) leads

  pub cost_by : (number : ℕ) (next : List Bool) → ground_step task atoms bits number ≡ Some next → (ground_system task atoms).cost number ≡ (system_of task).cost (leads_by task atoms bits number).0
  cost_by number next leads =
      elim (slice_get (kept_instances task) number) as (λ o. slice_get (kept_instances task) number ≡ o
      → option_and_then (λ (i : Instance). option_map (bits_of_state atoms) (step task (state_of_bits task atoms bits) i)) o ≡ Some next
      → option_map_or (cost_of task) o 0 ≡ cost_of task (get_or (kept_instances task) number no_instance)) [
        | None ↦ λ _ none. absurd (cc)
        | Some i ↦ λ at _. ap (cost_of task) (sym (get_or_from_slice_get (kept_instances task) number i no_instance at))
      ] refl leads
