-- The ground task and its task agree: the numbered atoms are fluent, and no other fluent atom ever becomes true.
use Rattle.std.proofs.Common.{arith, ◌≡◌, ◌∙◌, ℕ, ◌≤◌, ◌<◌, ◌⊎◌, Bool, true, false, not, ◌&&◌, ◌||◌, inl, inr, List, [], ◌∷◌, ◌++◌, map, length, Option, None, Some, refl, sym, ap, true≢false}
use Rattle.std.specs.Prelude.{Contains, All, IsTrue, slice_get, nat_lt, cond, filter, if◌then◌else◌, is_some}
use Rattle.std.specs.List.{flat_map, range_with_len}
use Rattle.std.proofs.lemmas.Option.{slice_get_within}
use Rattle.std.specs.Option.{option_map, option_map_or, option_and_then}
use Rattle.std.specs.Ordering.{eq_by_cmp}
use Rattle.std.specs.FinSet.{contains, contains-from_list}
use Rattle.std.proofs.lemmas.Bool.{or_cases, or_left, or_right, and_parts, and_from, lt-ltb, le-ltb}
use Rattle.std.proofs.lemmas.List.{length-map}
use Rattle.std.proofs.lemmas.List.Elements.{All-contains}
use Rattle.model.specs.Task.{Atom, Schema, Task, Instance}
use Rattle.model.specs.Meaning.{State, atom_cmp, initial_state, holds, fits, can_apply, GroundLiteral, adds, deletes, Change, changes_of, changes_of_instance, literals_in, added_by, deleted_by, after_literals, after_changes, step, meets_goal, cost_of, system_of}
use Rattle.model.specs.Fluents.{touches, is_fluent, HasInitialStatics}
use Rattle.model.specs.StaticallyFalse.{kept_instances, counts, counting_changes}
use Rattle.model.specs.NumberedAtoms.{occurs_in, with_atoms, atom_of_literal, touched_by, initial_fluent_atoms, numbered_atoms, are_distinct, AreNumbered, HasNumberedFluents}
use Rattle.model.specs.Grounding.{state_of_bits, bits_of_state, ground_step, ground_system, applicable_numbers, GroundLimit, of_instances, of_atoms, exceeded_limit, StandsFor, NamesKept, GroundTaskIsBisimilar, GroundTaskSolvesAlike, PacksStates}
use Rattle.model.proofs.Atoms.{atoms_total, occurs_in-append}
use Rattle.model.proofs.BisimulationLemmas.{solve_alike}
use Rattle.model.proofs.ListLemmas.{Contains-place, Contains-filter, filter-Contains, Contains-range}
use Rattle.model.proofs.StaticLemmas.{contains-after_literals, is_changed, untouched, none_of_all, contains-step, occurs_in-filter}
use Rattle.model.proofs.StaticallyFalseLemmas.{only_counting_changes_are_made, Contains-kept}
use Rattle.model.proofs.NumberingLemmas.{occurs_in-Contains, occurs_in-flat_map, occurs_in-flat_map_any, flat_map-occurs_in, occurs_in-with_atoms, distinct-with_atoms, numbered-first}
use Rattle.model.proofs.PackedStates.{contains-static, contains-fluent, chosen-occurs_in, packed-bits_of_state, bits_of-packed_state}

-- ---- what a step changes

leads_to : (a b : Bool) (x y : State) → (if a && b then Some x else None) ≡ Some y → x ≡ y
leads_to true true x y is = cc
leads_to true false x y is = absurd (cc)
leads_to false b x y is = absurd (cc)

-- a step makes the changes of its instance
pub step-changes : (task : Task) (s next : State) (i : Instance) → step task s i ≡ Some next → after_changes task s (changes_of_instance task i) ≡ next
step-changes task s next i leads =
    elim (slice_get task.schemas i.schema) as (λ o. option_and_then by o ≡ Some next → after_changes task s (option_map_or (λ (schema : Schema). changes_of task schema.effect i.objects) o []) ≡ next) [
      | None ↦ λ none. absurd (cc)
      | Some schema ↦ λ some. leads_to (fits task schema i.objects) (can_apply task schema i.objects s) _ next some
    ] leads
  where
    by : Schema → Option State
    by schema = if fits task schema i.objects && can_apply task schema i.objects s then Some (after_changes task s (changes_of task schema.effect i.objects)) else None

-- the counting ones suffice
pub literals_in-counting : (task : Task) (s : State) (changes : List Change) → HasInitialStatics task s → literals_in task s (filter (counts task) changes) ≡ literals_in task s changes
literals_in-counting task s [] statics = refl
literals_in-counting task s (c ∷ changes) statics =
    let rest = literals_in-counting task s changes statics in
    let kept = filter (λ (d : Change). holds task d.condition d.binding s) changes in
    elim (counts task c) as (λ b. counts task c ≡ b → literals_in task s (cond b (c ∷ filter (counts task) changes) (filter (counts task) changes)) ≡ literals_in task s (c ∷ changes)) [
      | true ↦ λ _. first (holds task c.condition c.binding s) rest
      | false ↦ λ uncounted. rest ∙ ap (λ b. map (λ (d : Change). d.literal) (cond b (c ∷ kept) kept)) (sym (only_counting_changes_are_made task c s statics uncounted))
    ] refl
  where
    met : List Change → List Change
    met list = filter (λ (d : Change). holds task d.condition d.binding s) list

    first : (b : Bool) → literals_in task s (filter (counts task) changes) ≡ literals_in task s changes
        → map (λ (d : Change). d.literal) (cond b (c ∷ met (filter (counts task) changes)) (met (filter (counts task) changes))) ≡ map (λ (d : Change). d.literal) (cond b (c ∷ met changes) (met changes))
    first true rest = ap (λ l. c.literal ∷ l) rest
    first false rest = rest

pub step-counting : (task : Task) (s next : State) (i : Instance) → HasInitialStatics task s → step task s i ≡ Some next → after_changes task s (counting_changes task i) ≡ next
step-counting task s next i statics leads =
    ap (after_literals s) (literals_in-counting task s (changes_of_instance task i) statics) ∙ step-changes task s next i leads

-- the atoms of these changes
abbrev pub atoms_of : List Change → List Atom
atoms_of changes = map (λ (c : Change). atom_of_literal c.literal) changes

added-among : (task : Task) (s : State) (changes : List Change) (q : Atom) → occurs_in (added_by (literals_in task s changes)) q ≡ true → occurs_in (atoms_of changes) q ≡ true
added-among task s [] q at = at
added-among task s (c ∷ changes) q at =
    elim (holds task c.condition c.binding s) as (λ b. occurs_in (added_by (map (λ (d : Change). d.literal) (cond b (c ∷ met) met))) q ≡ true → (eq_by_cmp atom_cmp q (atom_of_literal c.literal) || occurs_in (atoms_of changes) q) ≡ true) [
      | true ↦ λ some. first c.literal (added-among task s changes q) some
      | false ↦ λ later. or_right (eq_by_cmp atom_cmp q (atom_of_literal c.literal)) (occurs_in (atoms_of changes) q) (added-among task s changes q later)
    ] at
  where
    met : List Change
    met = filter (λ (d : Change). holds task d.condition d.binding s) changes

    first : (l : GroundLiteral) → (occurs_in (added_by (literals_in task s changes)) q ≡ true → occurs_in (atoms_of changes) q ≡ true)
        → occurs_in (added_by (l ∷ literals_in task s changes)) q ≡ true → (eq_by_cmp atom_cmp q (atom_of_literal l) || occurs_in (atoms_of changes) q) ≡ true
    first (adds a) rest some =
        elim (or_cases (eq_by_cmp atom_cmp q a) (occurs_in (added_by (literals_in task s changes)) q) some) [
          | inl here ↦ or_left (eq_by_cmp atom_cmp q a) (occurs_in (atoms_of changes) q) here
          | inr later ↦ or_right (eq_by_cmp atom_cmp q a) (occurs_in (atoms_of changes) q) (rest later)
        ]
    first (deletes a) rest some = or_right (eq_by_cmp atom_cmp q a) (occurs_in (atoms_of changes) q) (rest some)

-- an atom that is true after a step was true before, or a counting change adds it
pub step-touched : (task : Task) (s next : State) (i : Instance) (q : Atom) → HasInitialStatics task s → step task s i ≡ Some next → contains next q ≡ true
    → (contains s q ≡ true) ⊎ (occurs_in (touched_by task i) q ≡ true)
step-touched task s next i q statics leads has =
    let literals = literals_in task s (counting_changes task i) in
    let now : contains (after_literals s literals) q ≡ true = ap (λ (t : State). contains t q) (step-counting task s next i statics leads) ∙ has in
    elim (or_cases (contains s q && not (occurs_in (deleted_by literals) q)) (occurs_in (added_by literals) q) (sym (contains-after_literals s literals q) ∙ now)) [
      | inl before ↦ inl (and_parts (contains s q) (not (occurs_in (deleted_by literals) q)) before).0
      | inr added ↦ inr (added-among task s (counting_changes task i) q added)
    ]

-- static atoms are unchanged
pub step-HasInitialStatics : (task : Task) (s next : State) (i : Instance) → HasInitialStatics task s → step task s i ≡ Some next → HasInitialStatics task next
step-HasInitialStatics task s next i statics leads q static = contains-step task s next i q static leads ∙ statics q static

-- ---- only fluent atoms are changed

filtered-changed : (p : Change → Bool) (changes : List Change) (q : Atom) → occurs_in (atoms_of (filter p changes)) q ≡ true → is_changed q changes ≡ true
filtered-changed p [] q at = absurd (true≢false (sym at))
filtered-changed p (c ∷ changes) q at =
    elim (p c) as (λ b. occurs_in (atoms_of (cond b (c ∷ filter p changes) (filter p changes))) q ≡ true → (eq_by_cmp atom_cmp q (atom_of_literal c.literal) || is_changed q changes) ≡ true) [
      | true ↦ λ some. elim (or_cases (eq_by_cmp atom_cmp q (atom_of_literal c.literal)) (occurs_in (atoms_of (filter p changes)) q) some) [
        | inl here ↦ or_left (eq_by_cmp atom_cmp q (atom_of_literal c.literal)) (is_changed q changes) here
        | inr later ↦ or_right (eq_by_cmp atom_cmp q (atom_of_literal c.literal)) (is_changed q changes) (filtered-changed p changes q later)
      ]
      | false ↦ λ later. or_right (eq_by_cmp atom_cmp q (atom_of_literal c.literal)) (is_changed q changes) (filtered-changed p changes q later)
    ] at

changed-fluent : (task : Task) (i : Instance) (q : Atom) → is_changed q (changes_of_instance task i) ≡ true → is_fluent task q.predicate ≡ true
changed-fluent task i q changed =
    elim (is_fluent task q.predicate) as (λ f. is_fluent task q.predicate ≡ f → f ≡ true) [
      | true ↦ λ _. refl
      | false ↦ λ static. elim (slice_get task.schemas i.schema) as (λ o. slice_get task.schemas i.schema ≡ o → is_changed q (option_map_or (λ (schema : Schema). changes_of task schema.effect i.objects) o []) ≡ true → false ≡ true) [
        | None ↦ λ _ none. none
        | Some schema ↦ λ at some.
            sym (untouched task q schema.effect i.objects (none_of_all (λ (x : Schema). touches q.predicate x.effect) task.schemas i.schema schema static at)) ∙ some
      ] refl changed
    ] refl

pub touched-fluent : (task : Task) (i : Instance) (q : Atom) → occurs_in (touched_by task i) q ≡ true → is_fluent task q.predicate ≡ true
touched-fluent task i q at = changed-fluent task i q (filtered-changed (counts task) (changes_of_instance task i) q at)

-- ---- the numbered atoms

module _ (task : Task) (more : List Atom) where
  abbrev initial_atoms : List Atom
  initial_atoms = initial_fluent_atoms task

  abbrev touched_atoms : List Atom
  touched_atoms = flat_map (touched_by task) (kept_instances task)

  -- which atoms they are
  pub occurs_in-numbered : (q : Atom) → occurs_in (numbered_atoms task more) q ≡ ((occurs_in more q || occurs_in initial_atoms q) || occurs_in touched_atoms q)
  occurs_in-numbered q =
      occurs_in-with_atoms [] (more ++ initial_atoms ++ touched_atoms) q
      ∙ occurs_in-append (more ++ initial_atoms) touched_atoms q
      ∙ ap (λ b. b || occurs_in touched_atoms q) (occurs_in-append more initial_atoms q)

  occurs_in-initial : (q : Atom) → occurs_in initial_atoms q ≡ (is_fluent task q.predicate && contains (initial_state task) q)
  occurs_in-initial q =
      occurs_in-filter (λ (a : Atom). is_fluent task a.predicate) task.init q
      ∙ ap (λ b. is_fluent task q.predicate && b) (sym (contains-from_list atoms_total task.init q))

  -- no atom is repeated
  pub numbered-distinct : are_distinct (numbered_atoms task more) ≡ true
  numbered-distinct = distinct-with_atoms [] (more ++ initial_atoms ++ touched_atoms) refl

  -- the number of each atom in `more` is its index, if they are distinct
  pub numbered-more_first : are_distinct more ≡ true → (others : List Atom) × (numbered_atoms task more ≡ more ++ others)
  numbered-more_first distinct =
      let begun = numbered-first more (initial_atoms ++ touched_atoms) distinct in
      (begun.0, ap (with_atoms []) (append_right more initial_atoms touched_atoms) ∙ begun.1)
    where
      append_right : (xs ys zs : List Atom) → (xs ++ ys) ++ zs ≡ xs ++ (ys ++ zs)
      append_right [] ys zs = refl
      append_right (x ∷ xs) ys zs = ap (λ l. x ∷ l) (append_right xs ys zs)

  pub are_numbered : AreNumbered task more (numbered_atoms task more)
  are_numbered = record {
    once = numbered-distinct;
    more_first = numbered-more_first;
    which = λ a.
        occurs_in-numbered a
        ∙ (λ i. (occurs_in more a || occurs_in-initial a i) || occurs_in-flat_map_any (touched_by task) (kept_instances task) a i);
  }

  -- the fluent atoms that are initially true are numbered
  pub initial-numbered : HasNumberedFluents task (numbered_atoms task more) (initial_state task)
  initial-numbered q is has =
      occurs_in-numbered q
      ∙ or_left (occurs_in more q || occurs_in initial_atoms q) (occurs_in touched_atoms q)
      (or_right (occurs_in more q) (occurs_in initial_atoms q) (occurs_in-initial q ∙ and_from (is_fluent task q.predicate) (contains (initial_state task) q) is has))

  -- and so are those that become true
  pub step-numbered : (s next : State) (i : Instance) → HasInitialStatics task s → HasNumberedFluents task (numbered_atoms task more) s → step task s i ≡ Some next
      → HasNumberedFluents task (numbered_atoms task more) next
  step-numbered s next i statics numbered leads q is has =
      elim (step-touched task s next i q statics leads has) [
        | inl before ↦ numbered q is before
        | inr touched ↦
            occurs_in-numbered q
            ∙ or_right (occurs_in more q || occurs_in initial_atoms q) (occurs_in touched_atoms q) (occurs_in-flat_map (touched_by task) (kept_instances task) i q (Contains-kept task s next i statics leads) touched)
      ]

  module _ (fluent : All (λ (a : Atom). IsTrue (is_fluent task a.predicate)) more) where
    -- only fluent atoms are numbered
    pub numbered-fluent : (q : Atom) → occurs_in (numbered_atoms task more) q ≡ true → is_fluent task q.predicate ≡ true
    numbered-fluent q at =
        elim (or_cases (occurs_in more q || occurs_in initial_atoms q) (occurs_in touched_atoms q) (sym (occurs_in-numbered q) ∙ at)) [
          | inl before ↦ elim (or_cases (occurs_in more q) (occurs_in initial_atoms q) before) [
            | inl given ↦ All-contains (λ (a : Atom). IsTrue (is_fluent task a.predicate)) more q fluent (occurs_in-Contains more q given)
            | inr start ↦ (and_parts (is_fluent task q.predicate) (contains (initial_state task) q) (sym (occurs_in-initial q) ∙ start)).0
          ]
          | inr touched ↦ let there = flat_map-occurs_in (touched_by task) (kept_instances task) q touched in touched-fluent task there.0 q there.2
        ]

    in_init : (q : Atom) → contains (initial_state task) q ≡ occurs_in task.init q
    in_init q = contains-from_list atoms_total task.init q

    pub packs_states : PacksStates task (numbered_atoms task more)
    packs_states = record {
      statics = λ bits q static. contains-static (is_fluent task) task.init (numbered_atoms task more) numbered-fluent bits q static ∙ sym (in_init q);
      fluents = λ bits q is has. chosen-occurs_in (numbered_atoms task more) bits q (sym (contains-fluent (is_fluent task) task.init (numbered_atoms task more) bits q is) ∙ has);
      packed = λ s statics numbered. packed-bits_of_state (is_fluent task) task.init (numbered_atoms task more) numbered-fluent s (λ q static. statics q static ∙ in_init q) numbered;
      one_packed = bits_of-packed_state (is_fluent task) task.init (numbered_atoms task more) numbered-fluent numbered-distinct;
    }

-- ---- both have the same steps

module _ (task : Task) (more : List Atom) (fluent : All (λ (a : Atom). IsTrue (is_fluent task a.predicate)) more) where
  abbrev atoms : List Atom
  atoms = numbered_atoms task more

  abbrev packs : PacksStates task atoms
  packs = packs_states task more fluent

  comes_after : (bits : List Bool) (next : State) (i : Instance) → step task (state_of_bits task atoms bits) i ≡ Some next → StandsFor task atoms (bits_of_state atoms next) next
  comes_after bits next i leads =
      packs.packed next (step-HasInitialStatics task (state_of_bits task atoms bits) next i (packs.statics bits) leads)
      (step-numbered task more (state_of_bits task atoms bits) next i (packs.statics bits) (packs.fluents bits) leads)

  ground_leads : (bits : List Bool) (number : ℕ) (i : Instance) (next : State) → NamesKept task number i → step task (state_of_bits task atoms bits) i ≡ Some next
      → ground_step task atoms bits number ≡ Some (bits_of_state atoms next)
  ground_leads bits number i next named leads =
      ap (option_and_then (λ (j : Instance). option_map (bits_of_state atoms) (step task (state_of_bits task atoms bits) j))) named ∙ ap (option_map (bits_of_state atoms)) leads

  -- each step of the ground task is one of the task
  ground_led : (bits next : List Bool) (number : ℕ) → ground_step task atoms bits number ≡ Some next
      → (i : Instance) × (state : State) × NamesKept task number i × (step task (state_of_bits task atoms bits) i ≡ Some state) × (bits_of_state atoms state ≡ next)
  ground_led bits next number leads =
      elim (slice_get (kept_instances task) number) as (λ o. slice_get (kept_instances task) number ≡ o → option_and_then (λ (j : Instance). option_map (bits_of_state atoms) (step task (state_of_bits task atoms bits) j)) o ≡ Some next
      → (i : Instance) × (state : State) × NamesKept task number i × (step task (state_of_bits task atoms bits) i ≡ Some state) × (bits_of_state atoms state ≡ next)) [
        | None ↦ λ _ none. absurd (cc)
        | Some i ↦ λ named some.
            elim (step task (state_of_bits task atoms bits) i) as (λ o. step task (state_of_bits task atoms bits) i ≡ o → option_map (bits_of_state atoms) o ≡ Some next
            → (i : Instance) × (state : State) × NamesKept task number i × (step task (state_of_bits task atoms bits) i ≡ Some state) × (bits_of_state atoms state ≡ next)) [
              | None ↦ λ _ none. absurd (cc)
              | Some state ↦ λ here is. (i, state, named, here, cc)
            ] refl some
      ] refl leads

pub ground_task_is_bisimilar : GroundTaskIsBisimilar
ground_task_is_bisimilar task more fluent = record {
  initial = (packs task more fluent).packed (initial_state task) (λ q static. refl) (initial-numbered task more);
  forth = λ bits s number next occurs leads.
      let there = ground_led task more fluent bits next number leads in (
        there.0,
        there.1,
        there.2,
        ap (λ (t : State). step task t there.0) (sym occurs) ∙ there.3,
        ap (state_of_bits task (numbered_atoms task more)) (sym there.4) ∙ comes_after task more fluent bits there.1 there.0 there.3,
      );
  back = λ bits s i next occurs leads.
      let here : step task (state_of_bits task (numbered_atoms task more) bits) i ≡ Some next = ap (λ (t : State). step task t i) occurs ∙ leads in
      let place = Contains-place (kept_instances task) i (Contains-kept task (state_of_bits task (numbered_atoms task more) bits) next i ((packs task more fluent).statics bits) here) in (
        place.0,
        bits_of_state (numbered_atoms task more) next,
        place.1,
        ground_leads task more fluent bits place.0 i next place.1 here,
        comes_after task more fluent bits next i here,
      );
  goals = λ bits s occurs. ap (meets_goal task) occurs;
  costs = λ number i named. ap (λ o. option_map_or (cost_of task) o 0) named;
}

pub ground_task_solves_alike : GroundTaskSolvesAlike
ground_task_solves_alike task more fluent =
    solve_alike (ground_system task (numbered_atoms task more)) (system_of task) (StandsFor task (numbered_atoms task more)) (NamesKept task) (ground_task_is_bisimilar task more fluent)

-- ---- the applicable numbers

module _ (task : Task) (atoms : List Atom) (bits : List Bool) where
  abbrev applies : ℕ → Bool
  applies number = is_some (ground_step task atoms bits number)

  pub Contains-applicable : (number : ℕ) (next : List Bool) → ground_step task atoms bits number ≡ Some next → Contains (applicable_numbers task atoms bits) number
  Contains-applicable number next leads =
      elim (slice_get (kept_instances task) number) as (λ o. slice_get (kept_instances task) number ≡ o → option_and_then (λ (i : Instance). option_map (bits_of_state atoms) (step task (state_of_bits task atoms bits) i)) o ≡ Some next
      → Contains (applicable_numbers task atoms bits) number) [
        | None ↦ λ _ none. absurd (cc)
        | Some i ↦ λ named _.
            Contains-filter applies (range_with_len 0 (length (kept_instances task))) number
            (Contains-range 0 (length (kept_instances task)) number (omega arith) (omega (arith, slice_get_within (kept_instances task) number i named)))
            (ap is_some leads)
      ] refl leads

  pub applicable-Contains : (number : ℕ) → Contains (applicable_numbers task atoms bits) number → (next : List Bool) × (ground_step task atoms bits number ≡ Some next)
  applicable-Contains number at =
      let both = filter-Contains applies (range_with_len 0 (length (kept_instances task))) number at in
      elim (ground_step task atoms bits number) as (λ o. is_some o ≡ true → (next : List Bool) × (o ≡ Some next)) [
        | None ↦ λ none. absurd (cc)
        | Some next ↦ λ _. (next, refl)
      ] both.1

-- a successor has as many bits as there are atoms
pub length-step : (task : Task) (atoms : List Atom) (bits next : List Bool) (number : ℕ) → ground_step task atoms bits number ≡ Some next → length next ≡ length atoms
length-step task atoms bits next number leads =
    elim (slice_get (kept_instances task) number) as (λ o. option_and_then (λ (i : Instance). option_map (bits_of_state atoms) (step task (state_of_bits task atoms bits) i)) o ≡ Some next → length next ≡ length atoms) [
      | None ↦ λ none. absurd (cc)
      | Some i ↦ λ some. of_state (step task (state_of_bits task atoms bits) i) some
    ] leads
  where
    of_state : (o : Option State) → option_map (bits_of_state atoms) o ≡ Some next → length next ≡ length atoms
    of_state None none = absurd (cc)
    of_state (Some s) some = let is : bits_of_state atoms s ≡ next = cc in ap length (sym is) ∙ length-map atoms (contains s)

-- ---- the limits

module _ (task : Task) (more : List Atom) (max_instances max_atoms : ℕ) where
  abbrev reported_at : Bool → Bool → Option GroundLimit
  reported_at instances atoms = if instances then Some of_instances else if atoms then Some of_atoms else None

  pub reported_instances : max_instances < length (kept_instances task) → exceeded_limit max_instances max_atoms task more ≡ Some of_instances
  reported_instances many = ap (λ b. reported_at b (nat_lt max_atoms (length (numbered_atoms task more)))) (lt-ltb max_instances (length (kept_instances task)) many)

  pub reported_atoms : length (kept_instances task) ≤ max_instances → max_atoms < length (numbered_atoms task more) → exceeded_limit max_instances max_atoms task more ≡ Some of_atoms
  reported_atoms few many =
      ap (λ b. reported_at b (nat_lt max_atoms (length (numbered_atoms task more)))) (le-ltb max_instances (length (kept_instances task)) few)
      ∙ ap (reported_at false) (lt-ltb max_atoms (length (numbered_atoms task more)) many)

  pub reported_none : length (kept_instances task) ≤ max_instances → length (numbered_atoms task more) ≤ max_atoms → exceeded_limit max_instances max_atoms task more ≡ None
  reported_none few small =
      ap (λ b. reported_at b (nat_lt max_atoms (length (numbered_atoms task more)))) (le-ltb max_instances (length (kept_instances task)) few)
      ∙ ap (reported_at false) (le-ltb max_atoms (length (numbered_atoms task more)) small)
