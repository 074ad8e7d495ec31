-- The worked examples are true.
use Rattle.std.specs.Prelude.{◌≡◌, ℕ, ◌+◌, Bool, true, false, ◌&&◌, cond, List, [], ◌∷◌, map, Some, None, refl}
use Rattle.std.proofs.Common.{◌∙◌, ap, arith}
use Rattle.std.specs.Option.{option_and_then}
use Rattle.std.specs.FinSet.{contains, len, from_list, len-insert, len-empty, contains-from_list}
use Rattle.model.specs.Task.{Union, Atom, LiftedAtom, Formula, and, Effect, by_number, Task, Instance}
use Rattle.model.specs.Runs.{System, run, Solves}
use Rattle.model.specs.Meaning.{State, atom_cmp, ground_atom, fits, step, changes_of, after_changes, system_of, Change}
use Rattle.model.specs.Examples.{formulas, go, go_task, tie, tie_task, move, walk_to, a_to_a, a_to_b, b_to_c, instance, ground, doer, doing, LeadsWith, priced, go_along, by_length, a_to_c, b_to_b, WorkedExamples}
use Rattle.model.proofs.Atoms.{atoms_total}
use Rattle.model.proofs.Steps.{holds_where, state_after, true_after, contains-state_after, holds-after, is_in, leads, leads_nowhere}

-- runs of one step, and of two
module _ {S A : Type 0} (t : System S A) where
  one : (s next : S) (a : A) → t.step s a ≡ Some next → run t s (a ∷ []) ≡ Some next
  one s next a e = ap (option_and_then (λ n. Some n)) e

  two : (s next last : S) (a b : A) → t.step s a ≡ Some next → t.step next b ≡ Some last → run t s (a ∷ b ∷ []) ≡ Some last
  two s next last a b e f = ap (option_and_then (λ n. run t n (b ∷ []))) e ∙ one next last b f

-- the number of atoms in a list, without repetitions
abbrev count : List Atom → ℕ
count [] = 0
count (a ∷ atoms) = cond (is_in a atoms) (count atoms) (count atoms + 1)

len-from_list : (atoms : List Atom) → len (from_list {R = atom_cmp} atoms) ≡ count atoms
len-from_list [] = len-empty atom_cmp
len-from_list (a ∷ atoms) =
    len-insert atoms_total (from_list atoms) a
    ∙ (λ i. cond (contains-from_list atoms_total atoms a i) (len-from_list atoms i) (len-from_list atoms i + 1))

-- ---- go

abbrev once : List (List Change)
once = changes_of go_task go.effect [] ∷ []

abbrev twice : List (List Change)
twice = changes_of go_task go.effect [] ∷ once

go_leads : (s : State) → step go_task s (instance 0 []) ≡ Some (after_changes go_task s (changes_of go_task go.effect []))
go_leads s = leads go_task s (instance 0 []) go refl refl refl

-- ---- walk

abbrev start : List Atom
start = (walk_to 0).init

abbrev at_a : List (List Change)
at_a = changes_of (walk_to 0) move.effect (0 ∷ 0 ∷ []) ∷ []

abbrev at_b : List (List Change)
at_b = changes_of (walk_to 0) move.effect (0 ∷ 1 ∷ []) ∷ []

abbrev at_c : List (List Change)
at_c = changes_of (walk_to 0) move.effect (1 ∷ 2 ∷ []) ∷ at_b

moves_a_to_a : (place : ℕ) → step (walk_to place) (state_after (walk_to 0) start []) a_to_a ≡ Some (state_after (walk_to 0) start at_a)
moves_a_to_a place =
    leads (walk_to place) (state_after (walk_to 0) start []) a_to_a move refl refl
    (λ i. contains-state_after (walk_to 0) start [] (ground 0 (0 ∷ [])) i && (contains-state_after (walk_to 0) start [] (ground 1 (0 ∷ 0 ∷ [])) i && true))

moves_a_to_b : (place : ℕ) → step (walk_to place) (state_after (walk_to 0) start []) a_to_b ≡ Some (state_after (walk_to 0) start at_b)
moves_a_to_b place =
    leads (walk_to place) (state_after (walk_to 0) start []) a_to_b move refl refl
    (λ i. contains-state_after (walk_to 0) start [] (ground 0 (0 ∷ [])) i && (contains-state_after (walk_to 0) start [] (ground 1 (0 ∷ 1 ∷ [])) i && true))

moves_b_to_c : (place : ℕ) → step (walk_to place) (state_after (walk_to 0) start at_b) b_to_c ≡ Some (state_after (walk_to 0) start at_c)
moves_b_to_c place =
    leads (walk_to place) (state_after (walk_to 0) start at_b) b_to_c move refl refl
    (λ i. contains-state_after (walk_to 0) start at_b (ground 0 (1 ∷ [])) i && (contains-state_after (walk_to 0) start at_b (ground 1 (1 ∷ 2 ∷ [])) i && true))

-- not at b initially, and not at a once at b
stays_at_a : (place : ℕ) → step (walk_to place) (state_after (walk_to 0) start []) b_to_c ≡ None
stays_at_a place =
    leads_nowhere (walk_to place) (state_after (walk_to 0) start []) b_to_c move refl refl
    (λ i. contains-state_after (walk_to 0) start [] (ground 0 (1 ∷ [])) i && (contains (state_after (walk_to 0) start []) (ground 1 (1 ∷ 2 ∷ [])) && true))

stays_at_b : (place : ℕ) → step (walk_to place) (state_after (walk_to 0) start at_b) a_to_b ≡ None
stays_at_b place =
    leads_nowhere (walk_to place) (state_after (walk_to 0) start at_b) a_to_b move refl refl
    (λ i. contains-state_after (walk_to 0) start at_b (ground 0 (0 ∷ [])) i && (contains (state_after (walk_to 0) start at_b) (ground 1 (0 ∷ 1 ∷ [])) && true))

-- ---- effects

-- the changes of a task's action with these objects
abbrev changes_by : Task → Effect → List ℕ → List (List Change)
changes_by t effect objects = changes_of t effect objects ∷ []

-- if this computes, the action leads to the goal
does : {parameters : List Union} {objects : List ℕ} {before : List LiftedAtom} {effect : Effect} {goals : List Formula}
    → fits (doing parameters effect before goals) (doer parameters effect) objects ≡ true
    → holds_where (doing parameters effect before goals) (true_after (doing parameters effect before goals) (map (ground_atom []) before) (changes_by (doing parameters effect before goals) effect objects)) (and (formulas goals)) [] ≡ true
    → LeadsWith parameters objects before effect goals
does {parameters} {objects} {before} {effect} {goals} fit holding =
    let t : Task = doing parameters effect before goals in
    let after = changes_by t effect objects in
    let leads_there = leads t (state_after t t.init []) (instance 0 objects) (doer parameters effect) refl fit refl in
    record {
      is_solved = (
        (
          state_after t t.init after,
          one (system_of t) (state_after t t.init []) (state_after t t.init after) (instance 0 objects) leads_there,
          holds-after t t.init after t.goal [] ∙ holding,
        ),
        refl,
      );
    }

-- ---- costs

abbrev once_of : Bool → List (List Change)
once_of has_metric = changes_of (priced has_metric) go.effect [] ∷ []

abbrev twice_of : Bool → List (List Change)
twice_of has_metric = changes_of (priced has_metric) go.effect [] ∷ once_of has_metric

-- each of the actions of the task with costs is applicable
goes : (has_metric : Bool) (s : State) → step (priced has_metric) s (instance 0 []) ≡ Some (after_changes (priced has_metric) s (changes_of (priced has_metric) go.effect []))
goes has_metric s = leads (priced has_metric) s (instance 0 []) (record go { increase = by_number 3 }) refl refl refl

goes_free : (has_metric : Bool) (s : State) → step (priced has_metric) s (instance 1 []) ≡ Some (after_changes (priced has_metric) s (changes_of (priced has_metric) go.effect []))
goes_free has_metric s = leads (priced has_metric) s (instance 1 []) go refl refl refl

-- so two of them lead to the goal
may_continue : (has_metric : Bool) (a b : Instance)
    → step (priced has_metric) (state_after (priced has_metric) go_task.init []) a ≡ Some (state_after (priced has_metric) go_task.init (once_of has_metric))
    → step (priced has_metric) (state_after (priced has_metric) go_task.init (once_of has_metric)) b ≡ Some (state_after (priced has_metric) go_task.init (twice_of has_metric))
    → Solves (system_of (priced has_metric)) (a ∷ b ∷ [])
may_continue has_metric a b first second =
    let t : Task = priced has_metric in (
      state_after t go_task.init (twice_of has_metric),
      two (system_of t) (state_after t go_task.init []) (state_after t go_task.init (once_of has_metric)) (state_after t go_task.init (twice_of has_metric)) a b first second,
      holds-after t go_task.init (twice_of has_metric) go_task.goal [],
    )

-- ---- values

abbrev go_to_b : Bool → List (List Change)
go_to_b has_metric = changes_of (by_length has_metric) go_along.effect (0 ∷ 1 ∷ []) ∷ []

abbrev go_to_c : Bool → List (List Change)
go_to_c has_metric = changes_of (by_length has_metric) go_along.effect (1 ∷ 2 ∷ []) ∷ go_to_b has_metric

-- the state after these changes
abbrev along : (has_metric : Bool) → List (List Change) → State
along has_metric changes = state_after (by_length has_metric) (by_length has_metric).init changes

goes_to_b : (has_metric : Bool) → step (by_length has_metric) (along has_metric []) a_to_b ≡ Some (along has_metric (go_to_b has_metric))
goes_to_b has_metric =
    leads (by_length has_metric) (along has_metric []) a_to_b go_along refl refl (contains-state_after (by_length has_metric) (by_length has_metric).init [] (ground 0 (0 ∷ [])))

goes_to_c : (has_metric : Bool) → step (by_length has_metric) (along has_metric (go_to_b has_metric)) b_to_c ≡ Some (along has_metric (go_to_c has_metric))
goes_to_c has_metric =
    leads (by_length has_metric) (along has_metric (go_to_b has_metric)) b_to_c go_along refl refl
    (contains-state_after (by_length has_metric) (by_length has_metric).init (go_to_b has_metric) (ground 0 (1 ∷ [])))

-- the only way to the goal
solves_along : (has_metric : Bool) → Solves (system_of (by_length has_metric)) (a_to_b ∷ b_to_c ∷ [])
solves_along has_metric = (
  along has_metric (go_to_c has_metric),
  two (system_of (by_length has_metric)) (along has_metric []) (along has_metric (go_to_b has_metric)) (along has_metric (go_to_c has_metric)) a_to_b b_to_c
      (goes_to_b has_metric) (goes_to_c has_metric),
  contains-state_after (by_length has_metric) (by_length has_metric).init (go_to_c has_metric) (ground 0 (2 ∷ [])),
)

-- ---- together

pub worked_examples : WorkedExamples
worked_examples = record {
  add_wins_over_delete = (
    (
      state_after go_task go_task.init once,
      one (system_of go_task) (state_after go_task go_task.init []) (state_after go_task go_task.init once) (instance 0 []) (go_leads (state_after go_task go_task.init [])),
      λ i. contains-state_after go_task go_task.init once (ground 0 []) i && (contains-state_after go_task go_task.init once (ground 1 []) i && true),
    ),
    refl,
  );
  add_wins_over_another_literal = (
    (
      state_after (walk_to 0) start at_a,
      one (system_of (walk_to 0)) (state_after (walk_to 0) start []) (state_after (walk_to 0) start at_a) a_to_a (moves_a_to_a 0),
      contains-state_after (walk_to 0) start at_a (ground 0 (0 ∷ [])),
    ),
    refl,
  );
  each_instance_costs = (
    (
      state_after go_task go_task.init twice,
      two (system_of go_task) (state_after go_task go_task.init []) (state_after go_task go_task.init once) (state_after go_task go_task.init twice) (instance 0 []) (instance 0 [])
          (go_leads (state_after go_task go_task.init [])) (go_leads (state_after go_task go_task.init once)),
      λ i. contains-state_after go_task go_task.init twice (ground 0 []) i && (contains-state_after go_task go_task.init twice (ground 1 []) i && true),
    ),
    refl,
  );
  one_object_for_two_parameters =
      let after = changes_of tie_task tie.effect (0 ∷ 0 ∷ []) ∷ [] in (
        (
          state_after tie_task tie_task.init after,
          one (system_of tie_task) (state_after tie_task tie_task.init []) (state_after tie_task tie_task.init after) (instance 0 (0 ∷ 0 ∷ []))
              (leads tie_task (state_after tie_task tie_task.init []) (instance 0 (0 ∷ 0 ∷ [])) tie refl refl (contains-state_after tie_task tie_task.init [] (ground 0 (0 ∷ 0 ∷ [])))),
          contains-state_after tie_task tie_task.init after (ground 1 []),
        ),
        refl,
      );
  one_object_is_an_instance = refl;
  too_few_objects = refl;
  unknown_object = refl;
  unknown_schema = refl;
  atom_twice_in_init = len-from_list start;
  first_step_not_applicable = record {
    counted_from_one = omega arith;
    before = state_after (walk_to 0) start [];
    next = b_to_c;
    runs = refl;
    found_there = refl;
    is_not_applicable = stays_at_a 2;
  };
  later_step_not_applicable = record {
    counted_from_one = omega arith;
    before = state_after (walk_to 0) start at_b;
    next = a_to_b;
    runs = one (system_of (walk_to 1)) (state_after (walk_to 0) start []) (state_after (walk_to 0) start at_b) a_to_b (moves_a_to_b 1);
    found_there = refl;
    is_not_applicable = stays_at_b 1;
  };
  empty_plan_solves = ((state_after (walk_to 0) start [], refl, contains-state_after (walk_to 0) start [] (ground 0 (0 ∷ []))), refl);
  empty_plan_misses = (
    state_after go_task go_task.init [],
    refl,
    λ i. contains-state_after go_task go_task.init [] (ground 0 []) i && (contains-state_after go_task go_task.init [] (ground 1 []) i && true),
  );
  goal_left_after = (
    state_after (walk_to 0) start at_c,
    two (system_of (walk_to 1)) (state_after (walk_to 0) start []) (state_after (walk_to 0) start at_b) (state_after (walk_to 0) start at_c) a_to_b b_to_c (moves_a_to_b 1) (moves_b_to_c 1),
    contains-state_after (walk_to 0) start at_c (ground 0 (1 ∷ [])),
  );
  two_steps = (
    (
      state_after (walk_to 0) start at_c,
      two (system_of (walk_to 2)) (state_after (walk_to 0) start []) (state_after (walk_to 0) start at_b) (state_after (walk_to 0) start at_c) a_to_b b_to_c (moves_a_to_b 2) (moves_b_to_c 2),
      contains-state_after (walk_to 0) start at_c (ground 0 (2 ∷ [])),
    ),
    refl,
  );
  objects_of_a_supertype = refl;
  objects_of_a_subtype = refl;
  objects_of_the_root = refl;
  objects_of_a_union = refl;
  one_object_of_two_types = refl;
  instances_by_type = refl;
  object_of_another_type = refl;
  subtype_fits = refl;
  supertype_does_not = refl;
  one_of_two_does_not = refl;
  under_one_condition = does refl refl;
  under_two_conditions = does refl refl;
  under_the_delete = does refl refl;
  under_the_add = does refl refl;
  under_none = does refl refl;
  add_under_a_condition = does refl refl;
  delete_without = does refl refl;
  delete_under_a_condition = does refl refl;
  made_false = does refl refl;
  made_true = does refl refl;
  for_each = does refl refl;
  for_none = does refl refl;
  for_one_and_another = does refl refl;
  for_another_and_one = does refl refl;
  over_one_another = does refl refl;
  each_is_seen = does refl refl;
  one_is_not = does refl refl;
  variables_around = does refl refl;
  one_in_another = does refl refl;
  its_changes = refl;
  in_its_effect = refl;
  after_its_effect = refl;
  sixteen_variables = refl;
  seventeen_variables = refl;
  changed_under_when = refl;
  read_in_a_condition = refl;
  with_an_increase = refl;
  without_an_increase = refl;
  an_increase_without_the_metric = refl;
  none_without_the_metric = refl;
  sum_of_costs = (may_continue true (instance 0 []) (instance 0 []) (goes true _) (goes true _), refl);
  sum_with_none = (may_continue true (instance 0 []) (instance 1 []) (goes true _) (goes_free true _), refl);
  count_of_steps = (may_continue false (instance 0 []) (instance 1 []) (goes false _) (goes_free false _), refl);
  by_its_objects = refl;
  by_their_order = refl;
  by_a_value_of_zero = refl;
  a_value_without_the_metric = refl;
  leads_with_a_value = goes_to_b;
  value_elsewhere = λ has_metric.
      leads_nowhere (by_length has_metric) (along has_metric []) b_to_c go_along refl refl (contains-state_after (by_length has_metric) (by_length has_metric).init [] (ground 0 (1 ∷ [])));
  instance_without_a_value = refl;
  nowhere_without_a_value = λ has_metric state. leads_nowhere (by_length has_metric) state a_to_c go_along refl refl refl;
  sum_of_values = (solves_along true, refl);
  count_of_steps_with_values = (solves_along false, refl);
  step_without_a_value = λ has_metric. record {
    counted_from_one = omega arith;
    before = along has_metric (go_to_b has_metric);
    next = b_to_b;
    runs = one (system_of (by_length has_metric)) (along has_metric []) (along has_metric (go_to_b has_metric)) a_to_b (goes_to_b has_metric);
    found_there = refl;
    is_not_applicable = leads_nowhere (by_length has_metric) (along has_metric (go_to_b has_metric)) b_to_b go_along refl refl refl;
  };
}
