-- Fair values of every kind are bounds: at the costs they are lower bounds, and at the allowance 0 they detect dead ends.
use Rattle.std.proofs.Common.{◌≡◌, ◌∙◌, ℕ, zero, suc, ◌+◌, ◌≤◌, max, Contains, map, ◌||◌, inl, inr, Bool, true, false, true≢false, not, List, [], ◌∷◌, length, sum_by, Some, refl, sym, ap, subst, arith, pos}
use Rattle.std.specs.Prelude.{IsTrue, nat_le, slice_get, if◌then◌else◌, All}
use Rattle.std.specs.Ordering.{eq_by_cmp}
use Rattle.std.specs.Option.{option_map_or}
use Rattle.std.specs.FinSet.{items, contains-items, contains-from_list}
use Rattle.std.proofs.lemmas.Bool.{false_from_ne_true, leb-true, le-leb}
use Rattle.std.proofs.lemmas.Int.{ints}
use Rattle.std.proofs.lemmas.List.Elements.{All-contains}
use Rattle.model.specs.Task.{Atom, Task, Instance}
use Rattle.model.specs.Runs.{run}
use Rattle.model.specs.Meaning.{State, atom_cmp, cost_of, step, meets_goal, system_of}
use Rattle.model.specs.Fluents.{is_fluent, HasInitialStatics}
use Rattle.model.specs.StaticallyFalse.{kept_instances}
use Rattle.model.specs.NumberedAtoms.{occurs_in, HasNumberedFluents}
use Rattle.model.specs.Grounding.{state_of_bits, bits_of_state, ground_step, ground_system}
use Rattle.model.proofs.Atoms.{atoms_total}
use Rattle.model.proofs.StaticLemmas.{same_atom}
use Rattle.model.proofs.NumberingLemmas.{same_itself}
use Rattle.model.proofs.PackedStates.{contains-static, contains-fluent, chosen-occurs_in}
use Rattle.model.proofs.StaticallyFalseLemmas.{Contains-kept}
use Rattle.model.proofs.GroundTaskLemmas.{step-HasInitialStatics, step-touched}
use Rattle.lower_bounds.specs.PotentialFunctions.{PotentialFunction}
use Rattle.lower_bounds.specs.FairPotentials.{nothing}
use Rattle.lower_bounds.specs.PotentialLaws.{AreNumberable}
use Rattle.model.proofs.ListLemmas.{Contains-here, Contains-there, Contains-none, Contains-cases}
use Rattle.lower_bounds.proofs.PotentialLowerBound.{height-most, led, sum-nothing, nothing-allowed}
use Rattle.lower_bounds.proofs.Passing.{all-any}
use Rattle.lower_bounds.proofs.Repacked.{numbered-fluent}
use Rattle.lower_bounds.specs.TableFunctions.{Table, TableFunction, value, greatest_value, over_tables, functions_of, dead_ends_of, has_numbered_fluents, in_state}
use Rattle.lower_bounds.specs.FairTables.{IsFair}
use Rattle.lower_bounds.specs.TableLaws.{AreAllNumbered, are_over, IsOver, IsOfAtoms, IsFairValueAt, greatest_of, FairnessIsEnough, AreLowerBounds, AreDeadEnds, FairOnesAreLowerBounds, GreatestOfFairOnesIsLowerBound, DeadFairOnesReportDeadEnds, FairValuesAreSound}
use Rattle.lower_bounds.proofs.TableLists.{all-from, any-at}
use Rattle.lower_bounds.proofs.FairValues.{tables_are_fair_values}

-- ---- numbered fluent atoms

module _ (task : Task) (atoms : List Atom) where
  abbrev passes : Atom → Bool
  passes a = not (is_fluent task a.predicate) || occurs_in atoms a

  pub has-numbered : (s : State) → has_numbered_fluents task atoms s ≡ true → HasNumberedFluents task atoms s
  has-numbered s all q fluent there =
      let it = all-any passes (eq_by_cmp atom_cmp q) (items s) all (sym (contains-items s q) ∙ there) in
      let same = same_atom q it.0 it.2 in
      numbered (is_fluent task q.predicate) fluent (subst (λ a. passes a ≡ true) (sym same) it.1)
    where
      numbered : (b : Bool) → b ≡ true → (not b || occurs_in atoms q) ≡ true → occurs_in atoms q ≡ true
      numbered true e is = is
      numbered false e is = absurd (true≢false (sym e))

  pub numbered-has : (s : State) → HasNumberedFluents task atoms s → has_numbered_fluents task atoms s ≡ true
  numbered-has s numbered =
      all-from passes (items s) (λ a at.
      let there = contains-items s a ∙ any-at (eq_by_cmp atom_cmp a) (items s) a at (same_itself a) in
      elim (is_fluent task a.predicate) as (λ b. is_fluent task a.predicate ≡ b → (not b || occurs_in atoms a) ≡ true) [
        | true ↦ λ fluent. numbered a fluent there
        | false ↦ λ _. refl
      ] refl)

-- ---- along any run

module _ (allowance : Instance → ℕ) (task : Task) (atoms : List Atom) (numbered : AreAllNumbered task atoms) (value : List Bool → ℕ) (fair : IsFairValueAt allowance task atoms value) where
  -- if the fluent atoms are numbered, they are numbered after a step
  stays : (s next : State) (i : Instance) → IsOfAtoms task atoms s → step task s i ≡ Some next → HasNumberedFluents task atoms next
  stays s next i here leads q is has = elim (step-touched task s next i q here.statics leads has) [
    | inl before ↦ here.numbered q is before
    | inr after ↦ numbered.touched i q (Contains-kept task s next i here.statics leads) after
  ]

  pub state-falls : (s next : State) (i : Instance) → HasInitialStatics task s → step task s i ≡ Some next → in_state task atoms value s ≤ in_state task atoms value next + allowance i
  state-falls s next i statics leads =
      elim (has_numbered_fluents task atoms s) as (λ b. has_numbered_fluents task atoms s ≡ b → (if b then value (bits_of_state atoms s) else 0) ≤ in_state task atoms value next + allowance i) [
        | true ↦ λ has.
            let here : IsOfAtoms task atoms s = record { statics = statics; numbered = has-numbered task atoms s has } in
            let after : in_state task atoms value next ≡ value (bits_of_state atoms next) =
            ap (λ b. if b then value (bits_of_state atoms next) else 0) (numbered-has task atoms next (stays s next i here leads)) in
            let falls = fair.falls s next i here leads in
            omega arith
        | false ↦ λ _. omega arith
      ] refl

  pub state-ends : (s : State) → HasInitialStatics task s → meets_goal task s ≡ true → in_state task atoms value s ≡ 0
  state-ends s statics goal =
      elim (has_numbered_fluents task atoms s) as (λ b. (if b then value (bits_of_state atoms s) else 0) ≡ 0) [
        | true ↦ fair.ends s goal
        | false ↦ refl
      ]

  pub state-bound : (s end : State) (plan : List Instance) → HasInitialStatics task s → run (system_of task) s plan ≡ Some end → IsTrue (meets_goal task end)
      → in_state task atoms value s ≤ sum_by allowance plan
  state-bound s end plan statics runs goal =
      let most = height-most (system_of task) allowance (HasInitialStatics task) (λ t. pos (in_state task atoms value t)) (λ t next i here leads. step-HasInitialStatics task t next i here leads)
      (λ t next i here leads. let falls = state-falls t next i here leads in omega (arith, ints))
      (λ t here met. let none = state-ends t here met in omega (arith, ints)) plan s end statics runs goal in
      omega (arith, ints)

  -- ---- packed states

  packed : (bits : List Bool) → IsOfAtoms task atoms (state_of_bits task atoms bits)
  packed bits = record {
    statics = λ q static. contains-static (is_fluent task) task.init atoms (numbered-fluent task atoms numbered.numberable) bits q static ∙ sym (contains-from_list atoms_total task.init q);
    numbered = λ q is has. chosen-occurs_in atoms bits q (sym (contains-fluent (is_fluent task) task.init atoms bits q is) ∙ has);
  }

  -- the allowance of the instance with a number
  abbrev allowed : ℕ → ℕ
  allowed number = option_map_or allowance (slice_get (kept_instances task) number) 0

  pub ground-falls : (bits next : List Bool) (number : ℕ) → ground_step task atoms bits number ≡ Some next → value bits ≤ allowed number + value next
  ground-falls bits next number leads =
      let there = led task atoms bits next number leads in
      let allows : allowed number ≡ allowance there.0 = ap (λ o. option_map_or allowance o 0) there.2 in
      let falls = fair.falls (state_of_bits task atoms bits) there.1 there.0 (packed bits) there.3 in
      let before = fair.by_numbered bits in
      let after : value (bits_of_state atoms there.1) ≡ value next = ap value there.4 in
      omega arith

  pub ground-ends : (bits : List Bool) → IsTrue ((ground_system task atoms).meets_goal bits) → value bits ≡ 0
  ground-ends bits goal = sym (fair.by_numbered bits) ∙ fair.ends (state_of_bits task atoms bits) goal

  pub ground-bound : (bits end : List Bool) (plan : List ℕ) → run (ground_system task atoms) bits plan ≡ Some end → IsTrue ((ground_system task atoms).meets_goal end)
      → value bits ≤ sum_by allowed plan
  ground-bound bits end plan runs goal =
      let most = height-most (ground_system task atoms) allowed (λ b. b ≡ b) (λ b. pos (value b)) (λ b next number here leads. refl)
      (λ b next number here leads. let falls = ground-falls b next number leads in omega (arith, ints))
      (λ b here met. let none = ground-ends b met in omega (arith, ints)) plan bits end refl runs goal in
      omega (arith, ints)

-- ---- the allowance is the cost

pub are_lower_bounds : (task : Task) (atoms : List Atom) → AreAllNumbered task atoms → (value : List Bool → ℕ) → IsFairValueAt (cost_of task) task atoms value → AreLowerBounds task atoms value
are_lower_bounds task atoms numbered value fair = record {
  bound = state-bound (cost_of task) task atoms numbered value fair;
  consistent = record {
    falls = state-falls (cost_of task) task atoms numbered value fair;
    ends = state-ends (cost_of task) task atoms numbered value fair;
  };
  ground_bound = ground-bound (cost_of task) task atoms numbered value fair;
  ground_consistent = record {
    zero_at_goals = ground-ends (cost_of task) task atoms numbered value fair;
    falls_by_no_more = ground-falls (cost_of task) task atoms numbered value fair;
  };
}

-- ---- the allowance is 0

-- what happens only at 0 does not happen at 1 or more
never-where : (n : ℕ) (b : Bool) → IsTrue (nat_le 1 n) → (b ≡ true → n ≤ 0) → b ≡ false
never-where n b some none_left = false_from_ne_true b (λ is. let none = none_left is in let least = leb-true 1 n some in absurd (omega arith))

pub are_dead_ends : (task : Task) (atoms : List Atom) → AreAllNumbered task atoms → (value : List Bool → ℕ) → IsFairValueAt nothing task atoms value → AreDeadEnds task atoms value
are_dead_ends task atoms numbered value fair = record {
  no_plan = λ s end plan statics dead runs. never-where (in_state task atoms value s) (meets_goal task end) dead (λ goal.
      let most = state-bound nothing task atoms numbered value fair s end plan statics runs goal in
      let none = sum-nothing nothing (λ i. refl) plan in
      omega arith);
  stays = record {
    stays = λ s next i statics dead leads.
        let falls = state-falls nothing task atoms numbered value fair s next i statics leads in
        let some = leb-true 1 (in_state task atoms value s) dead in
        le-leb 1 (in_state task atoms value next) (omega arith);
    no_goal = λ s statics dead. never-where (in_state task atoms value s) (meets_goal task s) dead (λ goal.
        let none = state-ends nothing task atoms numbered value fair s statics goal in
        omega arith);
  };
  no_ground_plan = λ bits end plan dead runs. never-where (value bits) ((ground_system task atoms).meets_goal end) dead (λ goal.
      let most = ground-bound nothing task atoms numbered value fair bits end plan runs goal in
      let none = sum-nothing (λ number. option_map_or nothing (slice_get (kept_instances task) number) 0) (nothing-allowed task) plan in
      omega arith);
  ground_stays = record {
    no_goal = λ bits dead. never-where (value bits) ((ground_system task atoms).meets_goal bits) dead (λ goal.
        let none = ground-ends nothing task atoms numbered value fair bits goal in
        omega arith);
    stays_dead = λ bits next number dead leads.
        let falls = ground-falls nothing task atoms numbered value fair bits next number leads in
        let none = nothing-allowed task number in
        let some = leb-true 1 (value bits) dead in
        le-leb 1 (value next) (omega arith);
  };
}

-- ---- the maximum of several

greatest-fair : (allowance : Instance → ℕ) (task : Task) (atoms : List Atom) (values : List (List Bool → ℕ))
    → ((value : List Bool → ℕ) → Contains values value → IsFairValueAt allowance task atoms value) → IsFairValueAt allowance task atoms (greatest_of values)
greatest-fair allowance task atoms [] each = record { falls = λ s next i here leads. omega arith; ends = λ s goal. refl; by_numbered = λ bits. refl }
greatest-fair allowance task atoms (value ∷ others) each =
    let first = each value (Contains-here value others) in
    let rest = greatest-fair allowance task atoms others (λ v at. each v (Contains-there value others v at)) in
    record {
      falls = λ s next i here leads. let one = first.falls s next i here leads in let other = rest.falls s next i here leads in omega arith;
      ends = λ s goal. (λ i. max (first.ends s goal i) (rest.ends s goal i));
      by_numbered = λ bits. (λ i. max (first.by_numbered bits i) (rest.by_numbered bits i));
    }

each-less : (values : List (List Bool → ℕ)) (value : List Bool → ℕ) (bits : List Bool) → Contains values value → value bits ≤ greatest_of values bits
each-less [] value bits at = absurd (Contains-none value at)
each-less (first ∷ others) value bits at = elim (Contains-cases first others value at) [
  | inl is ↦ let same : first bits ≡ value bits = ap (λ (v : List Bool → ℕ). v bits) is in omega arith
  | inr later ↦ let rest = each-less others value bits later in omega arith
]

pub fairness_is_enough : FairnessIsEnough
fairness_is_enough task atoms numbered = record {
  at_an_allowance = λ allowance value fair. state-bound allowance task atoms numbered value fair;
  at_costs = are_lower_bounds task atoms numbered;
  at_nothing = are_dead_ends task atoms numbered;
  greatest = λ allowance. greatest-fair allowance task atoms;
  each_is_less = each-less;
}

-- ---- fair table functions

pub fair_ones_are_lower_bounds : FairOnesAreLowerBounds
fair_ones_are_lower_bounds task atoms h numbered over fair =
    are_lower_bounds task atoms numbered (value h) (tables_are_fair_values (cost_of task) task atoms h numbered.numberable over fair)

greatest-is : (functions : List TableFunction) (bits : List Bool) → greatest_of (map value functions) bits ≡ greatest_value functions bits
greatest-is [] bits = refl
greatest-is (h ∷ others) bits = ap (max (value h bits)) (greatest-is others bits)

all-fair : (task : Task) (atoms : List Atom) (functions : List TableFunction) → AreNumberable task atoms
    → ((h : TableFunction) → Contains functions h → IsOver (length atoms) h × IsFair task atoms h)
    → (v : List Bool → ℕ) → Contains (map value functions) v → IsFairValueAt (cost_of task) task atoms v
all-fair task atoms [] numberable each v at = absurd (Contains-none v at)
all-fair task atoms (h ∷ others) numberable each v at = elim (Contains-cases (value h) (map value others) v at) [
  | inl is ↦
      let here = each h (Contains-here h others) in
      subst (IsFairValueAt (cost_of task) task atoms) is (tables_are_fair_values (cost_of task) task atoms h numberable here.0 here.1)
  | inr later ↦ all-fair task atoms others numberable (λ g there. each g (Contains-there h others g there)) v later
]

pub greatest_is_lower_bound : GreatestOfFairOnesIsLowerBound
greatest_is_lower_bound task atoms functions numbered over fair =
    subst (AreLowerBounds task atoms) (λ i bits. greatest-is functions bits i)
    (are_lower_bounds task atoms numbered (greatest_of (map value functions)) (greatest-fair (cost_of task) task atoms (map value functions) (all-fair task atoms functions numbered.numberable (λ h at.
    (All-contains (IsOver (length atoms)) functions h over at, All-contains (IsFair task atoms) functions h fair at)))))

pub dead_fair_ones_report_dead_ends : DeadFairOnesReportDeadEnds
dead_fair_ones_report_dead_ends task atoms h numbered over fair =
    are_dead_ends task atoms numbered (value h) (tables_are_fair_values nothing task atoms h numbered.numberable over fair)

-- ---- several values

over-each : (count : ℕ) (tables : List Table) → IsTrue (are_over count tables) → (values : List PotentialFunction) (place : ℕ) → All (λ (p : PotentialFunction). length p.weights ≤ count) values
    → All (IsOver count) (over_tables tables place values)
over-each count tables scopes [] place each k d below = absurd (omega arith)
over-each count tables scopes (p ∷ values) place each zero d below = record { weights = each 0 p (omega arith); scopes = scopes }
over-each count tables scopes (p ∷ values) place each (suc k) d below = over-each count tables scopes values (suc place) (λ j e less. each (suc j) e (omega arith)) k d (omega arith)

pub fair_values_are_sound : FairValuesAreSound
fair_values_are_sound task atoms s numbered over fair = record {
  lower_bounds = greatest_is_lower_bound task atoms (functions_of s) numbered (over-each (length atoms) s.tables over.scopes s.values 0 over.values) fair.values;
  dead_ends = dead_fair_ones_report_dead_ends task atoms (dead_ends_of s) numbered (record { weights = over.dead_ends; scopes = over.scopes }) fair.dead_ends;
}
