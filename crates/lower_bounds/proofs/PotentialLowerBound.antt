-- Fair potential functions are lower bounds, and dead-fair ones detect dead ends.
use Rattle.std.proofs.Common.{◌≡◌, ◌∙◌, ℕ, ◌+◌, ◌<◌, ◌≤◌, Bool, true, false, List, [], ◌∷◌, length, get_or, sum_by, None, Some, refl, sym, ap, subst, arith, ℤ, pos, ◌+ℤ◌, ◌≤ℤ◌}
use Rattle.std.specs.Prelude.{IsTrue, slice_get}
use Rattle.std.specs.Option.{option_map, option_map_or, option_and_then}
use Rattle.std.specs.FinSet.{contains}
use Rattle.std.proofs.lemmas.Bool.{false_from_ne_true, leb-true, le-leb}
use Rattle.std.proofs.lemmas.List.{length-map, get_or-map}
use Rattle.std.proofs.lemmas.List.Elements.{All-contains}
use Rattle.std.proofs.lemmas.List.Sums.{sum_by-cons}
use Rattle.std.proofs.lemmas.Option.{slice_get-get_or}
use Rattle.std.proofs.lemmas.Int.{ints}
use Rattle.model.specs.Task.{Atom, Task, Instance}
use Rattle.model.specs.Runs.{System, run}
use Rattle.model.specs.Meaning.{State, cost_of, step, meets_goal, system_of}
use Rattle.model.specs.Fluents.{is_fluent, HasInitialStatics}
use Rattle.model.specs.StaticallyFalse.{kept_instances}
use Rattle.model.specs.NumberedAtoms.{occurs_in}
use Rattle.model.specs.NumberedLiterals.{literals_of_instance, literals_of_goal, counting_of_instance}
use Rattle.model.specs.Grounding.{state_of_bits, bits_of_state, ground_step, ground_system}
use Rattle.model.proofs.NumberingLemmas.{occurs_in-Contains}
use Rattle.model.proofs.PackedStates.{contains-static, bits_of-packed_state}
use Rattle.model.proofs.Atoms.{atoms_total}
use Rattle.model.proofs.StaticallyFalseLemmas.{Contains-kept}
use Rattle.model.proofs.GroundTaskLemmas.{step-HasInitialStatics}
use Rattle.std.specs.FinSet.{contains-from_list}
use Rattle.lower_bounds.specs.PotentialFunctions.{PotentialFunction, score, value, value_of_state, is_dead_by}
use Rattle.lower_bounds.specs.FairPotentials.{is_pair, IsFairAt, AreFairAt, AreFair, nothing, AreDeadFair}
use Rattle.lower_bounds.specs.PotentialLaws.{AreNumberable, AreLowerBounds, FairOnesAreLowerBounds, DetectDeadEnds, DeadFairOnesDetectDeadEnds}
use Rattle.lower_bounds.proofs.PotentialFalls.{score-falls, score-ends, or_zero-most, value-falls, value-ends}
use Rattle.lower_bounds.proofs.PotentialSteps.{formula-says, step-is_pair, step-untouched}

-- ---- along any run

-- a value that falls by no more than each action's allowance, and is at most 0 in goal states, is at most the total allowance of
-- a list that leads to a goal
module _ {S A : Type 0} (t : System S A) (allowance : A → ℕ) (among : S → Type 0) (height : S → ℤ)
    (stays : (s next : S) (a : A) → among s → t.step s a ≡ Some next → among next)
    (falls : (s next : S) (a : A) → among s → t.step s a ≡ Some next → height s ≤ℤ (height next +ℤ pos (allowance a)))
    (ends : (s : S) → among s → IsTrue (t.meets_goal s) → height s ≤ℤ pos 0) where
  first_step : (s end : S) (a : A) (plan : List A) → run t s (a ∷ plan) ≡ Some end → (next : S) × (t.step s a ≡ Some next) × (run t next plan ≡ Some end)
  first_step s end a plan runs =
      elim (t.step s a) as (λ o. t.step s a ≡ o → option_and_then (λ n. run t n plan) o ≡ Some end → (next : S) × (t.step s a ≡ Some next) × (run t next plan ≡ Some end)) [
        | None ↦ λ _ none. absurd (cc)
        | Some next ↦ λ leads on. (next, leads, on)
      ] refl runs

  pub height-most : (plan : List A) (s end : S) → among s → run t s plan ≡ Some end → IsTrue (t.meets_goal end) → height s ≤ℤ pos (sum_by allowance plan)
  height-most [] s end here runs goal =
      let same : end ≡ s = cc in
      subst (λ e. IsTrue (t.meets_goal e) → height s ≤ℤ pos 0) (sym same) (ends s here) goal
  height-most (a ∷ plan) s end here runs goal =
      let first = first_step s end a plan runs in
      let now = falls s first.0 a here first.1 in
      let later = height-most plan first.0 end (stays s first.0 a here first.1) first.2 goal in
      omega (arith, ints, sum_by-cons allowance a plan)

-- ---- steps of the ground task

module _ (task : Task) (atoms : List Atom) where
  -- the successor in the ground task
  pub led : (bits next : List Bool) (number : ℕ) → ground_step task atoms bits number ≡ Some next
      → (i : Instance) × (state : State) × (slice_get (kept_instances task) number ≡ Some i) × (step task (state_of_bits task atoms bits) i ≡ Some state) × (bits_of_state atoms state ≡ next)
  led bits next number leads =
      elim (slice_get (kept_instances task) number) as (λ o. slice_get (kept_instances task) number ≡ o → option_and_then (λ (j : Instance). option_map (bits_of_state atoms) (step task (state_of_bits task atoms bits) j)) o ≡ Some next
      → (i : Instance) × (state : State) × (slice_get (kept_instances task) number ≡ Some i) × (step task (state_of_bits task atoms bits) i ≡ Some state) × (bits_of_state atoms state ≡ next)) [
        | None ↦ λ _ none. absurd (cc)
        | Some i ↦ λ named some.
            elim (step task (state_of_bits task atoms bits) i) as (λ o. step task (state_of_bits task atoms bits) i ≡ o → option_map (bits_of_state atoms) o ≡ Some next
            → (i : Instance) × (state : State) × (slice_get (kept_instances task) number ≡ Some i) × (step task (state_of_bits task atoms bits) i ≡ Some state) × (bits_of_state atoms state ≡ next)) [
              | None ↦ λ _ none. absurd (cc)
              | Some state ↦ λ here is. (i, state, named, here, cc)
            ] refl some
      ] refl leads

-- ---- states of a task

module _ (allowance : Instance → ℕ) (task : Task) (atoms : List Atom) (p : PotentialFunction) (numberable : AreNumberable task atoms) (fair : AreFairAt allowance task atoms p) where
  abbrev bits_of : State → List Bool
  bits_of s = bits_of_state atoms s

  abbrev atom_at : ℕ → Atom
  atom_at n = get_or atoms n (record { predicate = 0; objects = [] })

  at : (n : ℕ) → n < length atoms → slice_get atoms n ≡ Some (atom_at n)
  at n below = slice_get-get_or atoms n (record { predicate = 0; objects = [] }) below

  bit-is : (s : State) (n : ℕ) → n < length atoms → get_or (bits_of s) n false ≡ contains s (atom_at n)
  bit-is s n below = get_or-map (contains s) atoms n (record { predicate = 0; objects = [] }) false below

  long : (s : State) → length (bits_of s) ≡ length atoms
  long s = length-map atoms (contains s)

  pub state-falls : (s next : State) (i : Instance) → HasInitialStatics task s → step task s i ≡ Some next → score p (bits_of s) ≤ℤ (score p (bits_of next) +ℤ pos (allowance i))
  state-falls s next i statics leads =
      let kept = All-contains (λ (j : Instance). IsFairAt (allowance j) task atoms p.weights j) (kept_instances task) i fair.instances (Contains-kept task s next i statics leads) in
      let most = score-falls p (bits_of s) (bits_of next) (literals_of_instance task atoms i) (counting_of_instance task atoms i) (length atoms) (long s) (long next)
      (λ n below. subst (λ b. is_pair_of i n b (get_or (bits_of next) n false)) (sym (bit-is s n below)) (subst (λ b. is_pair_of i n (contains s (atom_at n)) b) (sym (bit-is next n below))
      (step-is_pair atoms numberable.distinct n (atom_at n) (at n below) task s next i statics leads)))
      (λ n below none. bit-is s n below ∙ step-untouched atoms numberable.distinct n (atom_at n) (at n below) task s next i statics leads none ∙ sym (bit-is next n below)) in
      let within = kept.within in
      omega (arith, ints)
    where
      is_pair_of : Instance → ℕ → Bool → Bool → Type 0
      is_pair_of j n before after = is_pair (literals_of_instance task atoms j) (counting_of_instance task atoms j) n (record { before = before; after = after }) ≡ true

  pub state-ends : (s : State) → IsTrue (meets_goal task s) → score p (bits_of s) ≤ℤ pos 0
  state-ends s goal =
      let most = score-ends p (bits_of s) (literals_of_goal task atoms) (length atoms) (long s)
      (λ n value below said. bit-is s n below ∙ formula-says atoms numberable.distinct n (atom_at n) (at n below) task s task.goal [] value goal said) in
      let within = fair.goals.within in
      omega (arith, ints)

  -- the value is at most the total allowance of the instances of a list that leads to a goal
  state_bound : (s end : State) (plan : List Instance) → HasInitialStatics task s → run (system_of task) s plan ≡ Some end → IsTrue (meets_goal task end)
      → value p (bits_of s) ≤ sum_by allowance plan
  state_bound s end plan statics runs goal =
      or_zero-most (score p (bits_of s)) (sum_by allowance plan)
      (height-most (system_of task) allowance (HasInitialStatics task) (λ t. score p (bits_of t)) (λ t next i here leads. step-HasInitialStatics task t next i here leads)
      state-falls (λ t here met. state-ends t met) plan s end statics runs goal)

  state_value_falls : (s next : State) (i : Instance) → HasInitialStatics task s → step task s i ≡ Some next → value p (bits_of s) ≤ value p (bits_of next) + allowance i
  state_value_falls s next i statics leads = value-falls p (bits_of s) (bits_of next) (allowance i) (state-falls s next i statics leads)

  state_value_ends : (s : State) → HasInitialStatics task s → IsTrue (meets_goal task s) → value p (bits_of s) ≡ 0
  state_value_ends s statics goal = value-ends p (bits_of s) (state-ends s goal)

  -- ---- packed states

  numbered-fluent : (q : Atom) → occurs_in atoms q ≡ true → is_fluent task q.predicate ≡ true
  numbered-fluent q there = All-contains (λ (a : Atom). IsTrue (is_fluent task a.predicate)) atoms q numberable.fluent (occurs_in-Contains atoms q there)

  packed-statics : (bits : List Bool) → HasInitialStatics task (state_of_bits task atoms bits)
  packed-statics bits q static = contains-static (is_fluent task) task.init atoms numbered-fluent bits q static ∙ sym (contains-from_list atoms_total task.init q)

  -- a packed state has the bits of the state that it represents
  packed-bits : (bits : List Bool) → length bits ≡ length atoms → bits_of (state_of_bits task atoms bits) ≡ bits
  packed-bits bits as_long = bits_of-packed_state (is_fluent task) task.init atoms numbered-fluent numberable.distinct bits as_long

  abbrev is_packed : List Bool → Type 0
  is_packed bits = length bits ≡ length atoms

  -- the allowance of the instance with a number
  abbrev allowed : ℕ → ℕ
  allowed number = option_map_or allowance (slice_get (kept_instances task) number) 0

  ground-falls : (bits next : List Bool) (number : ℕ) → is_packed bits → ground_step task atoms bits number ≡ Some next → score p bits ≤ℤ (score p next +ℤ pos (allowed number))
  ground-falls bits next number as_long leads =
      let there = led task atoms bits next number leads in
      let allows : allowed number ≡ allowance there.0 = ap (λ o. option_map_or allowance o 0) there.2 in
      let falls = state-falls (state_of_bits task atoms bits) there.1 there.0 (packed-statics bits) there.3 in
      let before : score p (bits_of (state_of_bits task atoms bits)) ≡ score p bits = ap (score p) (packed-bits bits as_long) in
      let after : score p (bits_of there.1) ≡ score p next = ap (score p) there.4 in
      let falls_so : score p bits ≤ℤ (score p (bits_of there.1) +ℤ pos (allowance there.0)) = subst (λ z. z ≤ℤ (score p (bits_of there.1) +ℤ pos (allowance there.0))) before falls in
      let falls_to : score p bits ≤ℤ (score p next +ℤ pos (allowance there.0)) = subst (λ z. score p bits ≤ℤ (z +ℤ pos (allowance there.0))) after falls_so in
      subst (λ c. score p bits ≤ℤ (score p next +ℤ pos c)) (sym allows) falls_to

  ground-ends : (bits : List Bool) → is_packed bits → IsTrue ((ground_system task atoms).meets_goal bits) → score p bits ≤ℤ pos 0
  ground-ends bits as_long goal = subst (λ l. score p l ≤ℤ pos 0) (packed-bits bits as_long) (state-ends (state_of_bits task atoms bits) goal)

  ground-stays : (bits next : List Bool) (number : ℕ) → is_packed bits → ground_step task atoms bits number ≡ Some next → is_packed next
  ground-stays bits next number as_long leads = let there = led task atoms bits next number leads in sym (ap length there.4) ∙ long there.1

  ground_bound : (bits end : List Bool) (plan : List ℕ) → is_packed bits → run (ground_system task atoms) bits plan ≡ Some end → IsTrue ((ground_system task atoms).meets_goal end)
      → value p bits ≤ sum_by allowed plan
  ground_bound bits end plan as_long runs goal =
      or_zero-most (score p bits) (sum_by allowed plan)
      (height-most (ground_system task atoms) allowed is_packed (score p) ground-stays ground-falls ground-ends plan bits end as_long runs goal)

  ground_value_falls : (bits next : List Bool) (number : ℕ) → is_packed bits → ground_step task atoms bits number ≡ Some next → value p bits ≤ value p next + allowed number
  ground_value_falls bits next number as_long leads = value-falls p bits next (allowed number) (ground-falls bits next number as_long leads)

  ground_value_ends : (bits : List Bool) → is_packed bits → IsTrue ((ground_system task atoms).meets_goal bits) → value p bits ≡ 0
  ground_value_ends bits as_long goal = value-ends p bits (ground-ends bits as_long goal)

-- ---- the allowance is the cost

pub are_lower_bounds : (task : Task) (atoms : List Atom) (p : PotentialFunction) → AreNumberable task atoms → AreFair task atoms p → AreLowerBounds task atoms p
are_lower_bounds task atoms p numberable fair = record {
  bound = state_bound (cost_of task) task atoms p numberable fair;
  consistent = record {
    falls = state_value_falls (cost_of task) task atoms p numberable fair;
    ends = state_value_ends (cost_of task) task atoms p numberable fair;
  };
  ground_bound = ground_bound (cost_of task) task atoms p numberable fair;
  ground_consistent = record {
    falls = ground_value_falls (cost_of task) task atoms p numberable fair;
    ends = ground_value_ends (cost_of task) task atoms p numberable fair;
  };
}

pub fair_ones_are_lower_bounds : FairOnesAreLowerBounds
fair_ones_are_lower_bounds = are_lower_bounds

-- ---- the allowance is 0

pub sum-nothing : {A : Type 0} (f : A → ℕ) → ((a : A) → f a ≡ 0) → (plan : List A) → sum_by f plan ≡ 0
sum-nothing f each [] = refl
sum-nothing f each (a ∷ plan) =
    let first = each a in
    let rest = sum-nothing f each plan in
    omega (arith, sum_by-cons f a plan)

pub nothing-allowed : (task : Task) (number : ℕ) → option_map_or nothing (slice_get (kept_instances task) number) 0 ≡ 0
nothing-allowed task number =
    elim (slice_get (kept_instances task) number) as (λ o. option_map_or nothing o 0 ≡ 0) [
      | None ↦ refl
      | Some i ↦ refl
    ]

module _ (task : Task) (atoms : List Atom) (p : PotentialFunction) (numberable : AreNumberable task atoms) (fair : AreDeadFair task atoms p) where
  -- what happens only at value 0 does not happen where a dead end is reported
  never-where : (bits : List Bool) (b : Bool) → IsTrue (is_dead_by p bits) → (b ≡ true → value p bits ≤ 0) → b ≡ false
  never-where bits b dead none_left =
      false_from_ne_true b (λ is. let none = none_left is in let some = leb-true 1 (value p bits) dead in absurd (omega arith))

  state-never_falls : (s next : State) (i : Instance) → HasInitialStatics task s → step task s i ≡ Some next → value_of_state atoms p s ≤ value_of_state atoms p next
  state-never_falls s next i statics leads = let falls = state_value_falls nothing task atoms p numberable fair s next i statics leads in omega arith

  ground-never_falls : (bits next : List Bool) (number : ℕ) → length bits ≡ length atoms → ground_step task atoms bits number ≡ Some next → value p bits ≤ value p next
  ground-never_falls bits next number as_long leads =
      let falls = ground_value_falls nothing task atoms p numberable fair bits next number as_long leads in
      let none = nothing-allowed task number in
      omega arith

  ground-no_goal : (bits : List Bool) → length bits ≡ length atoms → IsTrue (is_dead_by p bits) → (ground_system task atoms).meets_goal bits ≡ false
  ground-no_goal bits as_long dead =
      never-where bits ((ground_system task atoms).meets_goal bits) dead
      (λ goal. let zero = ground_value_ends nothing task atoms p numberable fair bits as_long goal in omega arith)

  pub detect_dead_ends : DetectDeadEnds task atoms p
  detect_dead_ends = record {
    dead_ends = λ s end plan statics dead runs. never-where (bits_of_state atoms s) (meets_goal task end) dead (λ goal.
        let most = state_bound nothing task atoms p numberable fair s end plan statics runs goal in
        let none = sum-nothing nothing (λ i. refl) plan in
        omega arith);
    consistent = record {
      never_falls = state-never_falls;
      ends = state_value_ends nothing task atoms p numberable fair;
    };
    ground_dead_ends = λ bits end plan as_long dead runs. never-where bits ((ground_system task atoms).meets_goal end) dead (λ goal.
        let most = ground_bound nothing task atoms p numberable fair bits end plan as_long runs goal in
        let none = sum-nothing (λ number. option_map_or nothing (slice_get (kept_instances task) number) 0) (nothing-allowed task) plan in
        omega arith);
    ground_consistent = record {
      never_falls = ground-never_falls;
      ends = ground_value_ends nothing task atoms p numberable fair;
    };
    ground_stays = record {
      stays = λ bits next number as_long dead leads.
          let most = ground-never_falls bits next number as_long leads in
          let some = leb-true 1 (value p bits) dead in
          le-leb 1 (value p next) (omega arith);
      no_goal = ground-no_goal;
    };
  }

pub dead_fair_ones_detect_dead_ends : DeadFairOnesDetectDeadEnds
dead_fair_ones_detect_dead_ends = detect_dead_ends
