-- The value that fair potentials give is a consistent estimate, whatever bits a state has, and what dead-fair ones report are
-- dead ends; and so whatever an instance is allowed, if that is no more than it costs, or nothing.
use Rattle.std.proofs.Common.{◌≡◌, ◌∙◌, ℕ, zero, suc, ◌<◌, ◌≤◌, inl, inr, Bool, true, false, List, [], ◌∷◌, length, get_or, sym, ap, subst, arith, ℤ, pos, negsuc, refl, ◌+ℤ◌, ◌≤ℤ◌, nat_le, All}
use Rattle.std.specs.Prelude.{IsTrue, if◌then◌else◌, slice_get}
use Rattle.std.specs.Option.{option_map, option_and_then}
use Rattle.std.specs.FinSet.{contains}
use Rattle.std.proofs.lemmas.Bool.{cases_lt}
use Rattle.std.proofs.lemmas.Int.{ints}
use Rattle.std.proofs.lemmas.List.{length-map, get_or-map, get_or_past}
use Rattle.std.proofs.lemmas.List.Elements.{All-contains}
use Rattle.std.proofs.lemmas.Option.{slice_get-get_or}
use Rattle.model.specs.Task.{Atom, Task, Instance}
use Rattle.model.specs.Meaning.{State, cost_of, step, meets_goal}
use Rattle.model.specs.Fluents.{is_fluent}
use Rattle.model.specs.StaticallyFalse.{kept_instances}
use Rattle.model.specs.NumberedAtoms.{occurs_in}
use Rattle.model.specs.Grounding.{state_of_bits, bits_of_state, ground_step, ground_system}
use Rattle.model.proofs.NumberingLemmas.{occurs_in-Contains}
use Rattle.model.proofs.PackedStates.{chosen-occurs_in, contains-fluent, contains-static, contains-numbered, packed-bits_of_state}
use Rattle.search.specs.Estimates.{IsConsistent, above_zero, value_by}
use Rattle.search.specs.DeadEnds.{DetectsDeadEnds}
use Rattle.lower_bounds.specs.PotentialFunctions.{PotentialFunction, weight, sum_below, given, score, or_zero, value, is_dead_by}
use Rattle.lower_bounds.specs.FairPotentials.{AreFairAt, AreFair, AreDeadFair, nothing}
use Rattle.lower_bounds.specs.PotentialLaws.{AreNumberable}
use Rattle.lower_bounds.proofs.Sums.{sum-alike, sum-least, sum-past, sum-zero}
use Rattle.lower_bounds.proofs.PotentialFalls.{or_zero-most}
use Rattle.lower_bounds.proofs.PotentialLowerBound.{are_lower_bounds, detect_dead_ends}
use Rattle.potentials.proofs.WordLemmas.{given-past}
use Rattle.potentials_improved.specs.Guides.{Guides}

same-value : (z : ℤ) → above_zero z ≡ or_zero z
same-value (pos n) = refl
same-value (negsuc n) = refl

-- what is fair at an allowance is so at a greater one
allowed_more : (task : Task) (atoms : List Atom) (p : PotentialFunction) (less more : Instance → ℕ) → ((i : Instance) → less i ≤ more i) → AreFairAt less task atoms p → AreFairAt more task atoms p
allowed_more task atoms p less more above fair = record {
  instances = λ k d below.
      let within = (fair.instances k d below).within in
      record { within = omega (arith, ints, within, above (get_or (kept_instances task) k d)) };
  goals = fair.goals;
}

module _ (task : Task) (atoms : List Atom) (numberable : AreNumberable task atoms) where
  numbered-fluent : (q : Atom) → occurs_in atoms q ≡ true → is_fluent task q.predicate ≡ true
  numbered-fluent q there = All-contains (λ (a : Atom). IsTrue (is_fluent task a.predicate)) atoms q numberable.fluent (occurs_in-Contains atoms q there)

  -- the bits of the state that the bits stand for: as many as there are atoms
  abbrev again : List Bool → List Bool
  again bits = bits_of_state atoms (state_of_bits task atoms bits)

  again-long : (bits : List Bool) → length (again bits) ≡ length atoms
  again-long bits = length-map atoms (contains (state_of_bits task atoms bits))

  again-state : (bits : List Bool) → state_of_bits task atoms (again bits) ≡ state_of_bits task atoms bits
  again-state bits =
      packed-bits_of_state (is_fluent task) task.init atoms numbered-fluent (state_of_bits task atoms bits)
      (λ q static. contains-static (is_fluent task) task.init atoms numbered-fluent bits q static)
      (λ q is there. chosen-occurs_in atoms bits q (sym (contains-fluent (is_fluent task) task.init atoms bits q is) ∙ there))

  again-bit : (bits : List Bool) (n : ℕ) → n < length atoms → get_or (again bits) n false ≡ get_or bits n false
  again-bit bits n below =
      let anything : Atom = record { predicate = 0; objects = [] } in
      let a = get_or atoms n anything in
      get_or-map (contains (state_of_bits task atoms bits)) atoms n anything false below
      ∙ contains-numbered (is_fluent task) task.init atoms numberable.distinct bits n a (numberable.fluent n anything below) (slice_get-get_or atoms n anything below)

  module _ (p : PotentialFunction) (width : length p.weights ≡ length atoms) where
    -- more bits than atoms give nothing, and less are as if they were false
    sum-as-many : (bits : List Bool) → sum_below (length bits) (given p.weights bits) ≡ sum_below (length atoms) (given p.weights bits)
    sum-as-many bits =
        elim (cases_lt (length bits) (length atoms)) [
          | inl fewer ↦ sym (given-past p.weights bits (length atoms) (omega arith))
          | inr more ↦ sum-past (length atoms) (length bits) (given p.weights bits) more
              (λ k past. ap (λ w. if get_or bits k false then w else pos 0) (get_or_past p.weights k (pos 0) (omega (arith, width))) ∙ nothing (get_or bits k false))
        ]
      where
        nothing : (b : Bool) → (if b then pos 0 else pos 0) ≡ pos 0
        nothing true = refl
        nothing false = refl

    again-score : (bits : List Bool) → score p (again bits) ≡ score p bits
    again-score bits =
        ap (λ z. p.constant +ℤ z)
        (ap (λ n. sum_below n (given p.weights (again bits))) (again-long bits)
        ∙ sum-alike (length atoms) (given p.weights (again bits)) (given p.weights bits) (λ k below. ap (λ b. if b then weight p.weights k else pos 0) (again-bit bits k below))
        ∙ sym (sum-as-many bits))

    again-value : (bits : List Bool) → value p (again bits) ≡ value_by (score p) bits
    again-value bits = ap or_zero (again-score bits) ∙ sym (same-value (score p bits))

    again-step : (bits : List Bool) (number : ℕ) → ground_step task atoms (again bits) number ≡ ground_step task atoms bits number
    again-step bits number =
        ap (λ (s : State). option_and_then (λ (i : Instance). option_map (bits_of_state atoms) (step task s i)) (slice_get (kept_instances task) number)) (again-state bits)

    fair_is_consistent : AreFair task atoms p → IsConsistent (ground_system task atoms) (value_by (score p))
    fair_is_consistent fair =
        let laws = (are_lower_bounds task atoms p numberable fair).ground_consistent in
        record {
          zero_at_goals = λ bits goal.
              sym (again-value bits) ∙ laws.ends (again bits) (again-long bits) (subst (λ (s : State). IsTrue (meets_goal task s)) (sym (again-state bits)) goal);
          falls_by_no_more = λ bits next number leads.
              let falls = laws.falls (again bits) next number (again-long bits) (again-step bits number ∙ leads) in
              let before = again-value bits in
              let after = same-value (score p next) in
              omega arith;
        }

    again-dead : (bits : List Bool) → is_dead_by p (again bits) ≡ is_dead_by p bits
    again-dead bits = ap (λ z. nat_le 1 (or_zero z)) (again-score bits)

    dead_fair_detects : AreDeadFair task atoms p → DetectsDeadEnds (ground_system task atoms) (is_dead_by p)
    dead_fair_detects fair =
        let laws = (detect_dead_ends task atoms p numberable fair).ground_stays in
        record {
          no_goal = λ bits reported.
              subst (λ (s : State). meets_goal task s ≡ false) (again-state bits) (laws.no_goal (again bits) (again-long bits) (again-dead bits ∙ reported));
          stays_dead = λ bits next number reported leads. laws.stays (again bits) next number (again-long bits) (again-dead bits ∙ reported) (again-step bits number ∙ leads);
        }

    pub fair_guides : (allowance : Instance → ℕ) → AreFairAt allowance task atoms p → Guides allowance task atoms p
    fair_guides allowance fair = record {
      estimate = λ most. fair_is_consistent (allowed_more task atoms p allowance (cost_of task) most fair);
      dead_ends = λ none. dead_fair_detects (allowed_more task atoms p allowance nothing none fair);
    }

-- where neither the constant nor a weight is above 0, no state is reported dead
pub none-reported : (p : PotentialFunction) → p.constant ≤ℤ pos 0 → All (λ w. w ≤ℤ pos 0) p.weights → (bits : List Bool) → is_dead_by p bits ≡ false
none-reported p constant weights bits =
    let sums = sum-least (length bits) (given p.weights bits) (λ k. pos 0) (λ k below. given-most (get_or bits k false) (weight p.weights k) (weight-most p.weights weights k)) in
    let none = sum-zero (length bits) in
    let most = or_zero-most (score p bits) 0 (omega (arith, ints)) in
    let is : value p bits ≡ 0 = omega arith in
    ap (nat_le 1) is
  where
    weight-most : (ws : List ℤ) → All (λ w. w ≤ℤ pos 0) ws → (n : ℕ) → weight ws n ≤ℤ pos 0
    weight-most [] all n = omega (arith, ints)
    weight-most (w ∷ ws) all zero = all 0 (pos 0) (omega arith)
    weight-most (w ∷ ws) all (suc n) = weight-most ws (λ k d below. all (suc k) d (omega arith)) n

    given-most : (bit : Bool) (w : ℤ) → w ≤ℤ pos 0 → (if bit then w else pos 0) ≤ℤ pos 0
    given-most true w most = most
    given-most false w most = omega (arith, ints)
