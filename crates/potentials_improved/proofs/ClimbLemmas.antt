-- Steps to better potentials.
use Rattle.std.proofs.Common.{◌≡◌, ◌∙◌, ℕ, zero, suc, ◌+◌, ◌<◌, ◌≤◌, inl, inr, Bool, true, false, true≢false, ◌||◌, List, [], ◌∷◌, get_or, set, length, length-set, refl, sym, ap, subst, arith, ℤ, pos, negsuc, ◌+ℤ◌, neg_ℤ, ◌≤ℤ◌, ◌<ℤ◌}
use Rattle.std.specs.Prelude.{if◌then◌else◌, All}
use Rattle.std.specs.Int.{int_max}
use Rattle.std.proofs.lemmas.Bool.{cases_eq}
use Rattle.std.proofs.lemmas.List.{length-map}
use Rattle.std.proofs.lemmas.Int.{ints, clamps}
use Rattle.std.specs.FinSet.{contains}
use Rattle.model.specs.Task.{Atom, Task, Instance}
use Rattle.model.specs.Meaning.{initial_state}
use Rattle.model.specs.NumberedLiterals.{NumberedLiteral, literals_of_goal}
use Rattle.model.specs.Grounding.{ground_system}
use Rattle.lower_bounds.specs.PotentialFunctions.{PotentialFunction, weight, given, score, or_zero, IsInRange}
use Rattle.lower_bounds.specs.FairPotentials.{says, goal_gives, goal_gives_at_most, AreFairAt}
use Rattle.lower_bounds.specs.Settled.{initial_value, IsSettledAt, IsImprovedAt}
use Rattle.lower_bounds.proofs.Sums.{sum-range}
use Rattle.lower_bounds.proofs.Ranges.{zero-range, weight-range, given-range}
use Rattle.lower_bounds.proofs.Settling.{weight-here, gives-set, given-set, potentials, IsNoneBetter, IsTried, settled}
use Rattle.potentials.specs.declared.said.Said.{Said}
use Rattle.potentials.specs.declared.goals.GoalAtoms.{GoalAtoms}
use Rattle.potentials.specs.Said.{IsSaid}
use Rattle.potentials.specs.Goals.{AreSaid}
use Rattle.potentials.specs.Potentials.{potentials_of}
use Rattle.potentials.proofs.GoalLemmas.{gives-is}
use Rattle.potentials.specs.Fairness.{AreInstancesFairAt}
use Rattle.potentials_improved.specs.declared.climb.Climb.{Climb}
use Rattle.potentials_improved.specs.declared.climb.Next.{Next}
use Rattle.potentials_improved.specs.Climb.{worth, IsClimb, IsNext, IsWeightTried, IsAtomTried, IsPass}

or_zero-rises : (x y : ℤ) → x ≤ℤ y → or_zero x ≤ or_zero y
or_zero-rises (pos m) (pos n) le = omega (arith, ints)
or_zero-rises (pos m) (negsuc n) le = absurd (omega (arith, ints))
or_zero-rises (negsuc m) y le = omega arith

-- a weight that is changed and changed back
set-back : (weights : List ℤ) (n : ℕ) (w : ℤ) → set (set weights n w) n (weight weights n) ≡ weights
set-back [] n w = refl
set-back (v ∷ weights) zero w = refl
set-back (v ∷ weights) (suc n) w = ap (λ l. v ∷ l) (set-back weights n w)

pub back-again : (p q r : PotentialFunction) (n : ℕ) (w v : ℤ) → v ≡ weight p.weights n → q ≡ potentials p.constant (set p.weights n w) → r ≡ potentials q.constant (set q.weights n v) → r ≡ p
back-again p q r n w v weighs there back =
    back
    ∙ ap (λ (x : PotentialFunction). potentials x.constant (set x.weights n v)) there
    ∙ ap (λ z. potentials p.constant (set (set p.weights n w) n z)) weighs
    ∙ ap (potentials p.constant) (set-back p.weights n w)

pub set-long : (p q : PotentialFunction) (n : ℕ) (w k : ℤ) → q ≡ potentials k (set p.weights n w) → length q.weights ≡ length p.weights
set-long p q n w k is = ap (λ (x : PotentialFunction). length x.weights) is ∙ length-set {A = ℤ} p.weights n w

module _ (allowance : Instance → ℕ) (task : Task) (atoms : List Atom) where
  abbrev initial : List Bool
  initial = (ground_system task atoms).initial

  abbrev goal : List NumberedLiteral
  goal = literals_of_goal task atoms

  pub initial-long : length initial ≡ length atoms
  initial-long = length-map atoms (contains (initial_state task))

  -- what the code computes of the goal
  pub goal-given : (p : PotentialFunction) (weights : List ℤ) (g : GoalAtoms) (given : ℤ) → weights ≡ p.weights → length p.weights ≡ length atoms → AreSaid goal (length atoms) g
      → ((literals : List NumberedLiteral) → AreSaid literals (length weights) g → given ≡ goal_gives_at_most (length weights) weights literals) → given ≡ goal_gives_at_most (length atoms) p.weights goal
  goal-given p weights g given same width said gives =
      let long : length weights ≡ length atoms = ap length same ∙ width in
      gives goal (subst (λ n. AreSaid goal n g) (sym long) said)
      ∙ ap (λ n. goal_gives_at_most n weights goal) long
      ∙ ap (λ (w : List ℤ). goal_gives_at_most (length atoms) w goal) same

  -- ---- sums with one weight changed

  -- of the goal
  pub goal-moved : (weights : List ℤ) (n : ℕ) (w s old v before after : ℤ) (said is : Said) → n < length atoms → length weights ≡ length atoms
      → s ≡ goal_gives_at_most (length atoms) weights goal
      → said ≡ is → IsSaid goal n is → old ≡ weight weights n → v ≡ w
      → before ≡ (if said.is_false then pos 0 else if said.is_true then old else int_max (pos 0) old)
      → after ≡ (if said.is_false then pos 0 else if said.is_true then v else int_max (pos 0) v)
      → ((s +ℤ neg_ℤ before) +ℤ after) ≡ goal_gives_at_most (length atoms) (set weights n w) goal
  goal-moved weights n w s old v before after said is within width sums same_said are weighs same gives_before gives_after =
      let here : w ≡ weight (set weights n w) n = sym (weight-here weights n w (omega (arith, width))) in
      let all : IsSaid goal n said = subst (IsSaid goal n) (sym same_said) are in
      let e0 = gives-is goal weights n said old old before all weighs refl gives_before in
      let e1 = gives-is goal (set weights n w) n said w v after all here same gives_after in
      let moved = gives-set (length atoms) weights n w goal within (sym width) in
      omega (arith, ints)

  -- and of the initial state
  pub score-moved : (p : PotentialFunction) (n : ℕ) (w k s c kk old v before after : ℤ) (bits : List Bool) → n < length atoms → length p.weights ≡ length atoms
      → s ≡ score p initial → c ≡ p.constant → kk ≡ k
      → bits ≡ initial → old ≡ weight p.weights n → v ≡ w
      → before ≡ (if get_or bits n false then old else pos 0) → after ≡ (if get_or bits n false then v else pos 0)
      → ((((s +ℤ neg_ℤ c) +ℤ kk) +ℤ neg_ℤ before) +ℤ after) ≡ score (potentials k (set p.weights n w)) initial
  score-moved p n w k s c kk old v before after bits within width sums constant kept are weighs same gives_before gives_after =
      let here : w ≡ weight (set p.weights n w) n = sym (weight-here p.weights n w (omega (arith, width))) in
      let as_reported = λ (x y : ℤ) (xy : x ≡ y). (ap (λ l. if get_or l n false then x else pos 0) are ∙ ap (λ z. if get_or initial n false then z else pos 0) xy) in
      let e0 : before ≡ given p.weights initial n = gives_before ∙ as_reported old (weight p.weights n) weighs in
      let e1 : after ≡ given (set p.weights n w) initial n = gives_after ∙ as_reported v (weight (set p.weights n w) n) (same ∙ here) in
      let long = initial-long in
      let moved = given-set (length initial) p.weights n w initial (omega arith) (omega (arith, width)) in
      omega (arith, ints)

  -- ---- none better

  pub none-too_high : (p : PotentialFunction) (weights : List ℤ) → pos 2147483647 <ℤ goal_gives_at_most (length atoms) weights goal → IsNoneBetter allowance task atoms p weights
  none-too_high p weights high = record {
    none = λ k fits fair.
        let least = fits.least in
        let within = fair.goals.within in
        absurd (omega (arith, ints));
  }

  -- the greatest constant decides for all
  pub none-above : (p : PotentialFunction) (weights : List ℤ) (constant goal_sum : ℤ) → goal_sum ≡ goal_gives_at_most (length atoms) weights goal
      → ((k : ℤ) → IsInRange k → (k +ℤ goal_sum) ≤ℤ pos 0 → k ≤ℤ constant) → or_zero (score (potentials constant weights) initial) ≤ initial_value task atoms p → IsNoneBetter allowance task atoms p weights
  none-above p weights constant goal_sum is greatest least = record {
    none = λ k fits fair.
        let within = fair.goals.within in
        let below = greatest k fits (omega (arith, ints)) in
        let first = or_zero-rises (score (potentials k weights) initial) (score (potentials constant weights) initial) (omega (arith, ints)) in
        omega arith;
  }

  -- ---- the first

  module _ (c : Climb) (p : PotentialFunction) (constant sum : ℤ) (fair : AreFairAt allowance task atoms p) (sums : sum ≡ goal_gives_at_most (length atoms) p.weights goal)
      (greatest : (k : ℤ) → IsInRange k → (k +ℤ sum) ≤ℤ pos 0 → k ≤ℤ constant) (same : potentials_of c.potentials ≡ potentials constant p.weights) where
    pub climb-made : length p.weights ≡ length atoms → (constant +ℤ sum) ≤ℤ pos 0 → c.goal ≡ sum → c.score ≡ score (potentials_of c.potentials) initial → IsClimb allowance task atoms c
    climb-made width meets goals scores = record {
      width = ap (λ (q : PotentialFunction). length q.weights) same ∙ width;
      fair = subst (AreFairAt allowance task atoms) (sym same) (record { instances = fair.instances; goals = record { within = subst (λ z. (constant +ℤ z) ≤ℤ pos 0) sums meets } });
      goal = goals ∙ sums ∙ ap (λ (q : PotentialFunction). goal_gives_at_most (length atoms) q.weights goal) (sym same);
      score = scores;
      greatest = λ k fits within. subst (λ z. k ≤ℤ z) (sym (ap (λ (q : PotentialFunction). q.constant) same)) (greatest k fits (subst (λ z. (k +ℤ z) ≤ℤ pos 0) goals within));
    }

  -- the greatest constant makes them no worse
  pub climb-no_lower : (p q : PotentialFunction) (constant sum : ℤ) → AreFairAt allowance task atoms p → sum ≡ goal_gives_at_most (length atoms) p.weights goal
      → ((k : ℤ) → IsInRange k → (k +ℤ sum) ≤ℤ pos 0 → k ≤ℤ constant) → q ≡ potentials constant p.weights → IsInRange p.constant → initial_value task atoms p ≤ initial_value task atoms q
  climb-no_lower p q constant sum fair sums greatest same fits =
      let within = fair.goals.within in
      let below = greatest p.constant fits (omega (arith, ints)) in
      let first = or_zero-rises (score p initial) (score (potentials constant p.weights) initial) (omega (arith, ints)) in
      subst (λ x. initial_value task atoms p ≤ initial_value task atoms x) (sym same) first

  -- ---- tries

  module _ (old : Climb) where
    abbrev p : PotentialFunction
    p = potentials_of old.potentials

    -- kept as they were
    pub tried-kept : (new : Climb) (n : ℕ) (w : ℤ) → IsClimb allowance task atoms old → potentials_of new.potentials ≡ p → new.goal ≡ old.goal → new.score ≡ old.score
        → (IsInRange w → IsNoneBetter allowance task atoms p (set old.potentials.weights.items n w)) → IsWeightTried allowance task atoms old new n w false
    tried-kept new n w is same goals scores none = record {
      climb = record {
        width = ap (λ (q : PotentialFunction). length q.weights) same ∙ is.width;
        fair = subst (AreFairAt allowance task atoms) (sym same) is.fair;
        goal = goals ∙ is.goal ∙ ap (λ (q : PotentialFunction). goal_gives_at_most (length atoms) q.weights goal) (sym same);
        score = scores ∙ is.score ∙ ap (λ (q : PotentialFunction). score q initial) (sym same);
        greatest = λ k fits within. subst (λ z. k ≤ℤ z) (sym (ap (λ (q : PotentialFunction). q.constant) same)) (is.greatest k fits (subst (λ z. (k +ℤ z) ≤ℤ pos 0) goals within));
      };
      better = λ e. absurd (true≢false (sym e));
      same = λ e. same;
      none = λ e. none;
    }

    -- changed for the better
    pub tried-raised : (new : Climb) (next : Next) (n : ℕ) (w : ℤ) → IsClimb allowance task atoms old → IsNext task atoms old n w next
        → AreInstancesFairAt allowance task atoms (potentials p.constant (set old.potentials.weights.items n w))
        → potentials_of new.potentials ≡ potentials next.constant (set old.potentials.weights.items n w) → new.goal ≡ next.goal → new.score ≡ next.score
        → IsWeightTried allowance task atoms old new n w true
    tried-raised new next n w is gives fair same goals scores =
        let ws = set old.potentials.weights.items n w in
        let meets = gives.meets in
        let better = gives.better in
        let worth_is : worth task atoms new ≡ or_zero next.score = ap (λ (q : PotentialFunction). or_zero (score q initial)) same ∙ ap or_zero (sym gives.score) in
        let long = length-set {A = ℤ} old.potentials.weights.items n w in
        record {
          climb = record {
            width = ap (λ (q : PotentialFunction). length q.weights) same ∙ long ∙ is.width;
            fair = subst (AreFairAt allowance task atoms) (sym same) (record { instances = fair; goals = record { within = subst (λ z. (next.constant +ℤ z) ≤ℤ pos 0) gives.goal meets } });
            goal = goals ∙ gives.goal ∙ ap (λ (q : PotentialFunction). goal_gives_at_most (length atoms) q.weights goal) (sym same);
            score = scores ∙ gives.score ∙ ap (λ (q : PotentialFunction). score q initial) (sym same);
            greatest = λ k fits within. subst (λ z. k ≤ℤ z) (sym (ap (λ (q : PotentialFunction). q.constant) same)) (gives.greatest k fits (subst (λ z. (k +ℤ z) ≤ℤ pos 0) goals within));
          };
          better = λ e. subst (λ z. worth task atoms old < z) (sym worth_is) better;
          same = λ e. absurd (true≢false e);
          none = λ e. absurd (true≢false e);
        }

  -- one less, and then one more
  pub atom-first : (old new : Climb) (n : ℕ) (w : ℤ) → IsWeightTried allowance task atoms old new n w true → IsAtomTried allowance task atoms old new n true
  atom-first old new n w tried = record { climb = tried.climb; better = tried.better; same = λ e. absurd (true≢false e); tried = λ e. absurd (true≢false e) }

  pub atom-second : (old mid new : Climb) (n : ℕ) (v w x : ℤ) (raised : Bool) → x ≡ weight old.potentials.weights.items n → v ≡ (x +ℤ neg_ℤ (pos 1)) → w ≡ (x +ℤ pos 1)
      → IsWeightTried allowance task atoms old mid n v false → IsWeightTried allowance task atoms mid new n w raised → IsAtomTried allowance task atoms old new n raised
  atom-second old mid new n v w x raised weighs less more first second =
      let same = first.same refl in
      let weights : mid.potentials.weights.items ≡ old.potentials.weights.items = ap (λ (q : PotentialFunction). q.weights) same in
      let worths : worth task atoms mid ≡ worth task atoms old = ap (initial_value task atoms) same in
      record {
        climb = second.climb;
        better = λ e. let b = second.better e in omega arith;
        same = λ e. second.same e ∙ same;
        tried = λ e. record {
          less = λ fits. subst (λ z. IsNoneBetter allowance task atoms (potentials_of old.potentials) (set old.potentials.weights.items n z)) (less ∙ ap (λ z. z +ℤ neg_ℤ (pos 1)) weighs)
              (first.none refl (subst IsInRange (sym (less ∙ ap (λ z. z +ℤ neg_ℤ (pos 1)) weighs)) fits));
          more = λ fits. subst (λ z. IsNoneBetter allowance task atoms (potentials_of old.potentials) (set old.potentials.weights.items n z)) (more ∙ ap (λ z. z +ℤ pos 1) weighs)
              (subst (λ l. IsNoneBetter allowance task atoms (potentials_of old.potentials) (set l n w)) weights
              (subst (λ q. IsNoneBetter allowance task atoms q (set mid.potentials.weights.items n w)) same
              (second.none e (subst IsInRange (sym (more ∙ ap (λ z. z +ℤ pos 1) weighs)) fits))));
        };
      }

  -- ---- passes

  pub pass-none : (c : Climb) → IsClimb allowance task atoms c → IsPass allowance task atoms 0 c c false
  pass-none c is = record { climb = is; better = λ e. absurd (true≢false (sym e)); same = λ e. refl; tried = λ e k below. absurd (omega arith) }

  pub pass-step : (n : ℕ) (old mid new : Climb) (raised better : Bool) → IsPass allowance task atoms n old mid raised → IsAtomTried allowance task atoms mid new n better → IsPass allowance task atoms (n + 1) old new (raised || better)
  pass-step n old mid new true true so tried =
      let a = so.better refl in let b = tried.better refl in
      record { climb = tried.climb; better = λ e. omega arith; same = λ e. absurd (true≢false e); tried = λ e. absurd (true≢false e) }
  pass-step n old mid new true false so tried =
      let a = so.better refl in let b : worth task atoms new ≡ worth task atoms mid = ap (initial_value task atoms) (tried.same refl) in
      record { climb = tried.climb; better = λ e. omega arith; same = λ e. absurd (true≢false e); tried = λ e. absurd (true≢false e) }
  pass-step n old mid new false true so tried =
      let a : worth task atoms mid ≡ worth task atoms old = ap (initial_value task atoms) (so.same refl) in let b = tried.better refl in
      record { climb = tried.climb; better = λ e. omega arith; same = λ e. absurd (true≢false e); tried = λ e. absurd (true≢false e) }
  pass-step n old mid new false false so tried =
      let same = so.same refl in
      record {
        climb = tried.climb;
        better = λ e. absurd (true≢false (sym e));
        same = λ e. tried.same refl ∙ same;
        tried = λ e k below. elim (cases_eq k n) [
          | inl is ↦ subst (IsTried allowance task atoms (potentials_of old.potentials)) (sym is) (subst (λ q. IsTried allowance task atoms q n) same (tried.tried refl))
          | inr other ↦ so.tried refl k (omega arith)
        ];
      }

  -- a pass that raises nothing leaves them settled
  pub pass-settled : (old new : Climb) → IsClimb allowance task atoms old → IsPass allowance task atoms (length atoms) old new false → IsSettledAt allowance task atoms (potentials_of new.potentials)
  pass-settled old new is pass =
      let p = potentials_of old.potentials in
      subst (IsSettledAt allowance task atoms) (sym (pass.same refl))
      (settled allowance task atoms p
      (none-above p p.weights p.constant old.goal is.goal is.greatest (omega arith))
      (λ n below. pass.tried refl n (omega (arith, is.width))))

  -- one that raises them does so by one at least
  pub pass-gained : (gained : ℕ) (p : PotentialFunction) (old new : Climb) → initial_value task atoms p + gained ≤ worth task atoms old → IsPass allowance task atoms (length atoms) old new true
      → initial_value task atoms p + (gained + 1) ≤ worth task atoms new
  pass-gained gained p old new so pass = let better = pass.better refl in omega arith

  pub improved-settled : (rounds gained : ℕ) (p : PotentialFunction) (old new : Climb) → length p.weights ≡ length atoms → initial_value task atoms p + gained ≤ worth task atoms old → IsClimb allowance task atoms old
      → IsPass allowance task atoms (length atoms) old new false → IsImprovedAt allowance task atoms rounds p (potentials_of new.potentials)
  improved-settled rounds gained p old new width so is pass =
      let same : worth task atoms new ≡ worth task atoms old = ap (initial_value task atoms) (pass.same refl) in
      record { fair = pass.climb.fair; as_many = pass.climb.width ∙ sym width; no_lower = omega arith; end = inl (pass-settled old new is pass) }

  pub improved-rounds : (rounds gained : ℕ) (p : PotentialFunction) (c : Climb) → length p.weights ≡ length atoms → rounds ≤ gained → initial_value task atoms p + gained ≤ worth task atoms c → IsClimb allowance task atoms c
      → IsImprovedAt allowance task atoms rounds p (potentials_of c.potentials)
  improved-rounds rounds gained p c width done so is =
      record { fair = is.fair; as_many = is.width ∙ sym width; no_lower = omega arith; end = inr (omega arith) }

  -- ---- sums in range

  gives-range : (weights : List ℤ) (literals : List NumberedLiteral) (n : ℕ) → All IsInRange weights → IsInRange (goal_gives literals weights n)
  gives-range weights literals n all = of_bits (says literals n false) (says literals n true) (weight weights n) (weight-range weights n all)
    where
      of_bits : (fails holds : Bool) (w : ℤ) → IsInRange w → IsInRange (if fails then pos 0 else if holds then w else int_max (pos 0) w)
      of_bits true holds w is = zero-range
      of_bits false true w is = is
      of_bits false false w is = let l = is.least in let m = is.most in record { least = omega (arith, ints, clamps); most = omega (arith, ints, clamps) }

  pub goal-range : (c : Climb) → IsClimb allowance task atoms c → length atoms ≤ 1048576 → (neg_ℤ (pos 2251799812636672) ≤ℤ c.goal) × (c.goal ≤ℤ pos 2251799812636672)
  goal-range c is few =
      let sums = sum-range (length atoms) (goal_gives goal c.potentials.weights.items) (λ n _. gives-range c.potentials.weights.items goal n c.potentials.weights_in_range) in
      let low = sums.0 in
      let high = sums.1 in
      let e = is.goal in
      (omega (arith, ints), omega (arith, ints))

  pub score-range : (c : Climb) → IsClimb allowance task atoms c → length atoms ≤ 1048576 → (neg_ℤ (pos 2251801960120319) ≤ℤ c.score) × (c.score ≤ℤ pos 2251801960120319)
  score-range c is few =
      let sums = sum-range (length initial) (given c.potentials.weights.items initial) (λ n _. given-range c.potentials.weights.items initial n c.potentials.weights_in_range) in
      let low = sums.0 in
      let high = sums.1 in
      let long = initial-long in
      let e = is.score in
      let constant = c.potentials.constant_in_range in
      let least = constant.least in
      let most = constant.most in
      (omega (arith, ints), omega (arith, ints))

  -- ---- the next one

  module _ (c : Climb) (n : ℕ) (w sum constant s : ℤ) (x y : ℕ) where
    abbrev changed : List ℤ
    changed = set c.potentials.weights.items n w

    pub next-none : IsClimb allowance task atoms c → sum ≡ goal_gives_at_most (length atoms) changed goal → ((k : ℤ) → IsInRange k → (k +ℤ sum) ≤ℤ pos 0 → k ≤ℤ constant)
        → s ≡ score (potentials constant changed) initial → x ≡ or_zero s → y ≡ or_zero c.score → x ≤ y → IsNoneBetter allowance task atoms (potentials_of c.potentials) changed
    next-none is sums greatest scores here there least =
        let now : x ≡ or_zero (score (potentials constant changed) initial) = here ∙ ap or_zero scores in
        let before : y ≡ worth task atoms c = there ∙ ap or_zero is.score in
        none-above (potentials_of c.potentials) changed constant sum sums greatest (omega arith)

    pub next-some : (next : Next) → IsClimb allowance task atoms c → sum ≡ goal_gives_at_most (length atoms) changed goal → IsInRange constant → (constant +ℤ sum) ≤ℤ pos 0
        → ((k : ℤ) → IsInRange k → (k +ℤ sum) ≤ℤ pos 0 → k ≤ℤ constant) → s ≡ score (potentials constant changed) initial → x ≡ or_zero s → y ≡ or_zero c.score → y < x
        → next.constant ≡ constant → next.goal ≡ sum → next.score ≡ s → IsNext task atoms c n w next
    next-some next is sums fits meets greatest scores here there more constants goals totals =
        let before : y ≡ worth task atoms c = there ∙ ap or_zero is.score in
        let now : x ≡ or_zero next.score = here ∙ ap or_zero (sym totals) in
        record {
          goal = goals ∙ sums;
          score = totals ∙ scores ∙ ap (λ k. score (potentials k changed) initial) (sym constants);
          range = subst IsInRange (sym constants) fits;
          meets = omega (arith, ints);
          greatest = λ k in_range within. subst (λ z. k ≤ℤ z) (sym constants) (greatest k in_range (subst (λ z. (k +ℤ z) ≤ℤ pos 0) goals within));
          better = omega arith;
        }
