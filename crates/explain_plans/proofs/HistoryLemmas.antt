-- Histories, one state after another.
use Rattle.std.specs.Prelude.{◌≡◌, ℕ, ◌+◌, ◌-◌, ◌<◌, ◌≤◌, Bool, true, false, if◌then◌else◌, List, length, map, take, get_or, slice_get, Some, All, refl}
use Rattle.std.proofs.Common.{sym, ◌∙◌, ap, subst, inl, inr, arith}
use Rattle.std.proofs.lemmas.Bool.{cases_eq}
use Rattle.std.proofs.lemmas.List.{length-map, take_all}
use Rattle.std.proofs.lemmas.List.Elements.{All-get_or}
use Rattle.std.proofs.lemmas.Option.{get_or_from_slice_get, slice_get_within}
use Rattle.formulas.specs.declared.instance.Instance as code
use Rattle.formulas.specs.State.{instance_of}
use Rattle.explain_plans.specs.declared.false_parts.Part as part
use Rattle.explain_plans.specs.declared.histories.History as history
use Rattle.explain_plans.specs.declared.histories.History.TheVariants.{Always}
use Rattle.explain_plans.specs.FalseParts.{Part, part_holds}
use Rattle.explain_plans.specs.Histories.{History, always, by_step, IsAfter, IsHistory}
use Rattle.explain_plans.specs.Parts.{AreHistories, IsFalseIn, Looked, part_of, history_of}
use Rattle.model.specs.Task.{Task, Instance}
use Rattle.model.specs.Meaning.{State, initial_state, system_of}
use Rattle.model.specs.Runs.{run}

module _ (task : Task) (steps : List Instance) where
  -- the step made the part false, as far as the first n states show
  pub record IsMadeFalseBefore (part : Part) (n step : ℕ) : Type 0 where
    pub counted_from_one : 1 ≤ step
    pub is_there : step ≤ n
    pub before : IsAfter task steps part (step - 1) true
    pub since : (k : ℕ) → step ≤ k → k < n → IsAfter task steps part k false

  -- the history as far as the first n states show
  abbrev pub IsHistoryBefore : Part → ℕ → History → Type 0
  IsHistoryBefore part n always = (k : ℕ) → k < n → IsAfter task steps part k false
  IsHistoryBefore part n (by_step step) = IsMadeFalseBefore part n step

  pub before_all : (part : Part) → IsHistoryBefore part 0 always
  before_all part k below = absurd (omega (arith, below))

  -- one more state in which the part is false
  still_false : (part : Part) (n : ℕ) → IsAfter task steps part n false → (from : ℕ → Type 0)
      → ((k : ℕ) → from k → k < n → IsAfter task steps part k false)
      → (k : ℕ) → from k → k < n + 1 → IsAfter task steps part k false
  still_false part n now from so_far k above below =
      elim (cases_eq k n) [
        | inl same ↦ subst (λ m. IsAfter task steps part m false) (sym same) now
        | inr other ↦ so_far k above (omega (arith, below, other))
      ]

  -- one more state
  pub after_one : (part : Part) (n : ℕ) (h : History) (b : Bool) → IsAfter task steps part n b → IsHistoryBefore part n h
      → IsHistoryBefore part (n + 1) (if b then by_step (n + 1) else h)
  after_one part n h true now so_far =
      let same : n ≡ (n + 1) - 1 = omega arith in
      record {
        counted_from_one = omega arith;
        is_there = omega arith;
        before = subst (λ m. IsAfter task steps part m true) same now;
        since = λ k above below. absurd (omega (arith, above, below));
      }
  after_one part n always false now so_far = λ k below. still_false part n now (λ m. 0 ≤ m) (λ m above lt. so_far m lt) k (omega arith) below
  after_one part n (by_step step) false now so_far = record {
    counted_from_one = so_far.counted_from_one;
    is_there = let there = so_far.is_there in omega (arith, there);
    before = so_far.before;
    since = still_false part n now (λ m. step ≤ m) so_far.since;
  }

  -- and all states
  pub history_whole : (part : Part) (h : History) → IsAfter task steps part (length steps) false → IsHistoryBefore part (length steps) h → IsHistory task steps part h
  history_whole part always now so_far = λ k within. still_false part (length steps) now (λ m. 0 ≤ m) (λ m above lt. so_far m lt) k (omega arith) (omega (arith, within))
  history_whole part (by_step step) now so_far = record {
    counted_from_one = so_far.counted_from_one;
    is_there = so_far.is_there;
    before = so_far.before;
    since = λ k above within. still_false part (length steps) now (λ m. step ≤ m) so_far.since k above (omega (arith, within));
  }

  -- the same for each part at its index
  abbrev pub AreHistoriesBefore : ℕ → List part.Part → List history.History → Type 0
  AreHistoriesBefore n parts histories =
      (number : ℕ) (one : part.Part) → slice_get parts number ≡ Some one → IsHistoryBefore (part_of one) n (history_of (get_or histories number Always))

  -- after one more state
  pub histories_more : (n : ℕ) (parts : List part.Part) (old new : List history.History) (state : State)
      → run (system_of task) (initial_state task) (take n steps) ≡ Some state → Looked task state (n + 1) parts old new
      → AreHistoriesBefore n parts old → AreHistoriesBefore (n + 1) parts new
  histories_more n parts old new state runs looked so_far number one here =
      subst (IsHistoryBefore (part_of one) (n + 1)) (sym (looked number one here))
      (after_one (part_of one) n (history_of (get_or old number Always)) (part_holds task state (part_of one)) (state, runs, refl) (so_far number one here))

  -- after the last state
  pub histories_whole : (n m : ℕ) (parts : List part.Part) (histories : List history.History) → n ≡ length steps → m ≡ length steps
      → ((number : ℕ) (one : part.Part) → slice_get parts number ≡ Some one → IsAfter task steps (part_of one) m false)
      → AreHistoriesBefore n parts histories → AreHistories task steps parts histories
  histories_whole n m parts histories same also are_false so_far number one here =
      history_whole (part_of one) (history_of (get_or histories number Always)) (subst (λ k. IsAfter task steps (part_of one) k false) also (are_false number one here))
      (subst (λ k. IsHistoryBefore (part_of one) k (history_of (get_or histories number Always))) same (so_far number one here))

-- ---- one state: the parts one after another

-- exactly the first i parts are updated
pub record IsLookedSoFar (task : Task) (state : State) (step : ℕ) (parts : List part.Part) (i : ℕ) (old new : List history.History) : Type 0 where
  pub counts : length new ≡ length old
  pub done : (number : ℕ) (one : part.Part) → number < i → slice_get parts number ≡ Some one
      → history_of (get_or new number Always)
      ≡ (if part_holds task state (part_of one) then by_step step else history_of (get_or old number Always))
  pub left : (number : ℕ) → i ≤ number → get_or new number Always ≡ get_or old number Always

-- ---- what is false after the steps

pub false_after : (t : Task) (steps : List code.Instance) (state : State) → run (system_of t) (initial_state t) (map instance_of steps) ≡ Some state
    → (items parts : List part.Part) → items ≡ parts → All (IsFalseIn t state) parts
    → (number : ℕ) (one : part.Part) → slice_get items number ≡ Some one → IsAfter t (map instance_of steps) (part_of one) (length steps) false
false_after t steps state runs items parts same are_false number one here =
    let got = ap (λ l. slice_get l number) (sym same) ∙ here in
    let past = length-map steps instance_of in (
      state,
      ap (run (system_of t) (initial_state t)) (take_all (length steps) (map instance_of steps) (omega (arith, past))) ∙ runs,
      subst (IsFalseIn t state) (get_or_from_slice_get parts number one one got)
          (All-get_or (IsFalseIn t state) parts number one (slice_get_within parts number one got) are_false),
    )
