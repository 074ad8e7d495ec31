-- Tests for dead ends: states from which no list of actions leads to the goal.
use Rattle.std.specs.Prelude.{◌≡◌, ℕ, ◌<◌, ◌^◌, Bool, false, IsTrue, List, Option, None, Some}
use Rattle.model.specs.Runs.{System, run}

-- no list of actions leads from the state to the goal
abbrev pub IsDeadEnd : {S A : Type 0} → System S A → S → Type 0
IsDeadEnd {S} {A} t s = (end : S) (plan : List A) → run t s plan ≡ Some end → t.meets_goal end ≡ false

-- each state that is reported dead is a dead end
abbrev pub ReportsDeadEnds : {S A : Type 0} → System S A → (S → Bool) → Type 0
ReportsDeadEnds {S} {A} t is_dead = (s : S) → IsTrue (is_dead s) → IsDeadEnd t s

-- No state that meets the goal is reported dead, and all successors of a state that is reported dead are reported too. So such a state is
-- a dead end; not all dead ends need be reported.
pub record DetectsDeadEnds {S A : Type 0} (t : System S A) (is_dead : S → Bool) : Type 0 where
  pub no_goal : (s : S) → IsTrue (is_dead s) → t.meets_goal s ≡ false
  pub stays_dead : (s next : S) (a : A) → IsTrue (is_dead s) → t.step s a ≡ Some next → IsTrue (is_dead next)

-- the test that reports no state
pub reports_none : {S A : Type 0} (t : System S A) → DetectsDeadEnds t (λ _. false)
reports_none t = record { no_goal = λ s reported. absurd (cc); stays_dead = λ s next a reported leads. reported }

-- the estimate of the state, which fits 63 bits; None: it is reported dead
abbrev pub IsValueUnlessDead : {S : Type 0} → (S → ℕ) → (S → Bool) → S → Option ℕ → Type 0
IsValueUnlessDead value is_dead s None = IsTrue (is_dead s)
IsValueUnlessDead value is_dead s (Some estimate) = (is_dead s ≡ false) × (estimate ≡ value s) × (estimate < 2 ^ 63)
