-- Estimates of the remaining cost.
use Rattle.std.proofs.Common.{zero-le}
use Rattle.std.specs.Prelude.{◌≡◌, ℕ, ◌+◌, ◌≤◌, ℤ, pos, negsuc, IsTrue, List, Some, refl}
use Rattle.model.specs.Runs.{System, run, cost_of_all}

-- The number is a lower bound of the state's remaining cost: no list of actions that runs from it to a state that meets the goal costs
-- less. This is a fact of the system and the state, and stays one.
abbrev pub IsLowerBound : {S A : Type 0} → System S A → S → ℕ → Type 0
IsLowerBound {S} {A} t s least = (end : S) (plan : List A) → run t s plan ≡ Some end → IsTrue (t.meets_goal end) → least ≤ cost_of_all t plan

-- The estimate is admissible: that of each state is a lower bound. (Russell & Norvig, Artificial Intelligence, section 3.5.2.)
abbrev pub IsAdmissible : {S A : Type 0} → System S A → (S → ℕ) → Type 0
IsAdmissible {S} {A} t value = (s : S) → IsLowerBound t s (value s)

-- The estimate is consistent, and so admissible: it is 0 in states that meet the goal, and across an action falls by at most the action's
-- cost. (Russell & Norvig, Artificial Intelligence, section 3.5.2; Hart, Nilsson & Raphael, A Formal
-- Basis for the Heuristic Determination of Minimum Cost Paths, 1968.)
pub record IsConsistent {S A : Type 0} (t : System S A) (value : S → ℕ) : Type 0 where
  pub zero_at_goals : (s : S) → IsTrue (t.meets_goal s) → value s ≡ 0
  pub falls_by_no_more : (s next : S) (a : A) → t.step s a ≡ Some next → value s ≤ t.cost a + value next

-- the greater of 0 and the number
abbrev pub above_zero : ℤ → ℕ
above_zero (pos n) = n
above_zero (negsuc n) = 0

-- the estimate of a state by its score
abbrev pub value_by : {S : Type 0} → (S → ℤ) → S → ℕ
value_by score s = above_zero (score s)

-- the estimate 0 is consistent
pub consistent_zero : {S A : Type 0} (t : System S A) → IsConsistent t (λ _. 0)
consistent_zero t = record { zero_at_goals = λ s goal. refl; falls_by_no_more = λ s next a leads. zero-le }
