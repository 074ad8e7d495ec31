-- Settled potential functions: fair ones, at the allowance of costs or of dead ends, that no small change improves; and the
-- result of improvement.
use Rattle.std.specs.Prelude.{◌≡◌, ◌≢◌, ℕ, ◌+◌, ◌≤◌, ◌⊎◌, pos, ◌+ℤ◌, ◌≤ℤ◌, List, length}
use Rattle.model.specs.Task.{Atom, Task, Instance}
use Rattle.model.specs.Meaning.{cost_of}
use Rattle.model.specs.Grounding.{ground_system}
use Rattle.lower_bounds.specs.PotentialFunctions.{PotentialFunction, weight, value, AreInRange}
use Rattle.lower_bounds.specs.FairPotentials.{AreFairAt, nothing}

-- they differ by at most one in the weight of one atom, and arbitrarily in the constant
pub record AreNear (p q : PotentialFunction) : Type 0 where
  pub as_many : length q.weights ≡ length p.weights
  pub number : ℕ
  pub least : weight p.weights number ≤ℤ (weight q.weights number +ℤ pos 1)
  pub most : weight q.weights number ≤ℤ (weight p.weights number +ℤ pos 1)
  pub others : (n : ℕ) → n ≢ number → weight q.weights n ≡ weight p.weights n

-- the value of the initial state
abbrev pub initial_value : Task → List Atom → PotentialFunction → ℕ
initial_value task atoms p = value p (ground_system task atoms).initial

-- no function near it that is fair at this allowance gives the initial state a greater value
pub record IsSettledAt (allowance : Instance → ℕ) (task : Task) (atoms : List Atom) (p : PotentialFunction) : Type 0 where
  pub none_better : (q : PotentialFunction) → AreInRange q → AreFairAt allowance task atoms q → AreNear p q → initial_value task atoms q ≤ initial_value task atoms p

-- no fair function near it does, and no dead-fair one
abbrev pub IsSettled : Task → List Atom → PotentialFunction → Type 0
IsSettled task = IsSettledAt (cost_of task) task

abbrev pub IsDeadSettled : Task → List Atom → PotentialFunction → Type 0
IsDeadSettled = IsSettledAt nothing

-- The result of improving functions that are fair at an allowance: they are still fair, their initial value is no lower, and they
-- are settled or their initial value has grown by at least this much.
pub record IsImprovedAt (allowance : Instance → ℕ) (task : Task) (atoms : List Atom) (by : ℕ) (p q : PotentialFunction) : Type 0 where
  pub as_many : length q.weights ≡ length p.weights
  pub fair : AreFairAt allowance task atoms q
  pub no_lower : initial_value task atoms p ≤ initial_value task atoms q
  pub end : IsSettledAt allowance task atoms q ⊎ (initial_value task atoms p + by ≤ initial_value task atoms q)
