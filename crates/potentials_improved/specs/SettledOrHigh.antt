-- How good potentials are that are improved from those that are 0.
use Rattle.std.specs.Prelude.{ℕ, ◌≤◌, ◌⊎◌, List}
use Rattle.model.specs.Task.{Task, Atom, Instance}
use Rattle.lower_bounds.specs.PotentialFunctions.{PotentialFunction}
use Rattle.lower_bounds.specs.FairPotentials.{AreFairAt}
use Rattle.lower_bounds.specs.Settled.{initial_value, IsSettledAt}

-- They are fair at this allowance by themselves, with no table; and of those near them that are none gives the initial state a greater
-- value, or they give it at least 8.
pub record AreSettledOrHighAt (allowance : Instance → ℕ) (task : Task) (atoms : List Atom) (p : PotentialFunction) : Type 0 where
  pub fair : AreFairAt allowance task atoms p
  pub settled_or_high : IsSettledAt allowance task atoms p ⊎ (8 ≤ initial_value task atoms p)
