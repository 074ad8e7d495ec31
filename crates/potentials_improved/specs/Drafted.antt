-- Potentials that replace others.
use Rattle.std.specs.Prelude.{◌≡◌, ℕ, ◌≤◌, List, length}
use Rattle.model.specs.Task.{Atom, Task, Instance}
use Rattle.lower_bounds.specs.PotentialFunctions.{PotentialFunction}
use Rattle.lower_bounds.specs.FairPotentials.{AreFairAt}
use Rattle.lower_bounds.specs.Settled.{initial_value}

-- fair at this allowance, with no lower value of the initial state
pub record IsNoWorseAt (allowance : Instance → ℕ) (task : Task) (atoms : List Atom) (p q : PotentialFunction) : Type 0 where
  pub width : length q.weights ≡ length atoms
  pub fair : AreFairAt allowance task atoms q
  pub no_lower : initial_value task atoms p ≤ initial_value task atoms q
