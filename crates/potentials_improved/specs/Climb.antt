-- Fair potentials on the way to better ones.
use Rattle.std.specs.Prelude.{◌≡◌, ℕ, ◌<◌, Bool, true, false, ℤ, pos, ◌+ℤ◌, ◌≤ℤ◌, List, Some, set, length, slice_get, Contains}
use Rattle.model.specs.Task.{Atom, Task, Instance}
use Rattle.model.specs.StaticallyFalse.{kept_instances}
use Rattle.model.specs.NumberedLiterals.{literals_of_goal}
use Rattle.model.specs.Grounding.{ground_system}
use Rattle.lower_bounds.specs.PotentialFunctions.{PotentialFunction, score, or_zero, IsInRange}
use Rattle.lower_bounds.specs.FairPotentials.{goal_gives_at_most, AreFairAt, IsFairAt}
use Rattle.lower_bounds.specs.Settled.{initial_value}
use Rattle.lower_bounds.proofs.Settling.{potentials, IsNoneBetter, IsTried}
use Rattle.potentials.specs.Potentials.{potentials_of}
use Rattle.potentials_improved.specs.declared.climb.Climb.{Climb}
use Rattle.potentials_improved.specs.declared.climb.Next.{Next}

abbrev pub worth : Task → List Atom → Climb → ℕ
worth task atoms c = initial_value task atoms (potentials_of c.potentials)

pub record IsClimb (allowance : Instance → ℕ) (task : Task) (atoms : List Atom) (c : Climb) : Type 0 where
  pub width : length c.potentials.weights.items ≡ length atoms
  pub fair : AreFairAt allowance task atoms (potentials_of c.potentials)
  pub goal : c.goal ≡ goal_gives_at_most (length atoms) c.potentials.weights.items (literals_of_goal task atoms)
  pub score : c.score ≡ score (potentials_of c.potentials) (ground_system task atoms).initial
  pub greatest : (k : ℤ) → IsInRange k → (k +ℤ c.goal) ≤ℤ pos 0 → k ≤ℤ c.potentials.constant

-- the instances with these numbers are fair
abbrev pub AreFairAmong : (Instance → ℕ) → Task → List Atom → PotentialFunction → List ℕ → Type 0
AreFairAmong allowance task atoms p numbers =
    (n : ℕ) (i : Instance) → Contains numbers n → slice_get (kept_instances task) n ≡ Some i → IsFairAt (allowance i) task atoms p.weights i

-- the numbers for the changed weight with the greatest constant; they are better
pub record IsNext (task : Task) (atoms : List Atom) (c : Climb) (n : ℕ) (w : ℤ) (next : Next) : Type 0 where
  pub goal : next.goal ≡ goal_gives_at_most (length atoms) (set c.potentials.weights.items n w) (literals_of_goal task atoms)
  pub score : next.score ≡ score (potentials next.constant (set c.potentials.weights.items n w)) (ground_system task atoms).initial
  pub range : IsInRange next.constant
  pub meets : (next.constant +ℤ next.goal) ≤ℤ pos 0
  pub greatest : (k : ℤ) → IsInRange k → (k +ℤ next.goal) ≤ℤ pos 0 → k ≤ℤ next.constant
  pub better : worth task atoms c < or_zero next.score

pub record IsWeightTried (allowance : Instance → ℕ) (task : Task) (atoms : List Atom) (old new : Climb) (n : ℕ) (w : ℤ) (raised : Bool) : Type 0 where
  pub climb : IsClimb allowance task atoms new
  pub better : raised ≡ true → worth task atoms old < worth task atoms new
  pub same : raised ≡ false → potentials_of new.potentials ≡ potentials_of old.potentials
  pub none : raised ≡ false → IsInRange w → IsNoneBetter allowance task atoms (potentials_of old.potentials) (set old.potentials.weights.items n w)

pub record IsAtomTried (allowance : Instance → ℕ) (task : Task) (atoms : List Atom) (old new : Climb) (n : ℕ) (raised : Bool) : Type 0 where
  pub climb : IsClimb allowance task atoms new
  pub better : raised ≡ true → worth task atoms old < worth task atoms new
  pub same : raised ≡ false → potentials_of new.potentials ≡ potentials_of old.potentials
  pub tried : raised ≡ false → IsTried allowance task atoms (potentials_of old.potentials) n

-- the first n atoms are tried
pub record IsPass (allowance : Instance → ℕ) (task : Task) (atoms : List Atom) (n : ℕ) (old new : Climb) (raised : Bool) : Type 0 where
  pub climb : IsClimb allowance task atoms new
  pub better : raised ≡ true → worth task atoms old < worth task atoms new
  pub same : raised ≡ false → potentials_of new.potentials ≡ potentials_of old.potentials
  pub tried : raised ≡ false → (k : ℕ) → k < n → IsTried allowance task atoms (potentials_of old.potentials) k
