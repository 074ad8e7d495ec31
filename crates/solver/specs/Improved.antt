-- How good the potentials are by which a task is solved.
use Rattle.std.specs.Prelude.{◌≤◌, List}
use Rattle.model.specs.Task.{Task, Atom}
use Rattle.model.specs.Meaning.{cost_of, initial_state}
use Rattle.lower_bounds.specs.PotentialFunctions.{PotentialFunction}
use Rattle.lower_bounds.specs.FairPotentials.{nothing}
use Rattle.lower_bounds.specs.Settled.{initial_value}
use Rattle.potentials_improved.specs.SettledOrHigh.{AreSettledOrHighAt}
use Rattle.certificate_definitions.specs.Certificates.{Certificate, potentials_of, value_of}

-- settled or high at the allowance of fair ones, and at that of dead-fair ones
abbrev pub AreSettledOrHigh : Task → List Atom → PotentialFunction → Type 0
AreSettledOrHigh task = AreSettledOrHighAt (cost_of task) task

abbrev pub AreDeadSettledOrHigh : Task → List Atom → PotentialFunction → Type 0
AreDeadSettledOrHigh = AreSettledOrHighAt nothing

-- The potentials of the certificate's first value and those of dead ends are, and it gives the initial state no lower value than the
-- first alone.
pub record HasSettledOrHigh (task : Task) (certificate : Certificate) : Type 0 where
  pub potentials : AreSettledOrHigh task certificate.atoms (potentials_of certificate)
  pub dead_ends : AreDeadSettledOrHigh task certificate.atoms certificate.dead_ends
  pub no_lower : initial_value task certificate.atoms (potentials_of certificate) ≤ value_of task certificate (initial_state task)
