-- The limit that is reported if one of the two passes reports one.
use Rattle.std.proofs.Common.{ℕ, ◌≤◌, List, length}
use Rattle.faults.specs.declared.refused.Refused.TheVariants.{At, NoMemory}
use Rattle.grounding_instances.specs.declared.fault.GroundLimit.TheVariants.{Instances, Atoms}
use Rattle.grounding_instances.specs.Kept.{GroundFault, ReportsInstances}
use Rattle.grounding_instances.specs.Atoms.{ReportsAtoms}
use Rattle.grounding_instances.specs.Numbering.{ReportsLimit}
use Rattle.model.specs.Task.{Task, Atom}
use Rattle.model.specs.Limits.{max_numbered_atoms}
use Rattle.model.specs.StaticallyFalse.{kept_instances}
use Rattle.model.specs.NumberedAtoms.{numbered_atoms}
use Rattle.model.proofs.GroundTaskLemmas.{reported_instances, reported_atoms}

module _ (t : Task) (more : List Atom) (max : ℕ) where
  pub first-reported : (e : GroundFault) → ReportsInstances max (kept_instances t) e → ReportsLimit t more max e
  first-reported (At Instances) reported = reported_instances t more max max_numbered_atoms reported
  first-reported (At Atoms) reported = absurd reported
  first-reported NoMemory reported = tt

  pub second-reported : (e : GroundFault) → length (kept_instances t) ≤ max → ReportsAtoms (numbered_atoms t more) e → ReportsLimit t more max e
  second-reported (At Instances) few reported = absurd reported
  second-reported (At Atoms) few reported = reported_atoms t more max max_numbered_atoms few reported
  second-reported NoMemory few reported = tt
