-- Numberings of the code, in the model's terms.
use Rattle.std.specs.Prelude.{◌≡◌, ℕ, List, map, None, Some}
use Rattle.faults.specs.declared.refused.Refused.TheVariants.{At, NoMemory}
use Rattle.task.specs.Task.{task_of}
use Rattle.task.specs.TaskParts.{atom_of}
use Rattle.formulas.specs.State.{instance_of}
use Rattle.grounding_instances.specs.declared.numbering.Numbering.{Numbering}
use Rattle.grounding_instances.specs.declared.fault.GroundLimit.{GroundLimit}
use Rattle.grounding_instances.specs.declared.fault.GroundLimit.TheVariants.{Instances, Atoms}
use Rattle.grounding_instances.specs.Kept.{GroundFault}
use Rattle.model.specs.Task.{Task, Atom, Instance}
use Rattle.model.specs.Limits.{max_numbered_atoms}
use Rattle.model.specs.StaticallyFalse.{kept_instances}
use Rattle.model.specs.NumberedAtoms.{numbered_atoms}
use Rattle.model.specs.Grounding as model

abbrev pub task_in : Numbering → Task
task_in n = task_of n.statics.task.now

-- the instances, by number
abbrev pub instances_in : Numbering → List Instance
instances_in n = map instance_of n.instances.items

abbrev pub atoms_in : Numbering → List Atom
atoms_in n = map atom_of n.atoms.keys

-- The numbering has the kept instances of the task and its numbered atoms, and no limit is exceeded.
pub record IsNumberingOf (t : Task) (more : List Atom) (max_instances : ℕ) (n : Numbering) : Type 0 where
  pub task : task_in n ≡ t
  pub instances : instances_in n ≡ kept_instances t
  pub atoms : atoms_in n ≡ numbered_atoms t more
  pub within : model.exceeded_limit max_instances max_numbered_atoms t more ≡ None

abbrev pub limit_of : GroundLimit → model.GroundLimit
limit_of Instances = model.of_instances
limit_of Atoms = model.of_atoms

-- the reported limit is the model's; nothing is stated for running out of memory
abbrev pub ReportsLimit : Task → List Atom → ℕ → GroundFault → Type 0
ReportsLimit t more max_instances (At limit) = model.exceeded_limit max_instances max_numbered_atoms t more ≡ Some (limit_of limit)
ReportsLimit t more max_instances NoMemory = Unit {0}
