-- Ground tasks of the code, in the model's terms.
use Rattle.std.specs.Prelude.{◌≡◌, ℕ, List, None}
use Rattle.grounding_instances.specs.declared.numbering.Numbering.{Numbering}
use Rattle.grounding_instances.specs.Numbering as numbering
use Rattle.grounding_instances.specs.Kept.{GroundFault}
use Rattle.grounding.specs.declared.ground.Ground.{Ground}
use Rattle.model.specs.Task.{Task, Atom}
use Rattle.model.specs.Limits.{max_numbered_atoms}
use Rattle.model.specs.NumberedAtoms.{numbered_atoms}
use Rattle.model.specs.Grounding.{exceeded_limit}

abbrev pub numbering_in : Ground → Numbering
numbering_in g = g.numbering

abbrev pub task_in : Ground → Task
task_in g = numbering.task_in g.numbering

-- by their numbers
abbrev pub atoms_in : Ground → List Atom
atoms_in g = numbering.atoms_in g.numbering

-- It is that of the task, where these atoms have the first numbers, and no limit is exceeded.
pub record IsGroundOf (t : Task) (more : List Atom) (max_instances : ℕ) (g : Ground) : Type 0 where
  pub task : task_in g ≡ t
  pub atoms : atoms_in g ≡ numbered_atoms t more
  pub within : exceeded_limit max_instances max_numbered_atoms t more ≡ None

-- the limit that is reported is the model's; running out of memory says nothing
abbrev pub ReportsLimit : Task → List Atom → ℕ → GroundFault → Type 0
ReportsLimit = numbering.ReportsLimit
