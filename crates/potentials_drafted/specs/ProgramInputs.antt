-- The data of a ground task that drafts of potentials read, and what later moves use of it.
use Rattle.std.specs.Prelude.{length}
use Rattle.grounding.specs.declared.ground.Ground.{Ground}
use Rattle.grounding.specs.Ground.{task_in, atoms_in}
use Rattle.model.specs.StaticallyFalse.{kept_instances}
use Rattle.potentials_drafted.specs.Incidence.{IsIncidence}
use Rattle.potentials_drafted.specs.declared.program_input.ProgramInput.{ProgramInput}

-- for each atom they list the instances of this ground task that touch it
abbrev pub IsInputOf : Ground → ProgramInput → Type 0
IsInputOf g t = IsIncidence (task_in g) (atoms_in g) (length (kept_instances (task_in g))) t.incidence
