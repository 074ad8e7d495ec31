-- The initially true atoms, as a state.
use Rattle.std.specs.Prelude.{map}
use Rattle.std.specs.FinSet.{from_list}
use Rattle.task.specs.TaskParts.{atom_of}
use Rattle.grounding_instances.specs.declared.initial.InitialAtoms.{InitialAtoms}
use Rattle.model.specs.Meaning.{State}

abbrev pub facts_of : InitialAtoms → State
facts_of initial = from_list (map atom_of initial.atoms.keys)
