-- A packed state as a valuation.
use Rattle.packed_state.specs.Packed.{bits_of}
use Rattle.grounding_instances.specs.Numbering.{task_in, atoms_in}
use Rattle.grounding.specs.declared.state_view.StateView.{StateView}
use Rattle.model.specs.Meaning.{State}
use Rattle.model.specs.Grounding.{state_of_bits}

abbrev pub facts_of : StateView → State
facts_of v = state_of_bits (task_in v.numbering.now) (atoms_in v.numbering.now) (bits_of v.state.now)
