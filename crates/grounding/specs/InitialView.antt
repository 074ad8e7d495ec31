-- The initial state as a valuation.
use Rattle.grounding_instances.specs.Numbering.{task_in}
use Rattle.grounding.specs.declared.settled.InitialView.{InitialView}
use Rattle.model.specs.Meaning.{State, initial_state}

abbrev pub initial_facts : InitialView → State
initial_facts v = initial_state (task_in v.numbering.now)
