-- The meaning of the code's `==` on states.
use Rattle.std.specs.Prelude.{Bool}
use Rattle.formulas.specs.declared.state.State.{State}
use Rattle.formulas.specs.contracts.state.StatePartialEq.TheImpl as of_states

abbrev pub are_equal : State → State → Bool
are_equal = (of_states.ghosts).eq
