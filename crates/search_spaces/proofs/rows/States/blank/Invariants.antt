use Rattle.std.proofs.Common.{◌≡◌, length}
use Rattle.packed_state.specs.Packed.{bits_of}
use Rattle.search_spaces.specs.States.{states_width, states_of}
use Rattle.search_spaces.proofs.rows.States.blank.Given as goal

abbrev pub invariant-loop : goal.invariant-loop
invariant-loop l = record {
  empty : length (bits_of l.empty) ≡ l.width;
  width : states_width l.states ≡ l.width;
  count : length (states_of l.states) ≡ l.counter;
}
