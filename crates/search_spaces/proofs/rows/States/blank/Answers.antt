use Rattle.std.proofs.Common.{◌∙◌, [], length, ap}
use Rattle.packed_state.proofs.PackedLemmas.{length-set_of}
use Rattle.search_spaces.proofs.rows.States.blank.Goals as goal

pub loop-init : goal.loop-init
loop-init c = record {
  empty = ap length c.in_ok-empty.ensures ∙ length-set_of c.args.width [];
  width = c.new-states.ensures.width;
  count = ap length c.new-states.ensures.states;
}
