use Rattle.std.proofs.Common.{[], length, ap, ◌∙◌}
use Rattle.packed_state.proofs.PackedLemmas.{length-set_of}
use Rattle.search.proofs.buffers.Buffers.new.Goals as goal

pub returns-clause-wide : goal.returns-clause-wide
returns-clause-wide g c = record {
  state = ap length c.in_ok-empty.ensures ∙ length-set_of c.args.width [];
  next = ap length c.in_ok-empty-2.ensures ∙ length-set_of c.args.width [];
}
