use Rattle.std.proofs.Common.{◌∙◌, [], ap, length}
use Rattle.packed_state.proofs.PackedLemmas.{length-set_of}
use Rattle.table_rows.proofs.afters.Scratch.new.Goals as goal

pub returns : goal.returns
returns c = record {
  row = ap length c.in_ok-row.ensures ∙ length-set_of c.args.width [];
  left = ap length c.in_ok-left.ensures ∙ length-set_of c.args.width [];
}
