use Rattle.std.proofs.Common.{◌≡◌, ◌∙◌, [], length, ap, arith}
use Rattle.packed_state.specs.Packed.{bits_of}
use Rattle.packed_state.proofs.PackedLemmas.{length-set_of}
use Rattle.tables.specs.Several.{width_of}
use Rattle.tables.proofs.several.TableFunctions.known_state.Goals as goal
use Rattle.tables.proofs.several.TableFunctions.known_state.Goals.{In_ok-rows}

wide : (c : In_ok-rows) → length (bits_of c.in_ok-rows.rows.projections.state) ≡ width_of c.args.self.now
wide c = ap length c.in_ok-rows.ensures.state ∙ length-set_of (length c.weights.result.now) [] ∙ ap length c.weights.ensures

pub overflow_cast-width : goal.overflow_cast-width
overflow_cast-width c = omega (arith, ap length c.weights.ensures, c.args.self.now.together.few)

pub scores-requires : goal.scores-requires
scores-requires c = wide (goal.at.scores-requires c).In_ok-rows

pub returns : goal.returns
returns c = record {
  width = wide (goal.at.returns c).In_ok-rows;
  rows = c.in_ok-rows.ensures.known;
  scores = c.in_ok-scores.ensures;
}
