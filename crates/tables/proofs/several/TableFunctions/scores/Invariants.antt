use Rattle.packed_state.specs.Packed.{bits_of}
use Rattle.tables.proofs.ValueLemmas.{AreScoresBelow}
use Rattle.tables.proofs.several.TableFunctions.scores.Given as goal

abbrev pub invariant-loop-place : goal.invariant-loop-place
invariant-loop-place l = AreScoresBelow l.self.values.items (bits_of l.state) l.place l.scores.items
