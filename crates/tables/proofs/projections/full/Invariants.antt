use Rattle.std.proofs.Common.{◌≡◌, ℕ, ◌<◌, length}
use Rattle.std.specs.Prelude.{IsTrue}
use Rattle.packed_state.specs.Packed.{bits_of}
use Rattle.packed_state.specs.Sets.{has}
use Rattle.tables.proofs.projections.full.Given as goal

abbrev pub invariant-loop-number : goal.invariant-loop-number
invariant-loop-number l = record {
  width : length (bits_of l.set) ≡ l.width;
  all : (k : ℕ) → k < l.number → IsTrue (has (bits_of l.set) k);
}
