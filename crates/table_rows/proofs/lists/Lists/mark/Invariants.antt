use Rattle.std.proofs.Common.{◌≡◌, ℕ, true, length, take}
use Rattle.packed_state.specs.Packed.{bits_of}
use Rattle.packed_state.specs.Sets.{has}
use Rattle.lower_bounds.specs.TableFunctions.{is_among}
use Rattle.table_rows.proofs.lists.Lists.mark.Given as goal

abbrev pub invariant-loop-number : goal.invariant-loop-number
invariant-loop-number l = record {
  width : length (bits_of l.set) ≡ length (bits_of l.initial.set);
  kept : (k : ℕ) → has (bits_of l.initial.set) k ≡ true → has (bits_of l.set) k ≡ true;
  marked : (k : ℕ) → is_among (take l.number-index l.number-items) k ≡ true → has (bits_of l.set) k ≡ true;
}
