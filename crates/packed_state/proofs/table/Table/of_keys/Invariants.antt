use Rattle.std.proofs.Common.{◌≡◌, ◌≤◌, length, get_or}
use Rattle.packed_state.specs.Table.{IsTable}
use Rattle.packed_state.proofs.table.Table.of_keys.Given as goal

-- the table has the keys so far
abbrev pub invariant-loop-key : goal.invariant-loop-key
invariant-loop-key l = record {
  within : l.key-index ≤ length l.keys;
  count : l.table.count ≡ l.key-index;
  slots : length l.table.entries.items ≡ l.slots;
  table : IsTable (λ n. get_or l.keys n 0) l.table.count l.table.entries.items;
}
