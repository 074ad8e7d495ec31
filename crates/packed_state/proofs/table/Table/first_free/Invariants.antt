use Rattle.std.proofs.Common.{◌≡◌, ◌-◌, ◌<◌, ℕ, length, get_or}
use Rattle.packed_state.specs.Table.{slot_at}
use Rattle.packed_state.proofs.table.Table.first_free.Given as goal

abbrev pub invariant-taken : goal.invariant-taken
invariant-taken l =
    (l.step < length l.self.entries.items)
    × ((earlier : ℕ) → earlier < l.step → get_or l.self.entries.items (slot_at (length l.self.entries.items) l.key earlier) 0 ≡ 0 → ⊥)

abbrev pub decreases-taken : goal.decreases-taken
decreases-taken l = length l.self.entries.items - l.step
