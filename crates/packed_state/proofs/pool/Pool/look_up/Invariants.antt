use Rattle.std.proofs.Common.{◌-◌, length}
use Rattle.packed_state.specs.Pool.{key_of}
use Rattle.packed_state.proofs.PoolSearch.{IsSearch}
use Rattle.packed_state.proofs.pool.Pool.look_up.Given as goal

abbrev pub invariant-slots : goal.invariant-slots
invariant-slots l = IsSearch l.self.stride l.self.words.items l.self.table.entries.items l.words (key_of l.words) l.step

abbrev pub decreases-slots : goal.decreases-slots
decreases-slots l = length l.self.table.entries.items - l.step
