use Rattle.std.proofs.Common.{◌≡◌, ℕ, ◌<◌, length, get_or}
use Rattle.landmarks.proofs.counters.Counters.clear.Given as goal

-- the counters so far have seen nothing
abbrev pub invariant-loop-place : goal.invariant-loop-place
invariant-loop-place l = record {
  long : length l.self.counters.items ≡ length l.initial.self.counters.items;
  unseen : (k : ℕ) → k < l.place → (get_or l.self.counters.items k (record { seen = 0; charged = 0 })).seen ≡ 0;
}
