use Rattle.std.proofs.Common.{◌≡◌, length}
use Rattle.guides.proofs.on_demand.LandmarksOnDemand.forget_unused.Given as goal

abbrev pub invariant-loop-number : goal.invariant-loop-number
invariant-loop-number l = record {
  index : l.self.index.now ≡ l.initial.self.index.now;
  count : length l.self.values.items ≡ length l.initial.self.values.items;
}
