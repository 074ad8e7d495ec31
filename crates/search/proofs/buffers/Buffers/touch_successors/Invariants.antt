use Rattle.std.proofs.Common.{◌≡◌, length}
use Rattle.packed_state.specs.Packed.{bits_of}
use Rattle.search.proofs.buffers.Buffers.touch_successors.Given as goal

-- the state, the list of actions and the scratch are as they were
abbrev pub invariant-loop-action : goal.invariant-loop-action
invariant-loop-action g l = record {
  state : l.self.1.0 ≡ l.fn.self.state;
  next : length (bits_of l.self.1.1.0) ≡ g.T.TransitionSystem.width_of l.system;
  scratch : l.self.1.1.1.1.1.0 ≡ l.fn.self.scratch;
  asks : l.self.1.1.1.1.0 ≡ l.fn.self.asks;
}
