use Rattle.std.proofs.Common.{◌≡◌, fold, take}
use Rattle.packed_state.specs.Pool.{mixed}
use Rattle.packed_state.proofs.pool.key.Given as goal

abbrev pub invariant-loop-word : goal.invariant-loop-word
invariant-loop-word l = l.hash ≡ fold mixed 0 (take l.word-index l.words)
