use Rattle.std.proofs.Common.{take}
use Rattle.explain_faults.specs.Expected.{AreSome}
use Rattle.explain_faults.proofs.allowed.those_near.Given as goal

abbrev pub invariant-loop-word : goal.invariant-loop-word
invariant-loop-word l = AreSome (take l.word-index l.words) l.near.items
