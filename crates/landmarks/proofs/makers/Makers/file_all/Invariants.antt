use Rattle.std.proofs.Common.{map, take}
use Rattle.grounding.specs.Changes.{conditional_of}
use Rattle.landmarks.specs.Makers.{AreFiled}
use Rattle.landmarks.proofs.makers.Makers.file_all.Given as goal

-- the changes so far
abbrev pub invariant-loop-change : goal.invariant-loop-change
invariant-loop-change l = AreFiled l.number (map conditional_of (take l.change-index l.changes)) l.initial.self l.self
