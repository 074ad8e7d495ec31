use Rattle.std.proofs.Common.{map, take}
use Rattle.grounding.specs.Views.{numbered_of}
use Rattle.potentials.specs.Goals.{AreSaid}
use Rattle.potentials.proofs.goals.GoalAtoms.new.Given as goal

-- what the literals so far say
abbrev pub invariant-loop-literal : goal.invariant-loop-literal
invariant-loop-literal l = AreSaid (map numbered_of (take l.literal-index l.literals)) l.width l.goal
