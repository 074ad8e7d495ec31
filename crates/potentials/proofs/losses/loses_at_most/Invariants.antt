use Rattle.std.proofs.Common.{◌≡◌, map, take}
use Rattle.grounding.specs.Views.{numbered_of}
use Rattle.grounding.specs.Changes.{counting_of}
use Rattle.potentials.proofs.LossLemmas.{losing}
use Rattle.potentials.proofs.losses.loses_at_most.Given as goal

abbrev pub invariant-loop-place : goal.invariant-loop-place
invariant-loop-place l = l.total ≡ losing (map numbered_of l.literals) (map counting_of l.changes) l.weights (map counting_of (take l.place l.changes))
