use Rattle.std.proofs.Common.{map, take}
use Rattle.grounding.specs.Changes.{counting_of}
use Rattle.potentials_drafted.specs.Incidence.{IsAdded}
use Rattle.potentials_drafted.proofs.incidence.Incidence.add.Given as goal

abbrev pub invariant-loop-place : goal.invariant-loop-place
invariant-loop-place l = IsAdded l.number (map counting_of (take l.place l.changes)) l.initial.self l.self
