use Rattle.std.proofs.Common.{map}
use Rattle.formulas.specs.State.{instance_of}
use Rattle.grounding_instances.specs.Numbering.{task_in, atoms_in}
use Rattle.grounding.specs.Preconditions.{IsPrecondition}
use Rattle.grounding.proofs.InPlaceLemmas.{AreSoFar}
use Rattle.grounding.proofs.parts.preconditions.Given as goal

abbrev pub invariant-loop-instance : goal.invariant-loop-instance
invariant-loop-instance l = AreSoFar (IsPrecondition (task_in l.numbering) (atoms_in l.numbering)) (map instance_of l.instances) l.found.items l.instance-index
