use Rattle.std.proofs.Common.{◌≡◌, map, take}
use Rattle.formulas.specs.State.{instance_of}
use Rattle.grounding_instances.specs.Numbering.{task_in}
use Rattle.model.specs.Meaning.{cost_of}
use Rattle.grounding.proofs.parts.costs.Given as goal

abbrev pub invariant-loop-instance : goal.invariant-loop-instance
invariant-loop-instance l = l.found.items ≡ map (cost_of (task_in l.numbering)) (take l.instance-index (map instance_of l.instances))
