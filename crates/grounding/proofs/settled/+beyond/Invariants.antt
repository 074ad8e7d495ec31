use Rattle.std.proofs.Common.{◌≡◌, map}
use Rattle.std.proofs.Math.ListN.{drop}
use Rattle.task.specs.TaskParts.{formula_of, object_of}
use Rattle.grounding_instances.specs.Numbering.{task_in}
use Rattle.grounding.specs.Settled.{beyond_each}
use Rattle.grounding.proofs.settled.+beyond.Given as goal

-- the parts so far say nothing: what those say that are left, all say
abbrev pub invariant-beyond_each-loop-part : goal.invariant-beyond_each-loop-part
invariant-beyond_each-loop-part l =
    let t = task_in l.numbering in
    let binding = map object_of l.binding.items in
    beyond_each t binding (map formula_of (drop l.part-index l.parts)) ≡ beyond_each t binding (map formula_of l.parts)
