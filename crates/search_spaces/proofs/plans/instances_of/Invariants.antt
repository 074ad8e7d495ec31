use Rattle.std.proofs.Common.{take, map}
use Rattle.std.specs.List.{AllZip}
use Rattle.formulas.specs.State.{instance_of}
use Rattle.grounding.specs.Ground.{task_in}
use Rattle.model.specs.Grounding.{NamesKept}
use Rattle.search_spaces.proofs.plans.instances_of.Given as goal

-- the instances of the numbers so far
abbrev pub invariant-loop-number : goal.invariant-loop-number
invariant-loop-number l = AllZip (NamesKept (task_in l.ground)) (take l.number-index l.numbers) (map instance_of l.steps.items)
