use Rattle.std.proofs.Common.{◌≡◌, [], map}
use Rattle.std.specs.List.{flat_map, range_with_len}
use Rattle.formulas.specs.State.{instance_of}
use Rattle.grounding_instances.specs.Numbering.{task_in}
use Rattle.explain_tasks.specs.Costs.{lacking_among, looked_at}
use Rattle.explain_tasks.proofs.lacking.LackingSearch.all.Given as goal

-- what the actions so far give
abbrev pub invariant-loop-number : goal.invariant-loop-number
invariant-loop-number l =
    map instance_of l.found.items
    ≡ lacking_among (task_in l.self.numbering.now) l.self.limit [] (flat_map (looked_at (task_in l.self.numbering.now) l.self.most) (range_with_len 0 l.number))
