use Rattle.std.proofs.Common.{◌≤◌, ◌-◌, ◌+◌, ◌*◌, length, map, take}
use Rattle.grounding_instances.specs.Numbers.{numbered_of}
use Rattle.grounding.specs.MatchNodes.{AgreesWith, IsTreeOf}
use Rattle.grounding.proofs.tree_builder.TreeBuilder.+subtree.Given as goal

abbrev pub decreases-subtree : goal.decreases-subtree
decreases-subtree l = 4 * l.path.levels + 3

abbrev pub decreases-in_groups : goal.decreases-in_groups
decreases-in_groups l = 4 * l.path.levels + 2

abbrev pub decreases-group : goal.decreases-group
decreases-group l = 4 * l.path.levels + 1

abbrev pub decreases-branch : goal.decreases-branch
decreases-branch l = 4 * l.path.levels + 4

-- the nodes so far are the tree of the instances so far
abbrev pub invariant-in_groups-groups : goal.invariant-in_groups-groups
invariant-in_groups-groups l = record {
  few : l.seen ≤ length l.numbers;
  tree : IsTreeOf l.self.width l.self.conditions.now (AgreesWith (map numbered_of l.path.literals.now)) (take l.seen l.numbers) l.nodes.items;
}

abbrev pub decreases-in_groups-groups : goal.decreases-in_groups-groups
decreases-in_groups-groups l = length l.numbers - l.seen
