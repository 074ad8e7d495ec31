use Rattle.std.proofs.Common.{◌∷◌, [], drop, map}
use Rattle.grounding_instances.specs.Numbers.{numbered_of}
use Rattle.grounding.specs.MatchNodes.{AgreesWith, IsTree}
use Rattle.grounding.proofs.tree_builder.TreeBuilder.single.Given as goal

-- the tree is right where the literals on the path, and those that are still to be tested, are true
abbrev pub invariant-loop-literal : goal.invariant-loop-literal
invariant-loop-literal l =
    IsTree l.self.width l.self.conditions.now (λ bits. AgreesWith (map numbered_of l.path) bits × AgreesWith (drop l.literal-index (map numbered_of l.literals)) bits) (l.number ∷ []) l.nodes.items
