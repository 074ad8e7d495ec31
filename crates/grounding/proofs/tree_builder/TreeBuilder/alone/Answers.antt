use Rattle.std.proofs.Common.{◌∷◌, [], map}
use Rattle.grounding_instances.specs.Numbers.{numbered_of}
use Rattle.grounding.specs.MatchNodes.{AgreesWith}
use Rattle.grounding.proofs.TreeLemmas.{tree-own}
use Rattle.grounding.proofs.tree_builder.TreeBuilder.alone.Goals as goal

pub returns-clause-tree : goal.returns-clause-tree
returns-clause-tree c =
    let b = c.args.self.now in
    tree-own b.width b.conditions.now (AgreesWith (map numbered_of c.args.path.now)) (c.args.number ∷ []) c.in_ok-group.group.nodes.items c.in_ok-group.ensures.tree
