use Rattle.grounding.specs.MatchTree.{AreRows}
use Rattle.grounding.specs.WatchLists.{row_of}
use Rattle.grounding.proofs.match_tree.rows.Given as goal

abbrev pub invariant-loop-atom : goal.invariant-loop-atom
invariant-loop-atom l = AreRows l.builder.width l.builder.conditions.now (row_of l.lists) l.atom l.rows.items
