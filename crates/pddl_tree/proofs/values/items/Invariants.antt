use Rattle.pddl_tree.proofs.Names.{◌-◌, ◌≤◌, length, map, effect_of, increase_of}
use Rattle.pddl_tree.proofs.EffectValues.{AreItemsOn}
use Rattle.pddl_tree.proofs.values.items.Given as goal

abbrev pub invariant-items : goal.invariant-items
invariant-items l = record {
  moved : l.at ≤ l.next;
  read : AreItemsOn l.words l.at (map effect_of l.effects.items) (map increase_of l.increases.items) l.next;
}

abbrev pub decreases-items : goal.decreases-items
decreases-items l = length l.words - l.next
