use Rattle.pddl_tree.proofs.Names.{◌-◌, ◌≤◌, length, map, many, part}
use Rattle.pddl_tree.proofs.Looks.{IsReadOn}
use Rattle.pddl_tree.proofs.lists.list.Given as goal

abbrev pub invariant-items : goal.invariant-items
invariant-items g l = record { moved : l.at ≤ l.next; read : IsReadOn (part (many g.T.Item.sort)) l.words l.at (map g.T.Item.view l.items.items) l.next }

abbrev pub decreases-items : goal.decreases-items
decreases-items g l = length l.words - l.next
