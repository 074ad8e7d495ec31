use Rattle.pddl_tree.proofs.Names.{◌-◌, ◌<◌, length, map, name_of, listed_view}
use Rattle.pddl_tree.proofs.Groups.{IsGroupOn}
use Rattle.pddl_tree.proofs.typed_lists.group.Given as goal

abbrev pub invariant-names : goal.invariant-names
invariant-names l = record { moved : l.at < l.next; read : IsGroupOn (listed_view l.listed) l.words l.at (map name_of l.names.items) l.next }

abbrev pub decreases-names : goal.decreases-names
decreases-names l = length l.words - l.next
