use Rattle.pddl_tree.proofs.Names.{◌-◌, ◌≤◌, length, map, listed_view, part, group_of}
use Rattle.model.specs.Grammar as grammar
use Rattle.pddl_tree.proofs.Looks.{IsReadOn}
use Rattle.pddl_tree.proofs.typed_lists.typed.Given as goal

abbrev pub invariant-groups : goal.invariant-groups
invariant-groups l = record { moved : l.at ≤ l.next; read : IsReadOn (part (grammar.typed (listed_view l.listed))) l.words l.at (map group_of l.groups.items) l.next }

abbrev pub decreases-groups : goal.decreases-groups
decreases-groups l = length l.words - l.next
