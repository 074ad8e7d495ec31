use Rattle.pddl_tree.proofs.Names.{◌-◌, ◌≤◌, length, map, function_list, predicate_of, part}
use Rattle.pddl_tree.proofs.Looks.{IsReadOn}
use Rattle.pddl_tree.proofs.declared.functions.Given as goal

abbrev pub invariant-functions : goal.invariant-functions
invariant-functions l = record { moved : l.at ≤ l.next; read : IsReadOn (part function_list) l.words l.at (map predicate_of l.functions.items) l.next }

abbrev pub decreases-functions : goal.decreases-functions
decreases-functions l = length l.words - l.next
