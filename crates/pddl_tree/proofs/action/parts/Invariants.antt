use Rattle.pddl_tree.proofs.Names.{◌≡◌, ◌-◌, ◌≤◌, [], length, map, from, part_view, action_of, phrase}
use Rattle.pddl_tree.specs.Sections.{parts_on}
use Rattle.pddl_tree.proofs.action.parts.Given as goal

abbrev pub invariant-parts : goal.invariant-parts
invariant-parts l = record {
  moved : l.at ≤ l.next;
  read : phrase (parts_on [] (action_of l.initial.action)) (from l.words l.at) ≡ phrase (parts_on (map part_view l.seen.items) (action_of l.action)) (from l.words l.next);
}

abbrev pub decreases-parts : goal.decreases-parts
decreases-parts l = length l.words - l.next
