use Rattle.pddl_tree.proofs.Names.{◌≡◌, ◌-◌, ◌≤◌, [], length, map, from, section_view, file_of, phrase}
use Rattle.pddl_tree.specs.Sections.{contents_of, sections_on}
use Rattle.pddl_tree.proofs.sections.sections.Given as goal

abbrev pub invariant-sections : goal.invariant-sections
invariant-sections l = record {
  moved : l.at ≤ l.next;
  read : phrase (sections_on (file_of l.file) [] (contents_of l.initial.contents)) (from l.words l.at) ≡ phrase (sections_on (file_of l.file) (map section_view l.seen.items) (contents_of l.contents)) (from l.words l.next);
}

abbrev pub decreases-sections : goal.decreases-sections
decreases-sections l = length l.words - l.next
