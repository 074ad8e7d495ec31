use Rattle.pddl_tree.proofs.Names.{◌-◌, ◌≤◌, length, map, many, listed, effect_list, part, effect_of}
use Rattle.pddl_tree.proofs.Looks.{IsReadOn}
use Rattle.pddl_tree.proofs.effects.+effect.Given as goal

abbrev pub decreases-effect : goal.decreases-effect
decreases-effect l = length l.words.now - l.at

abbrev pub decreases-last : goal.decreases-last
decreases-last l = length l.words.now - l.at

abbrev pub decreases-effects : goal.decreases-effects
decreases-effects l = length l.words.now - l.at

abbrev pub invariant-effects-parts : goal.invariant-effects-parts
invariant-effects-parts l = record {
  moved : l.at ≤ l.next;
  read : IsReadOn (part (many (listed effect_list))) l.words l.at (map effect_of l.parts.items) l.next;
}

abbrev pub decreases-effects-parts : goal.decreases-effects-parts
decreases-effects-parts l = length l.words - l.next
