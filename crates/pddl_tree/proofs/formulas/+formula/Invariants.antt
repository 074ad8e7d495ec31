use Rattle.pddl_tree.proofs.Names.{◌-◌, ◌+◌, ◌≤◌, length, map, many, listed, formula, part, formula_of}
use Rattle.std.proofs.Common.{◌*◌}
use Rattle.pddl_tree.proofs.Looks.{IsReadOn}
use Rattle.pddl_tree.proofs.formulas.+formula.Given as goal

-- twice the words left, and one more where a call takes none of them
abbrev pub decreases-formula : goal.decreases-formula
decreases-formula l = 2 * (length l.words.now - l.at) + 1

abbrev pub decreases-implication : goal.decreases-implication
decreases-implication l = 2 * (length l.words.now - l.at) + 1

abbrev pub decreases-last : goal.decreases-last
decreases-last l = 2 * (length l.words.now - l.at) + 1

abbrev pub decreases-part : goal.decreases-part
decreases-part l = 2 * (length l.words.now - l.at)

abbrev pub decreases-formulas : goal.decreases-formulas
decreases-formulas l = 2 * (length l.words.now - l.at)

abbrev pub invariant-formulas-parts : goal.invariant-formulas-parts
invariant-formulas-parts l = record {
  moved : l.at ≤ l.next;
  read : IsReadOn (part (many (listed formula))) l.words l.at (map formula_of l.parts.items) l.next;
}

abbrev pub decreases-formulas-parts : goal.decreases-formulas-parts
decreases-formulas-parts l = length l.words - l.next
