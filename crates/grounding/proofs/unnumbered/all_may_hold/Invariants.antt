use Rattle.std.proofs.Common.{◌≡◌, true, take}
use Rattle.std.specs.List.{list_all}
use Rattle.formulas.specs.Literals.{literal_of}
use Rattle.grounding_instances.specs.Numbering.{task_in, atoms_in}
use Rattle.grounding.specs.Unnumbered.{may_hold}
use Rattle.grounding.proofs.unnumbered.all_may_hold.Given as goal

-- the literals so far may hold
abbrev pub invariant-loop-literal : goal.invariant-loop-literal
invariant-loop-literal l = list_all (λ literal. may_hold (task_in l.numbering) (atoms_in l.numbering) (literal_of literal)) (take l.literal-index l.literals) ≡ true
