use Rattle.std.proofs.Common.{take}
use Rattle.std.specs.FinSet.{empty}
use Rattle.std.specs.List.{list_any}
use Rattle.formulas.specs.Literals.{literal_of}
use Rattle.formulas.specs.State.{state_of}
use Rattle.model.specs.NumberedAtoms.{occurs_in}
use Rattle.explain_tasks.specs.Goals.{Gains, atom_asked_for}
use Rattle.explain_tasks.proofs.added.atoms_asked_for.Given as goal

-- the atoms that the literals so far require
abbrev pub invariant-loop-literal : goal.invariant-loop-literal
invariant-loop-literal l = Gains (λ a. list_any (λ one. occurs_in (atom_asked_for (literal_of one)) a) (take l.literal-index l.literals)) empty (state_of l.asked)
