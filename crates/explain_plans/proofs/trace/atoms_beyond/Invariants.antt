use Rattle.std.proofs.Common.{◌≡◌, filter, map, not}
use Rattle.std.specs.FinSet.{contains}
use Rattle.std.specs.Map.Iter.{deref}
use Rattle.task.specs.declared.atoms.Atom.{Atom}
use Rattle.task.specs.TaskParts.{atom_of}
use Rattle.formulas.specs.State.{state_of}
use Rattle.explain_plans.specs.LentAtoms.{lent_atoms}
use Rattle.explain_plans.proofs.trace.atoms_beyond.Given as goal

-- the atoms so far that the other state lacks
abbrev pub invariant-loop-atom : goal.invariant-loop-atom
invariant-loop-atom l =
    lent_atoms l.atoms.items ≡ map atom_of (filter (λ (a : Atom). not (contains (state_of l.other) (atom_of a))) (map deref l.yielded))
