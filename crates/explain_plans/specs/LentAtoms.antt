-- Borrowed atoms of the code, in the model's terms.
use Rattle.std.specs.Prelude.{List, map}
use Rattle.std.specs.Borrow.{Bor}
use Rattle.task.specs.declared.atoms.Atom as code
use Rattle.task.specs.TaskParts.{atom_of}
use Rattle.model.specs.Task.{Atom}

abbrev pub lent_atoms : List (Bor code.Atom) → List Atom
lent_atoms = map (λ (atom : Bor code.Atom). atom_of atom.now)
