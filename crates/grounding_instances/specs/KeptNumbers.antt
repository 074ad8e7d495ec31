-- Numbers that do not depend on which atoms are numbered later.
use Rattle.std.specs.Prelude.{◌≡◌, ℕ, List, Some}
use Rattle.model.specs.Task.{Atom}
use Rattle.model.specs.NumberedAtoms.{number_of, with_atoms}

-- this is the atom's number
abbrev pub IsNumberOf : List Atom → Atom → ℕ → Type 0
IsNumberOf atoms a number = (later : List Atom) → number_of (with_atoms atoms later) a ≡ Some number
