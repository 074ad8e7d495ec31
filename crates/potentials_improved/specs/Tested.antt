-- Tables of the instances that touch an atom, stated by tests, so that there is at most one proof, as a ghost field needs.
use Rattle.std.specs.Prelude.{◌≡◌, ℕ, ◌<◌, true, List, length, nat_eq}
use Rattle.std.specs.List.{list_any}
use Rattle.model.specs.Task.{Atom, Task}
use Rattle.model.specs.StaticallyFalse.{kept_instances}
use Rattle.model.specs.NumberedLiterals.{counting_of_number}
use Rattle.grounding.specs.declared.ground.Ground.{Ground}
use Rattle.grounding.specs.Ground.{task_in, atoms_in}
use Rattle.lower_bounds.specs.FairPotentials.{touches}
use Rattle.potentials_drafted.specs.declared.program_input.ProgramInput.{ProgramInput}
use Rattle.potentials_drafted.specs.declared.incidence.Incidence.{Incidence}
use Rattle.potentials_drafted.specs.Incidence.{row_of}

-- `IsIncidence`, with a test for a number's being in a row
pub record IsTestedIncidence (task : Task) (atoms : List Atom) (count : ℕ) (t : Incidence) : Type 0 where
  pub width : length t.rows.items ≡ length atoms
  pub within : (a n : ℕ) → list_any (nat_eq n) (row_of t a) ≡ true → n < count
  pub covers : (a n : ℕ) → n < count → touches (counting_of_number task atoms n) a ≡ true → list_any (nat_eq n) (row_of t a) ≡ true

-- `IsInputOf`, likewise
abbrev pub IsTestedInput : Ground → ProgramInput → Type 0
IsTestedInput g t = IsTestedIncidence (task_in g) (atoms_in g) (length (kept_instances (task_in g))) t.incidence
