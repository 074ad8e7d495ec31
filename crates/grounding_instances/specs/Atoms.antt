-- Atoms numbered one after another, and when a limit is reported.
use Rattle.std.specs.Prelude.{◌≡◌, ℕ, ◌<◌, List, map, length, slice_get, Some}
use Rattle.faults.specs.declared.refused.Refused.TheVariants.{At, NoMemory}
use Rattle.grounding_instances.specs.declared.fault.GroundLimit.TheVariants.{Instances, Atoms}
use Rattle.grounding_instances.specs.Kept.{GroundFault}
use Rattle.formulas.specs.State.{FitsFormula}
use Rattle.model.specs.Task.{Atom, Task}
use Rattle.model.specs.Meaning.{Change}
use Rattle.model.specs.Limits.{max_numbered_atoms}
use Rattle.model.specs.NumberedAtoms.{atom_of_literal}

-- the limit of atoms is reported if there are more; nothing is stated for running out of memory
abbrev pub ReportsAtoms : List Atom → GroundFault → Type 0
ReportsAtoms atoms (At Instances) = ⊥
ReportsAtoms atoms (At Atoms) = max_numbered_atoms < length atoms
ReportsAtoms atoms NoMemory = Unit {0}

-- the atoms that the changes add or delete
abbrev pub atoms_changed : List Change → List Atom
atoms_changed changes = map (λ (c : Change). atom_of_literal c.literal) changes

-- the objects of each of these changes fit the variables in its condition
abbrev pub AllFit : Task → List Change → Type 0
AllFit t changes = (place : ℕ) (c : Change) → slice_get changes place ≡ Some c → FitsFormula t c.condition c.binding
