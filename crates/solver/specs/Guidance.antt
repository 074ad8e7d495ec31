-- What a search goes by, as a certificate has it.
use Rattle.std.specs.Prelude.{ℕ, Bool, IsTrue, List, [], ◌∷◌, All, AllPairs, ◌≢◌, pos, get_or}
use Rattle.model.specs.Task.{Task, Atom}
use Rattle.certificate.specs.Evidence.{is_evidence}
use Rattle.certificate_definitions.specs.Certificates.{Version, two, three, no_landmarks}
use Rattle.lower_bounds.specs.PotentialFunctions as potential
use Rattle.lower_bounds.specs.PotentialFunctions.{PotentialFunction}
use Rattle.lower_bounds.specs.FairPotentials as potentials
use Rattle.lower_bounds.specs.TableFunctions as tables
use Rattle.lower_bounds.specs.TableFunctions.{Row, Table, SeveralValues, functions_of, dead_ends_of, greatest_value}
use Rattle.lower_bounds.specs.FairTables as fair_tables

-- Values by which states have lower bounds of what is still to pay from them, and one by which they are reported as dead ends:
-- a potential function each, or several values over tables.
pub data Guidance : Type 0 where
  by_potentials : (p dead_ends : PotentialFunction) → Guidance
  by_tables : SeveralValues → Guidance

-- ---- of packed states

-- the lower bound, which is the greatest of several
abbrev pub estimate_by : Guidance → List Bool → ℕ
estimate_by (by_potentials p dead_ends) = potential.value p
estimate_by (by_tables s) = greatest_value (functions_of s)

abbrev pub reports_dead : Guidance → List Bool → Bool
reports_dead (by_potentials p dead_ends) = potential.is_dead_by dead_ends
reports_dead (by_tables s) = tables.is_dead_by (dead_ends_of s)

-- ---- in a certificate

-- the version of a certificate that has them
abbrev pub version_by : Guidance → Version
version_by (by_potentials p dead_ends) = two
version_by (by_tables s) = three

-- potentials as values over no tables
abbrev pub over_no_tables : PotentialFunction → PotentialFunction → SeveralValues
over_no_tables p dead_ends = record { values = p ∷ []; dead_ends = dead_ends; tables = [] }

abbrev pub values_by : Guidance → SeveralValues
values_by (by_potentials p dead_ends) = over_no_tables p dead_ends
values_by (by_tables s) = s

-- the first value, 0 where there is none
abbrev pub first_value : Guidance → PotentialFunction
first_value guidance = get_or (values_by guidance).values 0 (record { constant = pos 0; weights = [] })

-- A certificate with this number of atoms can have them, beside no landmark values.
pub record CanBeWritten (atom_count : ℕ) (guidance : Guidance) : Type 0 where
  pub within_limits : IsTrue (is_evidence (version_by guidance) atom_count (values_by guidance) no_landmarks)
  pub rows_are_distinct : All (λ (t : Table). AllPairs (λ (q r : Row). q.atoms ≢ r.atoms) t.rows) (values_by guidance).tables

-- The values are fair for the ground task of these atoms, and that of dead ends is dead-fair.
abbrev pub AreFairBy : Task → List Atom → Guidance → Type 0
AreFairBy task atoms (by_potentials p dead_ends) = potentials.AreFair task atoms p × potentials.AreDeadFair task atoms dead_ends
AreFairBy task atoms (by_tables s) = fair_tables.AreFair task atoms s
