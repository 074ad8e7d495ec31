-- Parts: which of them fit what was read before, and their effect.
use Rattle.std.specs.Prelude.{◌≡◌, ℕ, ◌+◌, ◌<◌, ◌^◌, IsTrue, List, [], ◌∷◌, ◌++◌, length, All}
use Rattle.lower_bounds.specs.TableFunctions as model
use Rattle.lower_bounds.specs.TableFunctions.{Row, SeveralValues}
use Rattle.table_rows.specs.Rows.{are_rising}
use Rattle.table_rows.specs.Tables.{table_of, weight_count_of}
use Rattle.table_rows.specs.Adding.{IsAdded}
use Rattle.table_rows.specs.declared.by_atoms.Added.{Added}
use Rattle.table_rows.specs.declared.by_atoms.Added.TheVariants.{New, OutsideScope, Repeated}
use Rattle.table_rows.specs.declared.table.Table.{Table}
use Rattle.lower_bounds.specs.LandmarkLines.{zone, value}
use Rattle.landmark_zones.specs.Landmarks.{landmarks_of, with_value, with_zone}
use Rattle.certificate_definitions.specs.CertificateText.{Part, TextLine, version, claims, constant, swapped, atom, scope, row, tabled, landmark_line, part, listed, last}
use Rattle.certificate.specs.declared.cert.Cert.{Cert}
use Rattle.certificate.specs.declared.evidence.Evidence.{Evidence}
use Rattle.certificate.specs.Certificate.{certificate_of, tables_in}
use Rattle.certificate.specs.Evidence.{evidence_of}
use Rattle.cert_checker.specs.declared.refusal.Refusal.{Refusal}
use Rattle.cert_checker.specs.declared.refusal.Refusal.TheVariants as refusal
use Rattle.cert_checker.specs.declared.refusal.RefusalCode.TheVariants.{CertForm, Repeated as RepeatedRow}

-- each row of these tables has this many weights
abbrev pub HaveWeights : ℕ → List Table → Type 0
HaveWeights count tables = All (λ (t : Table). weight_count_of t ≡ count) tables

-- each has one for each value and, last, one for dead ends
abbrev pub AreWeighed : Evidence → Type 0
AreWeighed evidence = HaveWeights (length evidence.values.items + 1) evidence.tables.items

-- the same for the tables of this certificate in memory
abbrev pub AreWeighedIn : Cert → Type 0
AreWeighedIn cert = HaveWeights (length (certificate_of cert).values + 1) (tables_in cert)

-- ---- lines that fit

-- the atoms ascend, and their number and that of the values are within limits
pub record IsFitScope (evidence : Evidence) (atoms : List ℕ) : Type 0 where
  pub rising : IsTrue (are_rising atoms)
  pub few : length atoms < 2 ^ 32
  pub few_values : length evidence.values.items < 33

-- the atoms ascend, and there is a table to which one more row may belong, with as many weights as its rows have
pub record IsFitRow (tables : List Table) (r : Row) : Type 0 where
  pub some : 0 < length tables
  pub rising : IsTrue (are_rising r.atoms)
  pub weights : HaveWeights (length r.weights) tables
  pub room : All (λ (t : Table). length (table_of t).rows < 16777216) tables

abbrev pub IsFitPart : Evidence → Part → Type 0
IsFitPart evidence (tabled (scope atoms)) = IsFitScope evidence atoms
IsFitPart evidence (tabled (row r)) = IsFitRow evidence.tables.items r
IsFitPart evidence (landmark_line l) = Unit {0}

-- if the line is a part, it may be taken
abbrev pub IsFitHead : Evidence → TextLine → Type 0
IsFitHead evidence (version v) = Unit {0}
IsFitHead evidence (claims claim) = Unit {0}
IsFitHead evidence (constant k) = Unit {0}
IsFitHead evidence (swapped names) = Unit {0}
IsFitHead evidence (atom a) = Unit {0}
IsFitHead evidence (part p) = IsFitPart evidence p
IsFitHead evidence (listed l) = Unit {0}
IsFitHead evidence (last count) = Unit {0}

-- ---- their effect

-- other tables
abbrev pub with_tables : SeveralValues → List model.Table → SeveralValues
with_tables s tables = record { values = s.values; dead_ends = s.dead_ends; tables = tables }

-- a table without rows comes after the others
abbrev pub with_scope : SeveralValues → List ℕ → SeveralValues
with_scope s atoms = with_tables s (s.tables ++ record { scope = atoms; rows = [] } ∷ [])

-- the row was to be added to the last table, with this result
pub record IsAddedToLast (old new : List model.Table) (r : Row) (a : Added) : Type 0 where
  pub front : List model.Table
  pub before : model.Table
  pub after : model.Table
  pub old_are : old ≡ front ++ before ∷ []
  pub new_are : new ≡ front ++ after ∷ []
  pub added : IsAdded before after r a

-- it is the last row
pub record IsRowTaken (old new : SeveralValues) (r : Row) : Type 0 where
  pub tables : List model.Table
  pub added : IsAddedToLast old.tables tables r New
  pub evidence : new ≡ with_tables old tables

-- the refusal at this line says why it is not; or an allocation failed
abbrev pub IsRowRefused : List model.Table → Row → ℕ → Refusal → Type 0
IsRowRefused tables r number (refusal.Line CertForm at) = (at ≡ number) × (new : List model.Table) × IsAddedToLast tables new r OutsideScope
IsRowRefused tables r number (refusal.Line RepeatedRow at) = (at ≡ number) × (new : List model.Table) × IsAddedToLast tables new r Repeated
IsRowRefused tables r number refusal.NoMemory = Unit {0}
IsRowRefused tables r number _ = ⊥

-- ---- any part

-- a line of a table leaves landmark values as they are, and a line of those leaves the tables
abbrev pub IsPartTaken : (old new : Evidence) → Part → Type 0
IsPartTaken old new (tabled (scope atoms)) = (evidence_of new ≡ with_scope (evidence_of old) atoms) × (landmarks_of new.landmarks ≡ landmarks_of old.landmarks)
IsPartTaken old new (tabled (row r)) = IsRowTaken (evidence_of old) (evidence_of new) r × (landmarks_of new.landmarks ≡ landmarks_of old.landmarks)
IsPartTaken old new (landmark_line (zone z)) = (evidence_of new ≡ evidence_of old) × (landmarks_of new.landmarks ≡ with_zone (landmarks_of old.landmarks) z)
IsPartTaken old new (landmark_line (value shares)) = (evidence_of new ≡ evidence_of old) × (landmarks_of new.landmarks ≡ with_value (landmarks_of old.landmarks) shares)

abbrev pub IsPartRefused : List model.Table → Part → ℕ → Refusal → Type 0
IsPartRefused tables (tabled (row r)) number e = IsRowRefused tables r number e
IsPartRefused tables (tabled (scope atoms)) number refusal.NoMemory = Unit {0}
IsPartRefused tables (tabled (scope atoms)) number _ = ⊥
IsPartRefused tables (landmark_line l) number refusal.NoMemory = Unit {0}
IsPartRefused tables (landmark_line l) number _ = ⊥
