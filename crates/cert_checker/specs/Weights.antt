-- A certificate's values for a ground task that may number more atoms than the certificate's.
use Rattle.std.specs.Prelude.{◌≡◌, ℕ, ◌+◌, All, List, [], ◌∷◌, Some, length, slice_get}
use Rattle.certificate.specs.declared.cert.Cert.{Cert}
use Rattle.certificate.specs.Certificate.{certificate_of, tables_in}
use Rattle.lower_bounds.specs.PotentialFunctions.{PotentialFunction, weight}
use Rattle.lower_bounds.specs.TableFunctions.{SeveralValues}
use Rattle.table_rows.specs.declared.table.Table.{Table}
use Rattle.table_rows.specs.Tables.{weight_count_of}

-- one weight for each number below the width: that of the certificate's atom, and 0 for others
pub record HasItsWeights (said : PotentialFunction) (width : ℕ) (p : PotentialFunction) : Type 0 where
  pub constant : p.constant ≡ said.constant
  pub weights : (number : ℕ) → weight p.weights number ≡ weight said.weights number
  pub as_many : length p.weights ≡ width

-- the same for each of several
abbrev pub AreWidened : List PotentialFunction → ℕ → List PotentialFunction → Type 0
AreWidened [] width [] = Unit {0}
AreWidened (said ∷ more) width (p ∷ others) = HasItsWeights said width p × AreWidened more width others
AreWidened _ width _ = ⊥

-- the same for each value and that for dead ends, over the same tables
pub record HaveTheirWeights (said : SeveralValues) (width : ℕ) (s : SeveralValues) : Type 0 where
  pub as_many : length s.values ≡ length said.values
  pub values : (place : ℕ) (p q : PotentialFunction) → slice_get said.values place ≡ Some p → slice_get s.values place ≡ Some q → HasItsWeights p width q
  pub dead_ends : HasItsWeights said.dead_ends width s.dead_ends
  pub tables : s.tables ≡ said.tables

-- the rows of each table have a weight for each value and one for dead ends
abbrev pub AreCounted : Cert → Type 0
AreCounted cert = All (λ (t : Table). weight_count_of t ≡ length (certificate_of cert).values + 1) (tables_in cert)
