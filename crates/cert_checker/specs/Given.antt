-- What the lines of a certificate's text say about a task's certificate.
use Rattle.std.specs.Prelude.{◌≡◌, ◌≢◌, ℕ, zero, suc, ◌+◌, ℤ, Bool, true, false, ◌&&◌, IsTrue, List, [], ◌∷◌, ◌++◌, length, map, All, AllPairs, Contains, Option, None, Some}
use Rattle.std.specs.List.{filter_map, flat_map, range_with_len}
use Rattle.model.specs.Task.{Atom, Task}
use Rattle.model.specs.WellTyped.{is_atom}
use Rattle.model.specs.Fluents.{is_fluent}
use Rattle.model.specs.Claims.{Claim, none}
use Rattle.certificate_definitions.specs.Certificates.{Version}
use Rattle.symmetries_definitions.specs.Exchanges.{Exchange}
use Rattle.lower_bounds.specs.PotentialFunctions.{PotentialFunction}
use Rattle.lower_bounds.specs.TableFunctions.{SeveralValues}
use Rattle.lower_bounds.specs.LandmarkFunctions.{Zone}
use Rattle.lower_bounds.specs.LandmarkLines.{zone, value, Share, NumberedLandmarks}
pub use Rattle.certificate_definitions.specs.CertificateLines.{swap_in, atom_in, part_in, state_in, swaps_given, atoms_given, parts_given, states_given}
use Rattle.certificate_definitions.specs.CertificateText.{NamedAtom, WeightedAtom, TableLine, Part, tabled, landmark_line, TextLine, version, claims, constant, swapped, atom, part, listed, last}
use Rattle.certificate_definitions.specs.CertificateNames.{AllName, exchange_said, table_lines, value_count, weight_said}
use Rattle.certificate_definitions.specs.CertificateChecking.{AreRight}

-- the names of those atoms
abbrev pub names_given : List TextLine → List NamedAtom
names_given lines = map (λ (a : WeightedAtom). a.atom) (atoms_given lines)

-- the part of a table in a part, and in a line
abbrev pub table_line_in : Part → Option TableLine
table_line_in (tabled t) = Some t
table_line_in (landmark_line l) = None

abbrev pub table_in : TextLine → Option TableLine
table_in (version v) = None
table_in (claims claim) = None
table_in (constant k) = None
table_in (swapped names) = None
table_in (atom a) = None
table_in (part p) = table_line_in p
table_in (listed l) = None
table_in (last count) = None

abbrev pub tables_given : List TextLine → List TableLine
tables_given lines = filter_map table_in lines

-- the zone, and the landmark value, in a part
abbrev pub zone_in : Part → Option Zone
zone_in (tabled t) = None
zone_in (landmark_line (zone z)) = Some z
zone_in (landmark_line (value shares)) = None

abbrev pub shares_in : Part → Option (List Share)
shares_in (tabled t) = None
shares_in (landmark_line (zone z)) = None
shares_in (landmark_line (value shares)) = Some shares

-- these are the landmarks of the parts
pub record AreLandmarksOf (parts : List Part) (l : NumberedLandmarks) : Type 0 where
  pub zones : l.zones ≡ filter_map zone_in parts
  pub values : l.values ≡ filter_map shares_in parts

-- the line is a state line or the last line
abbrev pub is_body : TextLine → Bool
is_body (version v) = false
is_body (claims claim) = false
is_body (constant k) = false
is_body (swapped names) = false
is_body (atom a) = false
is_body (part p) = false
is_body (listed l) = true
is_body (last count) = true

-- what these constants and atoms give for the value at this index, from 0
abbrev pub value_given : List ℤ → List WeightedAtom → ℕ → PotentialFunction
value_given constants atoms place = record { constant = weight_said place constants; weights = map (λ (a : WeightedAtom). weight_said place a.weights) atoms }

-- the same for all values of this version
abbrev pub values_given : Version → List ℤ → List WeightedAtom → List PotentialFunction
values_given v constants atoms = map (value_given constants atoms) (range_with_len 0 (value_count v (length constants)))

-- the same for dead ends
abbrev pub dead_ends_given : Version → List ℤ → List WeightedAtom → PotentialFunction
dead_ends_given v constants atoms = value_given constants atoms (value_count v (length constants))

-- the header of a certificate
pub record Heading : Type 0 where
  pub version : Version
  pub claim : Claim
  pub exchanges : List Exchange
  pub atoms : List Atom
  pub evidence : SeveralValues
  pub landmarks : NumberedLandmarks

-- there are as many values as the constants give, with the weights of the atoms
pub record AreGiven (v : Version) (constants : List ℤ) (atoms : List WeightedAtom) (evidence : SeveralValues) : Type 0 where
  pub values : evidence.values ≡ values_given v constants atoms
  pub dead_ends : evidence.dead_ends ≡ dead_ends_given v constants atoms

-- there are no values before the constants
pub record AreNotGiven (evidence : SeveralValues) : Type 0 where
  pub values : evidence.values ≡ []
  pub dead_ends : evidence.dead_ends.weights ≡ []

-- The lines give this header, as far as they go, and each of them is right.
pub record HaveGiven (task : Task) (lines : List TextLine) (heading : Heading) : Type 0 where
  pub one_version : (v : Version) → Contains lines (version v) → heading.version ≡ v
  pub one_claim : (c : Claim) → Contains lines (claims c) → heading.claim ≡ c
  pub none_occurs : heading.claim ≡ none → Contains lines (claims none)
  pub given : (k : List ℤ) → Contains lines (constant k) → AreGiven heading.version k (atoms_given lines) heading.evidence
  pub not_given : ((k : List ℤ) → Contains lines (constant k) → ⊥) → AreNotGiven heading.evidence
  pub exchanged : heading.exchanges ≡ map (exchange_said task) (swaps_given lines)
  pub tables : flat_map table_lines heading.evidence.tables ≡ tables_given lines
  pub landmarks : AreLandmarksOf (parts_given lines) heading.landmarks
  pub named : AllName task (names_given lines) heading.atoms
  pub fluent : All (λ (a : Atom). IsTrue (is_atom task a && is_fluent task a.predicate)) heading.atoms
  pub distinct : AllPairs (λ (a b : Atom). a ≢ b) heading.atoms
  pub right : AreRight task lines

-- ---- one more atom

abbrev pub with_weight : PotentialFunction → ℤ → PotentialFunction
with_weight p w = record { constant = p.constant; weights = p.weights ++ w ∷ [] }

-- the value at this index, from 0, with one more weight
abbrev pub push_at : ℕ → ℤ → List PotentialFunction → List PotentialFunction
push_at place w [] = []
push_at zero w (p ∷ values) = with_weight p w ∷ values
push_at (suc place) w (p ∷ values) = p ∷ push_at place w values

-- each value with one more weight, the one at its index; the first is at this index
abbrev pub with_weights_from : ℕ → List ℤ → List PotentialFunction → List PotentialFunction
with_weights_from place weights [] = []
with_weights_from place weights (p ∷ values) = with_weight p (weight_said place weights) ∷ with_weights_from (place + 1) weights values

-- and dead ends with the one after those
abbrev pub with_weights : SeveralValues → List ℤ → SeveralValues
with_weights s weights = record {
  values = with_weights_from 0 weights s.values;
  dead_ends = with_weight s.dead_ends (weight_said (length s.values) weights);
  tables = s.tables;
}

-- as many values as there are constants for values in this version, without weights, after those before
abbrev pub begun_with : Version → List ℤ → SeveralValues → SeveralValues
begun_with v constants s = record {
  values = s.values ++ values_given v constants [];
  dead_ends = record { constant = weight_said (value_count v (length constants)) constants; weights = s.dead_ends.weights };
  tables = s.tables;
}
