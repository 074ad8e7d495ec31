-- What the state lines of a certificate in memory rest on, in the model's terms.
use Rattle.std.specs.Prelude.{ℕ, ◌+◌, nat_le, Bool, ◌&&◌, ℤ, pos, List, ◌++◌, get_or, length, map}
use Rattle.std.specs.List.{flat_map, list_all}
use Rattle.lower_bounds.specs.PotentialFunctions.{PotentialFunction}
use Rattle.lower_bounds.specs.TableFunctions.{SeveralValues}
use Rattle.table_rows.specs.Tables.{table_of}
use Rattle.lower_bounds.specs.LandmarkLines.{NumberedLandmarks}
use Rattle.certificate_definitions.specs.Certificates.{Version, are_landmarks, are_potentials, are_tables, is_dead_end_weight, is_value_count, is_weight, rows_of}
use Rattle.certificate_definitions.specs.CertificateNames.{weights_in}
use Rattle.certificate.specs.declared.evidence.Evidence.{Evidence}
use Rattle.certificate.specs.declared.evidence.WrittenPotentials.{WrittenPotentials}
use Rattle.certificate.specs.Gathering.{landmarks_text, table_text}

abbrev pub potential_of : WrittenPotentials → PotentialFunction
potential_of p = record { constant = p.constant; weights = p.weights.items }

abbrev pub evidence_of : Evidence → SeveralValues
evidence_of e = record { values = map potential_of e.values.items; dead_ends = potential_of e.dead_ends; tables = map table_of e.tables.items }

-- the limits of a certificate of this version and with this many atoms, for its values and tables, and for its landmark values
abbrev pub is_evidence : Version → ℕ → SeveralValues → NumberedLandmarks → Bool
is_evidence version atom_count s l =
    is_value_count version (length s.values) && list_all (are_potentials is_weight atom_count) s.values && are_potentials (is_dead_end_weight version) atom_count s.dead_ends
    && are_tables version atom_count (length s.values + 1) s.tables && nat_le (length s.tables) 4194304 && nat_le (length (rows_of s.tables)) 4194304
    && are_landmarks version atom_count l

-- the number of lines of the tables, each with its rows, of the zones and of the landmark values
abbrev pub line_count : SeveralValues → NumberedLandmarks → ℕ
line_count s l = length s.tables + length (rows_of s.tables) + length l.zones + length l.values

-- the lines of the tables, and then those of the zones and of the landmark values
abbrev pub parts_text : SeveralValues → NumberedLandmarks → List ℕ
parts_text s l = flat_map table_text s.tables ++ landmarks_text l

-- the constants, as this version writes them, and the weights of the atom at this index, from 0
abbrev pub constants_in : Version → SeveralValues → List ℤ
constants_in version s = weights_in version (map (λ (p : PotentialFunction). p.constant) s.values) s.dead_ends.constant

abbrev pub weights_at : Version → SeveralValues → ℕ → List ℤ
weights_at version s place = weights_in version (map (λ (p : PotentialFunction). get_or p.weights place (pos 0)) s.values) (get_or s.dead_ends.weights place (pos 0))
