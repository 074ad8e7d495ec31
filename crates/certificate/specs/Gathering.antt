-- A text that is written to a sink in large pieces: bytes are buffered until there are many.
use Rattle.std.specs.Prelude.{◌≡◌, ℕ, ℤ, List, ◌++◌, codes, Option}
use Rattle.std.specs.Fmt.{decimal, signed_decimal}
use Rattle.std.specs.Io.KnownBytes.{Appends}
use Rattle.std.specs.List.{flat_map}
use Rattle.model.specs.Task.{Task}
use Rattle.symmetries_definitions.specs.Exchanges.{Exchange}
use Rattle.lower_bounds.specs.TableFunctions.{Row, Table}
use Rattle.certificate_definitions.specs.Certificates.{Certificate, StateLine}
use Rattle.lower_bounds.specs.LandmarkFunctions.{Zone}
use Rattle.lower_bounds.specs.LandmarkLines.{Share, NumberedLandmarks, zone, value}
use Rattle.certificate_definitions.specs.CertificateText.{WeightedAtom, atom, landmark_line, listed, part, row, scope, swapped, tabled, whole_line}
use Rattle.certificate_definitions.specs.CertificateNames.{named_exchange, weighted_atoms}

-- After the buffered bytes comes this text: a prefix of both went to the sink, and the rest is buffered.
abbrev pub IsPassedOn : (before after : Option (List ℕ)) → (held held_after : List ℕ) → List ℕ → Type 0
IsPassedOn before after held held_after text = (written : List ℕ) × Appends before after written × (held ++ text ≡ written ++ held_after)

-- the lines of an exchange, of an atom with its weights, of a table's scope, of a row, of a zone, of a landmark value, and of a listed
-- state
abbrev pub swap_line : Task → Exchange → List ℕ
swap_line task e = whole_line (swapped (named_exchange task e))

abbrev pub atom_line : WeightedAtom → List ℕ
atom_line a = whole_line (atom a)

abbrev pub scope_line : List ℕ → List ℕ
scope_line numbers = whole_line (part (tabled (scope numbers)))

abbrev pub row_line : Row → List ℕ
row_line r = whole_line (part (tabled (row r)))

abbrev pub zone_line : Zone → List ℕ
zone_line z = whole_line (part (landmark_line (zone z)))

abbrev pub value_line : List Share → List ℕ
value_line shares = whole_line (part (landmark_line (value shares)))

abbrev pub state_line : StateLine → List ℕ
state_line l = whole_line (listed l)

-- the lines of a table
abbrev pub table_text : Table → List ℕ
table_text t = scope_line t.scope ++ flat_map row_line t.rows

-- the lines of the zones, and then those of the landmark values
abbrev pub landmarks_text : NumberedLandmarks → List ℕ
landmarks_text l = flat_map zone_line l.zones ++ flat_map value_line l.values

-- the certificate's atoms, by name, each with its weights
abbrev pub atoms_weighed : Task → Certificate → List WeightedAtom
atoms_weighed task c = weighted_atoms task c 0 c.atoms

-- a blank, followed by a weight or a number
abbrev pub weight_text : ℤ → List ℕ
weight_text weight = codes " " ++ signed_decimal weight

abbrev pub number_text : ℕ → List ℕ
number_text number = codes " " ++ decimal number
