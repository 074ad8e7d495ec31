-- The parts of a certificate's text: the lines between its atoms and its states, which give what state lines rest on. Each kind of
-- evidence has its constructor of `Part`, and an arm of each function here; nothing else of a text knows the kinds.
use Rattle.std.specs.Prelude.{ℕ, ◌+◌, Bool, true, ◌&&◌, ◌==◌, nat_le, nat_lt, ℤ, List, [], ◌∷◌, ◌++◌, codes, length}
use Rattle.std.specs.Fmt.{decimal, signed_decimal}
use Rattle.std.specs.List.{flat_map}
use Rattle.certificate_definitions.specs.Certificates.{Version, rise, are_weights, has_landmarks, has_tables}
use Rattle.lower_bounds.specs.LandmarkLines.{LandmarkLine, zone, value, line_text, is_zone, is_value, most_zones, most_values, most_entries}
use Rattle.lower_bounds.specs.TableFunctions.{Row}

-- ---- numbers and weights of a line

-- a blank and this word
abbrev pub after_blank : List ℕ → List ℕ
after_blank word = codes " " ++ word

-- constants, weights or numbers, with a blank before each
abbrev pub weights_text : List ℤ → List ℕ
weights_text = flat_map (λ (w : ℤ). after_blank (signed_decimal w))

abbrev pub numbers_text : List ℕ → List ℕ
numbers_text = flat_map (λ (number : ℕ). after_blank (decimal number))

-- The form of the lines of a text: its version, the number of weights of an atom, and the number of atoms.
pub record Format : Type 0 where
  pub version : Version
  pub weights : ℕ
  pub atoms : ℕ

-- ---- tables

-- a line of a table: a scope, which begins it, or a row, which belongs to the last scope before it
pub data TableLine : Type 0 where
  scope : List ℕ → TableLine
  row : Row → TableLine

abbrev pub table_line_text : TableLine → List ℕ
table_line_text (scope atoms) = codes "table" ++ numbers_text atoms
table_line_text (row r) = codes "row" ++ weights_text r.weights ++ numbers_text r.atoms

-- a scope has at least one atom; a row may have none
abbrev pub is_table_line : Format → TableLine → Bool
is_table_line f (scope atoms) = rise f.atoms 0 atoms && nat_le 1 (length atoms)
is_table_line f (row r) = are_weights f.weights r.weights && rise f.atoms 0 r.atoms

-- the maximum number of tables
abbrev pub most_tables : ℕ
most_tables = 4194304

-- the maximum number of rows of all tables together
abbrev pub most_rows : ℕ
most_rows = 4194304

-- ---- parts

-- the maximum length of a line, in bytes without LF
abbrev pub longest_line : ℕ
longest_line = 16777216

-- a part, by its kind
pub data Part : Type 0 where
  tabled : TableLine → Part
  landmark_line : LandmarkLine → Part

-- the bytes of a part, without its LF
abbrev pub part_text : Part → List ℕ
part_text (tabled t) = table_line_text t
part_text (landmark_line l) = line_text l

-- The part by itself is within the limits, in a text of this format. Of a landmark value, whose line may be long, that is one of them.
abbrev pub is_part : Format → Part → Bool
is_part f (tabled t) = has_tables f.version && is_table_line f t
is_part f (landmark_line (zone z)) = has_landmarks f.version && is_zone f.atoms z
is_part f (landmark_line (value shares)) = has_landmarks f.version && is_value most_zones shares && nat_le (length (line_text (value shares))) longest_line

-- the numbers of parts so far, and of the literals of all zones and the shares of all landmark values
pub record PartCounts : Type 0 where
  pub tables : ℕ
  pub rows : ℕ
  pub zones : ℕ
  pub literals : ℕ
  pub values : ℕ
  pub shares : ℕ

abbrev pub no_parts : PartCounts
no_parts = record { tables = 0; rows = 0; zones = 0; literals = 0; values = 0; shares = 0 }

-- all of them
abbrev pub how_many : PartCounts → ℕ
how_many c = c.tables + c.rows + c.zones + c.values

-- with this part
abbrev pub counted : PartCounts → Part → PartCounts
counted c (tabled (scope atoms)) = record { tables = c.tables + 1; rows = c.rows; zones = c.zones; literals = c.literals; values = c.values; shares = c.shares }
counted c (tabled (row r)) = record { tables = c.tables; rows = c.rows + 1; zones = c.zones; literals = c.literals; values = c.values; shares = c.shares }
counted c (landmark_line (zone z)) = record { tables = c.tables; rows = c.rows; zones = c.zones + 1; literals = c.literals + (length z.atoms + length z.negated); values = c.values; shares = c.shares }
counted c (landmark_line (value shares)) = record { tables = c.tables; rows = c.rows; zones = c.zones; literals = c.literals; values = c.values + 1; shares = c.shares + length shares }

-- its place among the parts: tables come before zones, and these before landmark values; a row comes after a scope; and the zones of a
-- value are among those before it
abbrev pub may_follow : PartCounts → Part → Bool
may_follow c (tabled (scope atoms)) = c.zones == 0
may_follow c (tabled (row r)) = nat_lt 0 c.tables && (c.zones == 0)
may_follow c (landmark_line (zone z)) = c.values == 0
may_follow c (landmark_line (value shares)) = is_value c.zones shares

-- one more of its kind is within the limits
abbrev pub has_room : PartCounts → Part → Bool
has_room c (tabled (scope atoms)) = nat_lt c.tables most_tables
has_room c (tabled (row r)) = nat_lt c.rows most_rows
has_room c (landmark_line (zone z)) = nat_lt c.zones most_zones && nat_le (c.literals + (length z.atoms + length z.negated)) most_entries
has_room c (landmark_line (value shares)) = nat_lt c.values most_values && nat_le (c.shares + length shares) most_entries

-- the counts are within the limits
abbrev pub are_few : PartCounts → Bool
are_few c = (nat_le c.tables most_tables && nat_le c.rows most_rows) && (nat_le c.zones most_zones && nat_le c.literals most_entries) && (nat_le c.values most_values && nat_le c.shares most_entries)

-- after parts with these counts, each of these is at its place, and within the limits
abbrev pub are_in_order : PartCounts → List Part → Bool
are_in_order c [] = true
are_in_order c (p ∷ parts) = may_follow c p && has_room c p && are_in_order (counted c p) parts

-- the counts after these parts
abbrev pub counts_after : PartCounts → List Part → PartCounts
counts_after c [] = c
counts_after c (p ∷ parts) = counts_after (counted c p) parts
