-- The parts of a text by their kinds: the lines of tables, the zones, and the landmark values. In this order they come.
use Rattle.std.proofs.Common.{◌≡◌, ℕ, ◌+◌, ◌<◌, ◌≤◌, Bool, true, false, true≢false, List, [], ◌∷◌, ◌++◌, map, length, refl, sym, ap, ◌∙◌, subst, append_assoc, append-nil, length-append, arith}
use Rattle.std.specs.Prelude.{◌&&◌, ◌==◌, nat_le, nat_lt, IsTrue, sum_by}
use Rattle.std.specs.List.{filter_map, flat_map, list_all}
use Rattle.std.proofs.lemmas.Bool.{and_parts, eqb-true, leb-true, lt-ltb, ltb-true, le-leb, eq-eqb}
use Rattle.std.proofs.lemmas.List.Elements.{filter_map-append}
use Rattle.std.proofs.lemmas.List.{map-append}
use Rattle.std.proofs.lemmas.List.Sums.{sum_by-cons}
use Rattle.lower_bounds.specs.TableFunctions.{Row, Table}
use Rattle.lower_bounds.specs.LandmarkFunctions.{Zone}
use Rattle.lower_bounds.specs.LandmarkLines.{LandmarkLine, zone, value, Share, NumberedLandmarks, lines_of, rise, is_value, is_share, literal_count, share_count, most_zones, most_values, most_entries}
use Rattle.certificate_definitions.specs.Certificates.{Certificate, rows_of}
use Rattle.certificate_definitions.specs.CertificateText.{TableLine, row, scope, tabled, landmark_line, Part, TextLine, version, claims, constant, swapped, atom, part, listed, last}
use Rattle.certificate_definitions.specs.CertificateLines.{parts_given}
use Rattle.certificate_definitions.specs.CertificateNames.{table_lines, parts_of}
use Rattle.certificate_definitions.specs.Parts.{PartCounts, no_parts, counted, counts_after, are_few, are_in_order, may_follow, has_room, most_rows, most_tables}
use Rattle.certificate_definitions.proofs.PartLemmas.{in_order_few}
use Rattle.cert_checker.specs.Given.{table_line_in, tables_given, zone_in, shares_in}

abbrev pub as_parts : List TableLine → List Part
as_parts lines = map (λ (t : TableLine). tabled t) lines

abbrev pub as_landmarks : List LandmarkLine → List Part
as_landmarks lines = map (λ (l : LandmarkLine). landmark_line l) lines

-- the parts that these lines of tables, zones and values are
abbrev pub parts_with : List TableLine → List Zone → List (List Share) → List Part
parts_with tables zones values = as_parts tables ++ as_landmarks (map zone zones ++ map value values)

-- the lines of tables among the parts of some lines
pub tables_among : (lines : List TextLine) → filter_map table_line_in (parts_given lines) ≡ tables_given lines
tables_among [] = refl
tables_among (version v ∷ lines) = tables_among lines
tables_among (claims claim ∷ lines) = tables_among lines
tables_among (constant k ∷ lines) = tables_among lines
tables_among (swapped names ∷ lines) = tables_among lines
tables_among (atom a ∷ lines) = tables_among lines
tables_among (part (tabled t) ∷ lines) = ap (λ tables. t ∷ tables) (tables_among lines)
tables_among (part (landmark_line l) ∷ lines) = tables_among lines
tables_among (listed l ∷ lines) = tables_among lines
tables_among (last count ∷ lines) = tables_among lines

-- ---- the kinds of parts that are in order

-- a value has a zone
some_zone : (count : ℕ) (shares : List Share) → is_value count shares ≡ true → 0 < count
some_zone count [] is = absurd (true≢false (sym (and_parts true false (and_parts (true && false) true is).0).1))
some_zone count (s ∷ shares) is =
    let numbers : List ℕ = map (λ (s : Share). s.zone) shares in
    let rises = (and_parts (rise count 0 (s.zone ∷ numbers)) (nat_le 1 (length (s ∷ shares))) (and_parts (rise count 0 (s.zone ∷ numbers) && nat_le 1 (length (s ∷ shares))) (list_all is_share (s ∷ shares)) is).0).0 in
    let here = (and_parts (nat_le 0 s.zone && nat_lt s.zone count) (rise count (s.zone + 1) numbers) rises).0 in
    let below = ltb-true s.zone count (and_parts (nat_le 0 s.zone) (nat_lt s.zone count) here).1 in
    omega (arith, below)

-- the part may follow, and the others come after it
in_order_parts : (c : PartCounts) (p : Part) (parts : List Part) → are_in_order c (p ∷ parts) ≡ true → (may_follow c p ≡ true) × (has_room c p ≡ true) × (are_in_order (counted c p) parts ≡ true)
in_order_parts c p parts ordered =
    let (here, more) = and_parts (may_follow c p && has_room c p) (are_in_order (counted c p) parts) ordered in
    let (follows, room) = and_parts (may_follow c p) (has_room c p) here in
    (follows, room, more)

-- before a line of a table there is no zone
pub zones_none : (c : PartCounts) (t : TableLine) → may_follow c (tabled t) ≡ true → c.zones ≡ 0
zones_none c (scope s) follows = eqb-true c.zones 0 follows
zones_none c (row r) follows = eqb-true c.zones 0 (and_parts (nat_lt 0 c.tables) (c.zones == 0) follows).1

zones_kept : (c : PartCounts) (t : TableLine) → (counted c (tabled t)).zones ≡ c.zones
zones_kept c (scope s) = refl
zones_kept c (row r) = refl

values_kept : (c : PartCounts) (t : TableLine) → (counted c (tabled t)).values ≡ c.values
values_kept c (scope s) = refl
values_kept c (row r) = refl

no_tables_after : (c : PartCounts) (parts : List Part) → 0 < c.zones → are_in_order c parts ≡ true → filter_map table_line_in parts ≡ []
no_tables_after c [] some ordered = refl
no_tables_after c (tabled t ∷ parts) some ordered = absurd (omega (arith, some, zones_none c t (in_order_parts c (tabled t) parts ordered).0))
no_tables_after c (landmark_line (zone z) ∷ parts) some ordered = no_tables_after (counted c (landmark_line (zone z))) parts (omega arith) (in_order_parts c (landmark_line (zone z)) parts ordered).2
no_tables_after c (landmark_line (value s) ∷ parts) some ordered = no_tables_after (counted c (landmark_line (value s))) parts some (in_order_parts c (landmark_line (value s)) parts ordered).2

no_zones_after : (c : PartCounts) (parts : List Part) → 0 < c.values → are_in_order c parts ≡ true → filter_map zone_in parts ≡ []
no_zones_after c [] some ordered = refl
no_zones_after c (tabled t ∷ parts) some ordered = no_zones_after (counted c (tabled t)) parts (omega (arith, some, values_kept c t)) (in_order_parts c (tabled t) parts ordered).2
no_zones_after c (landmark_line (zone z) ∷ parts) some ordered = absurd (omega (arith, some, eqb-true c.values 0 (in_order_parts c (landmark_line (zone z)) parts ordered).0))
no_zones_after c (landmark_line (value s) ∷ parts) some ordered = no_zones_after (counted c (landmark_line (value s))) parts (omega arith) (in_order_parts c (landmark_line (value s)) parts ordered).2

-- tables come first, then zones, then values
pub by_kind : (c : PartCounts) (parts : List Part) → are_in_order c parts ≡ true → parts ≡ parts_with (filter_map table_line_in parts) (filter_map zone_in parts) (filter_map shares_in parts)
by_kind c [] ordered = refl
by_kind c (tabled t ∷ parts) ordered = ap (λ (rest : List Part). tabled t ∷ rest) (by_kind (counted c (tabled t)) parts (in_order_parts c (tabled t) parts ordered).2)
by_kind c (landmark_line (zone z) ∷ parts) ordered =
    let p : Part = landmark_line (zone z) in
    let more = (in_order_parts c p parts ordered).2 in
    let zones : List Zone = filter_map zone_in parts in
    let values : List (List Share) = filter_map shares_in parts in
    let none = no_tables_after (counted c p) parts (omega arith) more in
    ap (λ (rest : List Part). p ∷ rest) (by_kind (counted c p) parts more ∙ ap (λ tables. parts_with tables zones values) none) ∙ ap (λ tables. parts_with tables (z ∷ zones) values) (sym none)
by_kind c (landmark_line (value s) ∷ parts) ordered =
    let p : Part = landmark_line (value s) in
    let (follows, _, more) = in_order_parts c p parts ordered in
    let zones : List Zone = filter_map zone_in parts in
    let values : List (List Share) = filter_map shares_in parts in
    let none = no_tables_after (counted c p) parts (some_zone c.zones s follows) more in
    let no_zone = no_zones_after (counted c p) parts (omega arith) more in
    ap (λ (rest : List Part). p ∷ rest) (by_kind (counted c p) parts more ∙ (λ i. parts_with (none i) (no_zone i) values)) ∙ (λ i. parts_with (sym none i) (sym no_zone i) (s ∷ values))

zones_grow : (c : PartCounts) (parts : List Part) → c.zones ≤ (counts_after c parts).zones
zones_grow c [] = omega arith
zones_grow c (tabled t ∷ parts) = omega (arith, zones_grow (counted c (tabled t)) parts, zones_kept c t)
zones_grow c (landmark_line (zone z) ∷ parts) = omega (arith, zones_grow (counted c (landmark_line (zone z))) parts)
zones_grow c (landmark_line (value s) ∷ parts) = zones_grow (counted c (landmark_line (value s))) parts

-- where there is no zone, all are lines of tables
pub only_tables : (c : PartCounts) (parts : List Part) → are_in_order c parts ≡ true → (counts_after c parts).zones ≡ 0 → parts ≡ as_parts (filter_map table_line_in parts)
only_tables c [] ordered none = refl
only_tables c (tabled t ∷ parts) ordered none = ap (λ (rest : List Part). tabled t ∷ rest) (only_tables (counted c (tabled t)) parts (in_order_parts c (tabled t) parts ordered).2 none)
only_tables c (landmark_line (zone z) ∷ parts) ordered none = absurd (omega (arith, none, zones_grow (counted c (landmark_line (zone z))) parts))
only_tables c (landmark_line (value s) ∷ parts) ordered none =
    absurd (omega (arith, none, zones_grow (counted c (landmark_line (value s))) parts, some_zone c.zones s (in_order_parts c (landmark_line (value s)) parts ordered).0))

-- ---- and back

tables_back : (lines : List TableLine) → filter_map table_line_in (as_parts lines) ≡ lines
tables_back [] = refl
tables_back (t ∷ lines) = ap (λ (lines : List TableLine). t ∷ lines) (tables_back lines)

no_table_there : (lines : List LandmarkLine) → filter_map table_line_in (as_landmarks lines) ≡ []
no_table_there [] = refl
no_table_there (l ∷ lines) = no_table_there lines

no_zone_there : (lines : List TableLine) → filter_map zone_in (as_parts lines) ≡ []
no_zone_there [] = refl
no_zone_there (t ∷ lines) = no_zone_there lines

no_value_there : (lines : List TableLine) → filter_map shares_in (as_parts lines) ≡ []
no_value_there [] = refl
no_value_there (t ∷ lines) = no_value_there lines

zones_back : (zones : List Zone) (values : List (List Share)) → filter_map zone_in (as_landmarks (map zone zones ++ map value values)) ≡ zones
zones_back [] [] = refl
zones_back [] (s ∷ values) = zones_back [] values
zones_back (z ∷ zones) values = ap (λ (zones : List Zone). z ∷ zones) (zones_back zones values)

values_back : (zones : List Zone) (values : List (List Share)) → filter_map shares_in (as_landmarks (map zone zones ++ map value values)) ≡ values
values_back [] [] = refl
values_back [] (s ∷ values) = ap (λ (values : List (List Share)). s ∷ values) (values_back [] values)
values_back (z ∷ zones) values = values_back zones values

pub tables_of_parts : (tables : List TableLine) (zones : List Zone) (values : List (List Share)) → filter_map table_line_in (parts_with tables zones values) ≡ tables
tables_of_parts tables zones values =
    filter_map-append table_line_in (as_parts tables) (as_landmarks (map zone zones ++ map value values)) ∙ (λ i. tables_back tables i ++ no_table_there (map zone zones ++ map value values) i) ∙ append-nil tables

pub zones_of_parts : (tables : List TableLine) (zones : List Zone) (values : List (List Share)) → filter_map zone_in (parts_with tables zones values) ≡ zones
zones_of_parts tables zones values =
    filter_map-append zone_in (as_parts tables) (as_landmarks (map zone zones ++ map value values)) ∙ (λ i. no_zone_there tables i ++ zones_back zones values i)

pub values_of_parts : (tables : List TableLine) (zones : List Zone) (values : List (List Share)) → filter_map shares_in (parts_with tables zones values) ≡ values
values_of_parts tables zones values =
    filter_map-append shares_in (as_parts tables) (as_landmarks (map zone zones ++ map value values)) ∙ (λ i. no_value_there tables i ++ values_back zones values i)

-- ---- counts

zero_more : (n : ℕ) → n ≡ n + 0
zero_more n = omega arith

from_zero : (n : ℕ) → 0 + n ≡ n
from_zero n = omega arith

-- with other numbers of tables and rows
abbrev pub tables_counted : PartCounts → (tables rows : ℕ) → PartCounts
tables_counted c tables rows = record { tables = tables; rows = rows; zones = c.zones; literals = c.literals; values = c.values; shares = c.shares }

past_rows : (c : PartCounts) (rows : List Row) (more : List Part) → counts_after c (as_parts (map row rows) ++ more) ≡ counts_after (tables_counted c c.tables (c.rows + length rows)) more
past_rows c [] more = λ i. counts_after (tables_counted c c.tables (zero_more c.rows i)) more
past_rows c (r ∷ rows) more =
    let same : (c.rows + 1) + length rows ≡ c.rows + length (r ∷ rows) = omega arith in
    past_rows (tables_counted c c.tables (c.rows + 1)) rows more ∙ (λ i. counts_after (tables_counted c c.tables (same i)) more)

-- the lines of a table come first
table_first : (t : Table) (tables : List Table) (more : List Part) → as_parts (flat_map table_lines (t ∷ tables)) ++ more ≡ tabled (scope t.scope) ∷ (as_parts (map row t.rows) ++ (as_parts (flat_map table_lines tables) ++ more))
table_first t tables more =
    ap (λ (rest : List Part). tabled (scope t.scope) ∷ rest)
    (ap (λ (rest : List Part). rest ++ more) (map-append (λ (t : TableLine). tabled t) (map row t.rows) (flat_map table_lines tables)) ∙ append_assoc (as_parts (map row t.rows)) (as_parts (flat_map table_lines tables)) more)

-- there are as many scopes as tables, and as many row lines as rows of tables
past_tables : (c : PartCounts) (tables : List Table) (more : List Part)
    → counts_after c (as_parts (flat_map table_lines tables) ++ more) ≡ counts_after (tables_counted c (c.tables + length tables) (c.rows + length (rows_of tables))) more
past_tables c [] more = λ i. counts_after (tables_counted c (zero_more c.tables i) (zero_more c.rows i)) more
past_tables c (t ∷ tables) more =
    let scopes : (c.tables + 1) + length tables ≡ c.tables + length (t ∷ tables) = omega arith in
    let rows : (c.rows + length t.rows) + length (rows_of tables) ≡ c.rows + length (rows_of (t ∷ tables)) = omega (arith, length-append t.rows (rows_of tables)) in
    ap (counts_after c) (table_first t tables more)
    ∙ past_rows (tables_counted c (c.tables + 1) c.rows) t.rows (as_parts (flat_map table_lines tables) ++ more)
    ∙ past_tables (tables_counted c (c.tables + 1) (c.rows + length t.rows)) tables more
    ∙ (λ i. counts_after (tables_counted c (scopes i) (rows i)) more)

pub counts_of_tables : (tables : List Table) → counts_after no_parts (as_parts (flat_map table_lines tables)) ≡ tables_counted no_parts (length tables) (length (rows_of tables))
counts_of_tables tables =
    ap (counts_after no_parts) (sym (append-nil (as_parts (flat_map table_lines tables)))) ∙ past_tables no_parts tables []
    ∙ (λ i. tables_counted no_parts (from_zero (length tables) i) (from_zero (length (rows_of tables)) i))

literals_more : (z : Zone) (zones : List Zone) → literal_count (z ∷ zones) ≡ (length z.atoms + length z.negated) + literal_count zones
literals_more z zones = sum_by-cons (λ (z : Zone). length z.atoms + length z.negated) z zones

shares_more : (s : List Share) (values : List (List Share)) → share_count (s ∷ values) ≡ length s + share_count values
shares_more s values = sum_by-cons (λ (s : List Share). length s) s values

-- with other numbers of zones and literals
abbrev pub zones_counted : PartCounts → (zones literals : ℕ) → PartCounts
zones_counted c zones literals = record { tables = c.tables; rows = c.rows; zones = zones; literals = literals; values = c.values; shares = c.shares }

past_zones : (c : PartCounts) (zones : List Zone) (more : List LandmarkLine)
    → counts_after c (as_landmarks (map zone zones ++ more)) ≡ counts_after (zones_counted c (c.zones + length zones) (c.literals + literal_count zones)) (as_landmarks more)
past_zones c [] more = λ i. counts_after (zones_counted c (zero_more c.zones i) (zero_more c.literals i)) (as_landmarks more)
past_zones c (z ∷ zones) more =
    let many : (c.zones + 1) + length zones ≡ c.zones + length (z ∷ zones) = omega arith in
    let literals : (c.literals + (length z.atoms + length z.negated)) + literal_count zones ≡ c.literals + literal_count (z ∷ zones) = omega (arith, literals_more z zones) in
    past_zones (zones_counted c (c.zones + 1) (c.literals + (length z.atoms + length z.negated))) zones more
    ∙ (λ i. counts_after (zones_counted c (many i) (literals i)) (as_landmarks more))

-- with other numbers of values and shares
abbrev pub values_counted : PartCounts → (values shares : ℕ) → PartCounts
values_counted c values shares = record { tables = c.tables; rows = c.rows; zones = c.zones; literals = c.literals; values = values; shares = shares }

past_values : (c : PartCounts) (values : List (List Share)) → counts_after c (as_landmarks (map value values)) ≡ values_counted c (c.values + length values) (c.shares + share_count values)
past_values c [] = λ i. values_counted c (zero_more c.values i) (zero_more c.shares i)
past_values c (s ∷ values) =
    let many : (c.values + 1) + length values ≡ c.values + length (s ∷ values) = omega arith in
    let shares : (c.shares + length s) + share_count values ≡ c.shares + share_count (s ∷ values) = omega (arith, shares_more s values) in
    past_values (values_counted c (c.values + 1) (c.shares + length s)) values ∙ (λ i. values_counted c (many i) (shares i))

-- the counts of the parts of these tables and landmarks
abbrev pub counts_with : List Table → NumberedLandmarks → PartCounts
counts_with tables l = record {
  tables = length tables;
  rows = length (rows_of tables);
  zones = length l.zones;
  literals = literal_count l.zones;
  values = length l.values;
  shares = share_count l.values;
}

pub counts_of_parts : (tables : List Table) (l : NumberedLandmarks) → counts_after no_parts (parts_with (flat_map table_lines tables) l.zones l.values) ≡ counts_with tables l
counts_of_parts tables l =
    past_tables no_parts tables (as_landmarks (lines_of l))
    ∙ past_zones (tables_counted no_parts (0 + length tables) (0 + length (rows_of tables))) l.zones (map value l.values)
    ∙ past_values (zones_counted (tables_counted no_parts (0 + length tables) (0 + length (rows_of tables))) (0 + length l.zones) (0 + literal_count l.zones)) l.values
    ∙ (λ i. record {
      tables = from_zero (length tables) i;
      rows = from_zero (length (rows_of tables)) i;
      zones = from_zero (length l.zones) i;
      literals = from_zero (literal_count l.zones) i;
      values = from_zero (length l.values) i;
      shares = from_zero (share_count l.values) i;
    })

-- parts that are in order are those of tables and landmarks within the limits
pub record AreFew (tables : List Table) (l : NumberedLandmarks) : Type 0 where
  pub tables_few : nat_le (length tables) most_tables ≡ true
  pub rows_few : nat_le (length (rows_of tables)) most_rows ≡ true
  pub zones_few : nat_le (length l.zones) most_zones ≡ true
  pub literals_few : nat_le (literal_count l.zones) most_entries ≡ true
  pub values_few : nat_le (length l.values) most_values ≡ true
  pub shares_few : nat_le (share_count l.values) most_entries ≡ true

each_few : (tables : List Table) (l : NumberedLandmarks) → IsTrue (are_few (counts_with tables l)) → AreFew tables l
each_few tables l few =
    let t = nat_le (length tables) most_tables in
    let r = nat_le (length (rows_of tables)) most_rows in
    let z = nat_le (length l.zones) most_zones in
    let e = nat_le (literal_count l.zones) most_entries in
    let v = nat_le (length l.values) most_values in
    let s = nat_le (share_count l.values) most_entries in
    let (front, third) = and_parts ((t && r) && (z && e)) (v && s) few in
    let (first, second) = and_parts (t && r) (z && e) front in
    record {
      tables_few = (and_parts t r first).0;
      rows_few = (and_parts t r first).1;
      zones_few = (and_parts z e second).0;
      literals_few = (and_parts z e second).1;
      values_few = (and_parts v s third).0;
      shares_few = (and_parts v s third).1;
    }

pub few_of_ordered : (parts : List Part) (tables : List Table) (l : NumberedLandmarks) → parts ≡ parts_with (flat_map table_lines tables) l.zones l.values → IsTrue (are_in_order no_parts parts) → AreFew tables l
few_of_ordered parts tables l are ordered =
    each_few tables l (subst (λ c. IsTrue (are_few c)) (ap (counts_after no_parts) are ∙ counts_of_parts tables l) (in_order_few parts ordered))

-- ---- in order

both_true : (a b : Bool) → a ≡ true → b ≡ true → a && b ≡ true
both_true a b x y = λ i. x i && y i

-- the zones of each of these values are those before
values_follow : (c : PartCounts) (values : List (List Share)) → list_all (is_value c.zones) values ≡ true → c.values + length values ≤ most_values → c.shares + share_count values ≤ most_entries
    → are_in_order c (as_landmarks (map value values)) ≡ true
values_follow c [] are few shares = refl
values_follow c (s ∷ values) are few shares =
    let (here, more) = and_parts (is_value c.zones s) (list_all (is_value c.zones) values) are in
    let next : PartCounts = counted c (landmark_line (value s)) in
    both_true (is_value c.zones s && (nat_lt c.values most_values && nat_le (c.shares + length s) most_entries)) (are_in_order next (as_landmarks (map value values)))
    (both_true (is_value c.zones s) (nat_lt c.values most_values && nat_le (c.shares + length s) most_entries) here
    (both_true (nat_lt c.values most_values) (nat_le (c.shares + length s) most_entries) (lt-ltb c.values most_values (omega (arith, few))) (le-leb (c.shares + length s) most_entries (omega (arith, shares, shares_more s values)))))
    (values_follow next values more (omega (arith, few)) (omega (arith, shares, shares_more s values)))

zones_follow : (c : PartCounts) (zones : List Zone) (more : List LandmarkLine) → c.values ≡ 0 → c.zones + length zones ≤ most_zones → c.literals + literal_count zones ≤ most_entries
    → are_in_order (zones_counted c (c.zones + length zones) (c.literals + literal_count zones)) (as_landmarks more) ≡ true → are_in_order c (as_landmarks (map zone zones ++ more)) ≡ true
zones_follow c [] more none few literals ordered = subst (λ (d : PartCounts). are_in_order d (as_landmarks more) ≡ true) (λ i. zones_counted c (sym (zero_more c.zones) i) (sym (zero_more c.literals) i)) ordered
zones_follow c (z ∷ zones) more none few literals ordered =
    let next : PartCounts = counted c (landmark_line (zone z)) in
    let own = length z.atoms + length z.negated in
    let many : c.zones + length (z ∷ zones) ≡ (c.zones + 1) + length zones = omega arith in
    let all : c.literals + literal_count (z ∷ zones) ≡ (c.literals + own) + literal_count zones = omega (arith, literals_more z zones) in
    both_true ((c.values == 0) && (nat_lt c.zones most_zones && nat_le (c.literals + own) most_entries)) (are_in_order next (as_landmarks (map zone zones ++ more)))
    (both_true (c.values == 0) (nat_lt c.zones most_zones && nat_le (c.literals + own) most_entries) (eq-eqb c.values 0 none)
    (both_true (nat_lt c.zones most_zones) (nat_le (c.literals + own) most_entries) (lt-ltb c.zones most_zones (omega (arith, few))) (le-leb (c.literals + own) most_entries (omega (arith, literals, literals_more z zones)))))
    (zones_follow next zones more none (omega (arith, few)) (omega (arith, literals, literals_more z zones)) (subst (λ (d : PartCounts). are_in_order d (as_landmarks more) ≡ true) (λ i. zones_counted c (many i) (all i)) ordered))

rows_follow : (c : PartCounts) (rows : List Row) (more : List Part) → 0 < c.tables → c.zones ≡ 0 → c.rows + length rows ≤ most_rows
    → are_in_order (tables_counted c c.tables (c.rows + length rows)) more ≡ true → are_in_order c (as_parts (map row rows) ++ more) ≡ true
rows_follow c [] more some none few ordered = subst (λ (n : ℕ). are_in_order (tables_counted c c.tables n) more ≡ true) (sym (zero_more c.rows)) ordered
rows_follow c (r ∷ rows) more some none few ordered =
    let next : PartCounts = tables_counted c c.tables (c.rows + 1) in
    let many : c.rows + length (r ∷ rows) ≡ (c.rows + 1) + length rows = omega arith in
    both_true ((nat_lt 0 c.tables && (c.zones == 0)) && nat_lt c.rows most_rows) (are_in_order next (as_parts (map row rows) ++ more))
    (both_true (nat_lt 0 c.tables && (c.zones == 0)) (nat_lt c.rows most_rows) (both_true (nat_lt 0 c.tables) (c.zones == 0) (lt-ltb 0 c.tables some) (eq-eqb c.zones 0 none)) (lt-ltb c.rows most_rows (omega (arith, few))))
    (rows_follow next rows more some none (omega (arith, few)) (subst (λ (n : ℕ). are_in_order (tables_counted c c.tables n) more ≡ true) many ordered))

tables_follow : (c : PartCounts) (tables : List Table) (more : List Part) → c.zones ≡ 0 → c.tables + length tables ≤ most_tables → c.rows + length (rows_of tables) ≤ most_rows
    → are_in_order (tables_counted c (c.tables + length tables) (c.rows + length (rows_of tables))) more ≡ true → are_in_order c (as_parts (flat_map table_lines tables) ++ more) ≡ true
tables_follow c [] more none few few_rows ordered = subst (λ (d : PartCounts). are_in_order d more ≡ true) (λ i. tables_counted c (sym (zero_more c.tables) i) (sym (zero_more c.rows) i)) ordered
tables_follow c (t ∷ tables) more none few few_rows ordered =
    let next : PartCounts = tables_counted c (c.tables + 1) c.rows in
    let rest : List Part = as_parts (flat_map table_lines tables) ++ more in
    let long = length-append t.rows (rows_of tables) in
    let scopes : c.tables + length (t ∷ tables) ≡ (c.tables + 1) + length tables = omega arith in
    let rows : c.rows + length (rows_of (t ∷ tables)) ≡ (c.rows + length t.rows) + length (rows_of tables) = omega (arith, long) in
    subst (λ parts. are_in_order c parts ≡ true) (sym (table_first t tables more))
    (both_true ((c.zones == 0) && nat_lt c.tables most_tables) (are_in_order next (as_parts (map row t.rows) ++ rest))
    (both_true (c.zones == 0) (nat_lt c.tables most_tables) (eq-eqb c.zones 0 none) (lt-ltb c.tables most_tables (omega (arith, few))))
    (rows_follow next t.rows rest (omega arith) none (omega (arith, few_rows, long))
    (tables_follow (tables_counted c (c.tables + 1) (c.rows + length t.rows)) tables more none (omega (arith, few)) (omega (arith, few_rows, long))
    (subst (λ (d : PartCounts). are_in_order d more ≡ true) (λ i. tables_counted c (scopes i) (rows i)) ordered))))

-- the parts of tables and landmarks within the limits are in order
pub parts_in_order : (tables : List Table) (l : NumberedLandmarks) → AreFew tables l → list_all (is_value (length l.zones)) l.values ≡ true
    → are_in_order no_parts (parts_with (flat_map table_lines tables) l.zones l.values) ≡ true
parts_in_order tables l few values =
    tables_follow no_parts tables (as_landmarks (lines_of l)) refl (omega (arith, leb-true (length tables) most_tables few.tables_few)) (omega (arith, leb-true (length (rows_of tables)) most_rows few.rows_few))
    (zones_follow (tables_counted no_parts (0 + length tables) (0 + length (rows_of tables))) l.zones (map value l.values) refl (omega (arith, leb-true (length l.zones) most_zones few.zones_few))
    (omega (arith, leb-true (literal_count l.zones) most_entries few.literals_few))
    (values_follow (zones_counted (tables_counted no_parts (0 + length tables) (0 + length (rows_of tables))) (0 + length l.zones) (0 + literal_count l.zones)) l.values
    (subst (λ n. list_all (is_value n) l.values ≡ true) (sym (from_zero (length l.zones))) values) (omega (arith, leb-true (length l.values) most_values few.values_few))
    (omega (arith, leb-true (share_count l.values) most_entries few.shares_few))))

-- what is a value over some zones is one over more
rises_more : (count most least : ℕ) (numbers : List ℕ) → count ≤ most → rise count least numbers ≡ true → rise most least numbers ≡ true
rises_more count most least [] few rises = refl
rises_more count most least (n ∷ numbers) few rises =
    let (here, more) = and_parts (nat_le least n && nat_lt n count) (rise count (n + 1) numbers) rises in
    let (above, below) = and_parts (nat_le least n) (nat_lt n count) here in
    both_true (nat_le least n && nat_lt n most) (rise most (n + 1) numbers) (both_true (nat_le least n) (nat_lt n most) above (lt-ltb n most (omega (arith, few, ltb-true n count below)))) (rises_more count most (n + 1) numbers few more)

pub more_zones : (count most : ℕ) (shares : List Share) → count ≤ most → is_value count shares ≡ true → is_value most shares ≡ true
more_zones count most shares few is =
    let numbers : List ℕ = map (λ (s : Share). s.zone) shares in
    let (first, each) = and_parts (rise count 0 numbers && nat_le 1 (length shares)) (list_all is_share shares) is in
    let (rises, some) = and_parts (rise count 0 numbers) (nat_le 1 (length shares)) first in
    both_true (rise most 0 numbers && nat_le 1 (length shares)) (list_all is_share shares) (both_true (rise most 0 numbers) (nat_le 1 (length shares)) (rises_more count most 0 numbers few rises) some) each

-- the zones of each value of parts that are in order are among those before it
pub values_of_ordered : (c : PartCounts) (parts : List Part) → are_in_order c parts ≡ true → list_all (is_value (counts_after c parts).zones) (filter_map shares_in parts) ≡ true
values_of_ordered c [] ordered = refl
values_of_ordered c (tabled t ∷ parts) ordered = values_of_ordered (counted c (tabled t)) parts (in_order_parts c (tabled t) parts ordered).2
values_of_ordered c (landmark_line (zone z) ∷ parts) ordered = values_of_ordered (counted c (landmark_line (zone z))) parts (in_order_parts c (landmark_line (zone z)) parts ordered).2
values_of_ordered c (landmark_line (value s) ∷ parts) ordered =
    let p : Part = landmark_line (value s) in
    let (follows, _, more) = in_order_parts c p parts ordered in
    both_true (is_value (counts_after (counted c p) parts).zones s) (list_all (is_value (counts_after (counted c p) parts).zones) (filter_map shares_in parts))
    (more_zones c.zones (counts_after (counted c p) parts).zones s (zones_grow (counted c p) parts) follows) (values_of_ordered (counted c p) parts more)
