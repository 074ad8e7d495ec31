-- What the counts of parts say about them. The first three have an arm for each kind; the others speak of all.
use Rattle.std.proofs.Common.{◌≡◌, ℕ, ◌+◌, ◌≤◌, Bool, true, List, [], ◌∷◌, ◌++◌, length, refl, arith}
use Rattle.std.specs.Prelude.{◌&&◌, nat_le, nat_lt, IsTrue}
use Rattle.std.proofs.lemmas.Bool.{and_parts, leb-true, le-leb, ltb-true}
use Rattle.lower_bounds.specs.LandmarkLines.{zone, value, most_entries, most_values, most_zones}
use Rattle.certificate_definitions.specs.Parts.{Part, tabled, landmark_line, scope, row, PartCounts, no_parts, how_many, counted, may_follow, has_room, are_few, are_in_order, counts_after, most_tables, most_rows}

both_true : (a b : Bool) → a ≡ true → b ≡ true → a && b ≡ true
both_true a b x y = λ i. x i && y i

-- ---- by kind

one_more : (c : PartCounts) (p : Part) → how_many (counted c p) ≡ how_many c + 1
one_more c (tabled (scope s)) = omega arith
one_more c (tabled (row r)) = omega arith
one_more c (landmark_line (zone z)) = omega arith
one_more c (landmark_line (value shares)) = omega arith

limits : (c : PartCounts) → IsTrue (are_few c)
    → (nat_le c.tables most_tables ≡ true) × (nat_le c.rows most_rows ≡ true) × (nat_le c.zones most_zones ≡ true) × (nat_le c.literals most_entries ≡ true) × (nat_le c.values most_values ≡ true) × (nat_le c.shares most_entries ≡ true)
limits c few =
    let (front, values) = and_parts ((nat_le c.tables most_tables && nat_le c.rows most_rows) && (nat_le c.zones most_zones && nat_le c.literals most_entries)) (nat_le c.values most_values && nat_le c.shares most_entries) few in
    let (tables, zones) = and_parts (nat_le c.tables most_tables && nat_le c.rows most_rows) (nat_le c.zones most_zones && nat_le c.literals most_entries) front in
    let (t, r) = and_parts (nat_le c.tables most_tables) (nat_le c.rows most_rows) tables in
    let (z, l) = and_parts (nat_le c.zones most_zones) (nat_le c.literals most_entries) zones in
    let (v, h) = and_parts (nat_le c.values most_values) (nat_le c.shares most_entries) values in
    (t, r, z, l, v, h)

pub stays_few : (c : PartCounts) (p : Part) → IsTrue (are_few c) → has_room c p ≡ true → IsTrue (are_few (counted c p))
stays_few c (tabled (scope s)) few room =
    let (_, rows, zones, literals, values, shares) = limits c few in
    λ i. (le-leb (c.tables + 1) most_tables (omega (arith, ltb-true c.tables most_tables room)) i && rows i) && (zones i && literals i) && (values i && shares i)
stays_few c (tabled (row r)) few room =
    let (tables, _, zones, literals, values, shares) = limits c few in
    λ i. (tables i && le-leb (c.rows + 1) most_rows (omega (arith, ltb-true c.rows most_rows room)) i) && (zones i && literals i) && (values i && shares i)
stays_few c (landmark_line (zone z)) few room =
    let (tables, rows, _, _, values, shares) = limits c few in
    let (below, fits) = and_parts (nat_lt c.zones most_zones) (nat_le (c.literals + (length z.atoms + length z.negated)) most_entries) room in
    λ i. (tables i && rows i) && (le-leb (c.zones + 1) most_zones (omega (arith, ltb-true c.zones most_zones below)) i && fits i) && (values i && shares i)
stays_few c (landmark_line (value shares)) few room =
    let (tables, rows, zones, literals, _, _) = limits c few in
    let (below, fits) = and_parts (nat_lt c.values most_values) (nat_le (c.shares + length shares) most_entries) room in
    λ i. (tables i && rows i) && (zones i && literals i) && (le-leb (c.values + 1) most_values (omega (arith, ltb-true c.values most_values below)) i && fits i)

-- the maximum number of parts of all kinds together
abbrev pub most_parts : ℕ
most_parts = 41943040

pub few_parts : (c : PartCounts) → IsTrue (are_few c) → how_many c ≤ most_parts
few_parts c few =
    let (tables, rows, zones, _, values, _) = limits c few in
    omega (arith, leb-true c.tables most_tables tables, leb-true c.rows most_rows rows, leb-true c.zones most_zones zones, leb-true c.values most_values values)

-- ---- of any kind

pub counts_more : (c : PartCounts) (parts : List Part) (p : Part) → counts_after c (parts ++ p ∷ []) ≡ counted (counts_after c parts) p
counts_more c [] p = refl
counts_more c (q ∷ parts) p = counts_more (counted c q) parts p

pub in_order_more : (c : PartCounts) (parts : List Part) (p : Part) → are_in_order c parts ≡ true → may_follow (counts_after c parts) p ≡ true → has_room (counts_after c parts) p ≡ true
    → are_in_order c (parts ++ p ∷ []) ≡ true
in_order_more c [] p all follows room = both_true (may_follow c p && has_room c p) true (both_true (may_follow c p) (has_room c p) follows room) refl
in_order_more c (q ∷ parts) p all follows room =
    let (here, more) = and_parts (may_follow c q && has_room c q) (are_in_order (counted c q) parts) all in
    both_true (may_follow c q && has_room c q) (are_in_order (counted c q) (parts ++ p ∷ [])) here (in_order_more (counted c q) parts p more follows room)

pub all_counted : (c : PartCounts) (parts : List Part) → how_many (counts_after c parts) ≡ how_many c + length parts
all_counted c [] = omega arith
all_counted c (p ∷ parts) = omega (arith, all_counted (counted c p) parts, one_more c p)

pub none_yet : (parts : List Part) → how_many (counts_after no_parts parts) ≡ 0 → parts ≡ []
none_yet [] none_counted = refl
none_yet (p ∷ parts) none_counted = absurd (omega (arith, all_counted no_parts (p ∷ parts), none_counted))

few_from : (c : PartCounts) (parts : List Part) → IsTrue (are_few c) → IsTrue (are_in_order c parts) → IsTrue (are_few (counts_after c parts))
few_from c [] few ordered = few
few_from c (p ∷ parts) few ordered =
    let (here, more) = and_parts (may_follow c p && has_room c p) (are_in_order (counted c p) parts) ordered in
    few_from (counted c p) parts (stays_few c p few (and_parts (may_follow c p) (has_room c p) here).1) more

-- the counts of parts that are in order are within their limits
pub in_order_few : (parts : List Part) → IsTrue (are_in_order no_parts parts) → IsTrue (are_few (counts_after no_parts parts))
in_order_few parts ordered = few_from no_parts parts refl ordered

pub ordered_are_few : (parts : List Part) → IsTrue (are_in_order no_parts parts) → length parts ≤ most_parts
ordered_are_few parts ordered = omega (arith, all_counted no_parts parts, few_parts (counts_after no_parts parts) (in_order_few parts ordered))
