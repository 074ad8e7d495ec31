-- No line of a certificate is too long if its exchanges can be named and its landmark values have few zones.
use Rattle.std.proofs.Common.{◌≡◌, ◌+◌, ◌*◌, ◌<◌, ◌≤◌, ℕ, List, [], ◌∷◌, codes, length, length-append, map, refl, arith, le-leb}
use Rattle.std.specs.Prelude.{◌&&◌, ◌||◌, true, IsTrue, nat_le, nat_lt}
use Rattle.std.specs.Fmt.{decimal}
use Rattle.std.specs.List.{flat_map, list_all}
use Rattle.std.proofs.lemmas.Bool.{and_from, and_parts, leb-true, ltb-true}
use Rattle.std.proofs.lemmas.Fmt.{length-decimal-le}
use Rattle.model.specs.Task.{Task}
use Rattle.lower_bounds.specs.LandmarkLines.{Share, is_share, is_value, is_zone, literal_count, most_entries, most_values, most_zones, number_text, rise, share_count, share_text, value}
use Rattle.certificate_definitions.specs.Certificates.{Certificate, has_landmarks, keeps_limits}
use Rattle.certificate_definitions.specs.CertificateText.{landmark_line, line_text, longest_line, part}
use Rattle.certificate.proofs.LimitsLemmas.{limits_of}
use Rattle.line_evidence.specs.Shown.{has_few_zones}
use Rattle.cert_checker.specs.Exchanged.{are_short, is_short, is_short_value}

-- a zone's number and its weight, each after a blank, have at most 20 bytes
share_short : (s : Share) → s.zone < 16777216 → is_share s ≡ true → length (share_text s) ≤ 20
share_short s below is =
    let most = leb-true s.weight 2147483647 (and_parts (nat_le 1 s.weight) (nat_le s.weight 2147483647) is).1 in
    let zone : length (decimal s.zone) ≤ 8 = length-decimal-le 8 s.zone (omega arith) (omega (arith, below)) (omega (arith, below)) in
    let weight : length (decimal s.weight) ≤ 10 = length-decimal-le 10 s.weight (omega arith) (omega (arith, most)) (omega (arith, most)) in
    omega (arith, zone, weight, length-append (number_text s.zone) (number_text s.weight), length-append (codes " ") (decimal s.zone), length-append (codes " ") (decimal s.weight))

shares_short : (count least : ℕ) (shares : List Share) → count ≤ most_zones → rise count least (map (λ (s : Share). s.zone) shares) ≡ true → list_all is_share shares ≡ true
    → length (flat_map share_text shares) ≤ 20 * length shares
shares_short count least [] few rises all = omega arith
shares_short count least (s ∷ shares) few rises all =
    let (place, more) = and_parts (nat_le least s.zone && nat_lt s.zone count) (rise count (s.zone + 1) (map (λ (s : Share). s.zone) shares)) rises in
    let below = ltb-true s.zone count (and_parts (nat_le least s.zone) (nat_lt s.zone count) place).1 in
    let (here, others) = and_parts (is_share s) (list_all is_share shares) all in
    let first = share_short s (omega (arith, below, few)) here in
    let rest = shares_short count (s.zone + 1) shares few more others in
    omega (arith, first, rest, length-append (share_text s) (flat_map share_text shares))

value_short : (count : ℕ) (shares : List Share) → count ≤ most_zones → is_value count shares ≡ true → has_few_zones shares ≡ true → is_short_value shares ≡ true
value_short count shares few is fits =
    let numbers = rise count 0 (map (λ (s : Share). s.zone) shares) in
    let (numbered, weighed) = and_parts (numbers && nat_le 1 (length shares)) (list_all is_share shares) is in
    let rises = (and_parts numbers (nat_le 1 (length shares)) numbered).0 in
    let most = leb-true (length shares) 524288 fits in
    let short = shares_short count 0 shares few rises weighed in
    let long : length (line_text (part (landmark_line (value shares)))) ≡ length (codes "marks") + length (flat_map share_text shares) = length-append (codes "marks") (flat_map share_text shares) in
    le-leb (length (line_text (part (landmark_line (value shares))))) longest_line (omega (arith, most, short, long))

values_short : (count : ℕ) (values : List (List Share)) → count ≤ most_zones → list_all (is_value count) values ≡ true → list_all has_few_zones values ≡ true → list_all is_short_value values ≡ true
values_short count [] few are fit = refl
values_short count (shares ∷ values) few are fit =
    let (here, more) = and_parts (is_value count shares) (list_all (is_value count) values) are in
    let (fits, others) = and_parts (has_few_zones shares) (list_all has_few_zones values) fit in
    and_from (is_short_value shares) (list_all is_short_value values) (value_short count shares few here fits) (values_short count values few more others)

pub no_long_line : (task : Task) (c : Certificate) → IsTrue (keeps_limits c) → list_all has_few_zones c.landmarks.values ≡ true → list_all (is_short task) c.exchanges ≡ true → are_short task c ≡ true
no_long_line task c keeps few exchanges =
    let l = c.landmarks in
    let none = nat_le (length l.zones) 0 && nat_le (length l.values) 0 in
    let zones_each = list_all (is_zone (length c.atoms)) l.zones && nat_le (length l.zones) most_zones in
    let zones_are = zones_each && nat_le (literal_count l.zones) most_entries in
    let values_each = list_all (is_value (length l.zones)) l.values && nat_le (length l.values) most_values in
    let values_are = values_each && nat_le (share_count l.values) most_entries in
    let (_, within) = and_parts (has_landmarks c.version || none) (zones_are && values_are) (limits_of c keeps).landmarks in
    let (zones, values) = and_parts zones_are values_are within in
    let count = leb-true (length l.zones) most_zones (and_parts (list_all (is_zone (length c.atoms)) l.zones) (nat_le (length l.zones) most_zones) (and_parts zones_each (nat_le (literal_count l.zones) most_entries) zones).0).1 in
    let each = (and_parts (list_all (is_value (length l.zones)) l.values) (nat_le (length l.values) most_values) (and_parts values_each (nat_le (share_count l.values) most_entries) values).0).0 in
    and_from (list_all (is_short task) c.exchanges) (list_all is_short_value l.values) exchanges (values_short (length l.zones) l.values count each few)
