-- The lines of landmark values in a certificate's text: one for each zone, and then one for each value, which refers to zones by
-- number. Zones and values are numbered from 0 by their lines, each kind by itself. A line has exactly one text.
use Rattle.std.specs.Prelude.{◌≡◌, ℕ, ◌+◌, nat_le, nat_lt, Bool, true, false, not, ◌&&◌, List, [], ◌∷◌, ◌++◌, codes, length, map, sum_by, Option, slice_get}
use Rattle.std.specs.Fmt.{decimal}
use Rattle.std.specs.List.{list_all, flat_map, filter_map}
use Rattle.std.specs.Option.{option_map}
use Rattle.lower_bounds.specs.TableFunctions.{Table, is_among}
use Rattle.lower_bounds.specs.LandmarkFunctions.{Zone, Landmark, LandmarkFunction}

-- ---- values over numbered zones

-- a zone by its number, with its weight
pub record Share : Type 0 where
  pub zone : ℕ
  pub weight : ℕ

-- zones, and values over them
pub record NumberedLandmarks : Type 0 where
  pub zones : List Zone
  pub values : List (List Share)

-- the zone of the share with its weight, if there is a zone with this number
abbrev pub landmark_of : List Zone → Share → Option Landmark
landmark_of zones s = option_map (λ (z : Zone). record { zone = z; weight = s.weight }) (slice_get zones s.zone)

-- the landmark functions of the values, beside these tables
abbrev pub functions_of : List Table → NumberedLandmarks → List LandmarkFunction
functions_of tables l = map (λ (shares : List Share). record { landmarks = filter_map (landmark_of l.zones) shares; tables = tables }) l.values

-- ---- lines

pub data LandmarkLine : Type 0 where
  zone : Zone → LandmarkLine
  value : List Share → LandmarkLine

abbrev pub lines_of : NumberedLandmarks → List LandmarkLine
lines_of l = map zone l.zones ++ map value l.values

-- a blank and the number
abbrev pub number_text : ℕ → List ℕ
number_text number = codes " " ++ decimal number

abbrev pub numbers_text : List ℕ → List ℕ
numbers_text = flat_map number_text

-- the negated atoms, after the word `not`; nothing if there are none
abbrev pub negated_text : List ℕ → List ℕ
negated_text [] = []
negated_text (number ∷ others) = codes " not" ++ numbers_text (number ∷ others)

abbrev pub share_text : Share → List ℕ
share_text s = number_text s.zone ++ number_text s.weight

-- the bytes of a line, without its LF
abbrev pub line_text : LandmarkLine → List ℕ
line_text (zone z) = codes "zone" ++ (numbers_text z.atoms ++ negated_text z.negated)
line_text (value shares) = codes "marks" ++ flat_map share_text shares

abbrev pub whole_line : LandmarkLine → List ℕ
whole_line line = line_text line ++ codes "\n"

abbrev pub lines_text : NumberedLandmarks → List ℕ
lines_text l = flat_map whole_line (lines_of l)

-- What the line of a state that rests on a value begins with: the value's number, the cost, and for a cut the lower bound of the
-- remaining cost.
abbrev pub cut_by_text : (number cost rest : ℕ) → List ℕ
cut_by_text number cost rest = codes "cut-by" ++ (number_text number ++ (number_text cost ++ number_text rest))

abbrev pub dead_by_text : (number cost : ℕ) → List ℕ
dead_by_text number cost = codes "dead-by" ++ (number_text number ++ number_text cost)

-- ---- limits

abbrev pub most_zones : ℕ
most_zones = 16777216

abbrev pub most_values : ℕ
most_values = 16777216

-- the maximum number of literals of all zones, and of shares of all values
abbrev pub most_entries : ℕ
most_entries = 67108864

-- the numbers are strictly ascending, from the least allowed one, and below the count
abbrev pub rise : (count least : ℕ) → List ℕ → Bool
rise count least [] = true
rise count least (n ∷ rest) = nat_le least n && nat_lt n count && rise count (n + 1) rest

-- at least one literal, each of another atom
abbrev pub is_zone : ℕ → Zone → Bool
is_zone atom_count z =
    rise atom_count 0 z.atoms && rise atom_count 0 z.negated && nat_le 1 (length z.atoms + length z.negated) && list_all (λ number. not (is_among z.atoms number)) z.negated

abbrev pub is_share : Share → Bool
is_share s = nat_le 1 s.weight && nat_le s.weight 2147483647

abbrev pub is_value : ℕ → List Share → Bool
is_value zone_count shares = rise zone_count 0 (map (λ (s : Share). s.zone) shares) && nat_le 1 (length shares) && list_all is_share shares

abbrev pub literal_count : List Zone → ℕ
literal_count = sum_by (λ (z : Zone). length z.atoms + length z.negated)

abbrev pub share_count : List (List Share) → ℕ
share_count = sum_by (λ (shares : List Share). length shares)

-- a text with this many atoms may have these landmarks
abbrev pub keep_limits : ℕ → NumberedLandmarks → Bool
keep_limits atom_count l =
    (list_all (is_zone atom_count) l.zones && nat_le (length l.zones) most_zones && nat_le (literal_count l.zones) most_entries)
    && (list_all (is_value (length l.zones)) l.values && nat_le (length l.values) most_values && nat_le (share_count l.values) most_entries)

-- ---- examples

abbrev pub share : ℕ → ℕ → Share
share number weight = record { zone = number; weight = weight }

abbrev pub zone_of : List ℕ → List ℕ → Zone
zone_of atoms negated = record { atoms = atoms; negated = negated }

pub record AreLinesJudged : Type 0 where
  pub atoms_alone : line_text (zone (zone_of (1 ∷ 2 ∷ []) [])) ≡ codes "zone 1 2"
  pub both : line_text (zone (zone_of (0 ∷ []) (3 ∷ 4 ∷ []))) ≡ codes "zone 0 not 3 4"
  pub negated_alone : line_text (zone (zone_of [] (10 ∷ []))) ≡ codes "zone not 10"
  pub shares : line_text (value (share 0 3 ∷ share 2 1 ∷ [])) ≡ codes "marks 0 3 2 1"
  pub cut_by : cut_by_text 7 3 4 ≡ codes "cut-by 7 3 4"
  pub dead_by : dead_by_text 7 3 ≡ codes "dead-by 7 3"
  -- numbers rise, are those of atoms, and stand on one side; there is at least one
  pub rising : is_zone 5 (zone_of (1 ∷ 2 ∷ []) (0 ∷ 4 ∷ [])) ≡ true
  pub twice : is_zone 5 (zone_of (1 ∷ 1 ∷ []) []) ≡ false
  pub falling : is_zone 5 (zone_of [] (2 ∷ 1 ∷ [])) ≡ false
  pub past_the_end : is_zone 5 (zone_of (5 ∷ []) []) ≡ false
  pub on_both_sides : is_zone 5 (zone_of (1 ∷ []) (1 ∷ [])) ≡ false
  pub empty : is_zone 5 (zone_of [] []) ≡ false
  -- so do numbers of zones, whose weights are at least 1
  pub valued : is_value 3 (share 0 3 ∷ share 2 2147483647 ∷ []) ≡ true
  pub zone_twice : is_value 3 (share 1 3 ∷ share 1 3 ∷ []) ≡ false
  pub no_such_zone : is_value 3 (share 3 1 ∷ []) ≡ false
  pub no_weight : is_value 3 (share 0 0 ∷ []) ≡ false
  pub too_heavy : is_value 3 (share 0 2147483648 ∷ []) ≡ false
  pub no_share : is_value 3 [] ≡ false
