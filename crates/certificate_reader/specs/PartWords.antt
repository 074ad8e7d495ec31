-- A part as its first word and the rest.
use Rattle.std.specs.Prelude.{◌≡◌, ℕ, ℤ, nat_lt, Bool, ◌&&◌, ◌||◌, List, [], ◌∷◌, ◌++◌, codes, map, Option, None, Some, IsTrue}
use Rattle.std.specs.Fmt.{decimal, signed_decimal}
use Rattle.std.specs.List.{flat_map}
use Rattle.std.specs.Str.{bytes_eq}
use Rattle.lower_bounds.specs.LandmarkLines.{Share, zone, value, is_share, most_zones}
use Rattle.certificate_definitions.specs.Parts.{Format, Part, tabled, landmark_line, scope, row, is_part}

-- a word, and the rest after a blank, if there is one
abbrev pub with_rest : List ℕ → Option (List ℕ) → List ℕ
with_rest word None = word
with_rest word (Some rest) = word ++ codes " " ++ rest

-- these words, each after a blank, and then the rest, if any, without the first blank
abbrev pub then_words : List (List ℕ) → Option (List ℕ) → Option (List ℕ)
then_words [] rest = rest
then_words (word ∷ words) rest = Some (with_rest word (then_words words rest))

-- weights and the rest after them
abbrev pub then_weights : List ℤ → Option (List ℕ) → Option (List ℕ)
then_weights weights = then_words (map signed_decimal weights)

-- numbers and the rest after them
abbrev pub numbers_then : List ℕ → Option (List ℕ) → Option (List ℕ)
numbers_then numbers = then_words (map decimal numbers)

-- numbers, and nothing after them
abbrev pub then_numbers : List ℕ → Option (List ℕ)
then_numbers numbers = numbers_then numbers None

-- the negated atoms of a zone after the word `not`; nothing if there are none
abbrev pub then_negated : List ℕ → Option (List ℕ)
then_negated [] = None
then_negated (number ∷ others) = Some (with_rest (codes "not") (then_numbers (number ∷ others)))

-- numbers of zones with their weights, and the rest after them
abbrev pub share_words : Share → List (List ℕ)
share_words s = decimal s.zone ∷ decimal s.weight ∷ []

abbrev pub shares_then : List Share → Option (List ℕ) → Option (List ℕ)
shares_then shares = then_words (flat_map share_words shares)

-- the first word of a part
abbrev pub part_head : Part → List ℕ
part_head (tabled (scope atoms)) = codes "table"
part_head (tabled (row r)) = codes "row"
part_head (landmark_line (zone z)) = codes "zone"
part_head (landmark_line (value shares)) = codes "marks"

-- the word is the first one of a part
abbrev pub is_part_word : List ℕ → Bool
is_part_word word = bytes_eq (codes "table") word || bytes_eq (codes "row") word || bytes_eq (codes "zone") word || bytes_eq (codes "marks") word

-- the rest of a part after its first word and a blank
abbrev pub part_rest : Part → Option (List ℕ)
part_rest (tabled (scope atoms)) = then_numbers atoms
part_rest (tabled (row r)) = then_weights r.weights (then_numbers r.atoms)
part_rest (landmark_line (zone z)) = numbers_then z.atoms (then_negated z.negated)
part_rest (landmark_line (value shares)) = shares_then shares None

-- the part begins with this word, followed by these bytes, and is within the limits
pub record IsPartReadAs (word rest : List ℕ) (f : Format) (p : Part) : Type 0 where
  pub head : part_head p ≡ word
  pub following : part_rest p ≡ Some rest
  pub within : IsTrue (is_part f p)

-- a text may have a zone with this number, and the weight
abbrev pub may_be_share : Share → Bool
may_be_share s = nat_lt s.zone most_zones && is_share s

-- The bytes begin with a share, after which comes the rest, if any.
pub record IsShareFirst (bytes : List ℕ) (s : Share) (rest : Option (List ℕ)) : Type 0 where
  pub may_be : IsTrue (may_be_share s)
  pub splits : bytes ≡ with_rest (decimal s.zone) (Some (with_rest (decimal s.weight) rest))
