-- The text of a certificate, version 1, 2, 3 or 4, and the first faulty line of a text that is not one. The format is this
-- repository's own; docs/certificates.md shows it. Every certificate has exactly one text, and a text is at most one certificate.
use Rattle.std.specs.Prelude.{◌≡◌, ◌≢◌, ℕ, ◌+◌, ◌<◌, ◌≤◌, ◌==◌, Bool, true, false, not, ◌&&◌, nat_le, ℤ, IsTrue, List, [], ◌∷◌, ◌++◌, codes, length, map, Contains}
use Rattle.std.specs.Fmt.{decimal}
use Rattle.std.specs.List.{flat_map, list_all, list_any}
use Rattle.model.specs.Claims.{Claim, bound, none}
use Rattle.certificate_definitions.specs.Evidence.{of_all, landmark, LineMark, expanded, cut, dead}
use Rattle.lower_bounds.specs.LandmarkLines.{cut_by_text, dead_by_text}
use Rattle.certificate_definitions.specs.Certificates.{Version, one, two, three, four, StateLine, has_basis, is_number, is_weight, is_claim, is_state_line, are_weights, has_exchanges}
pub use Rattle.certificate_definitions.specs.Parts.{longest_line, after_blank, weights_text, numbers_text, Format, TableLine, scope, row, Part, tabled, landmark_line, part_text, is_part, PartCounts, no_parts, counts_after, may_follow, has_room, are_in_order}
use Rattle.model.specs.Resolution.{is_same}
use Rattle.model.specs.PlanWriting.{is_lower_name}

-- ---- the content of a text

-- an atom, by the names of its predicate and its objects
pub record NamedAtom : Type 0 where
  pub predicate : List ℕ
  pub objects : List (List ℕ)

-- an atom with its weights: one for each value and, last, one for dead ends, which version 1 does not write
pub record WeightedAtom : Type 0 where
  pub weights : List ℤ
  pub atom : NamedAtom

-- what a text says: a claim, exchanges given by pairs of names, values, and a listing of states; atoms are referred to by number,
-- from 0
pub record NamedCertificate : Type 0 where
  pub version : Version
  pub claim : Claim
  pub constants : List ℤ
  pub swaps : List (List (List ℕ))
  pub atoms : List WeightedAtom
  pub parts : List Part
  pub lines : List StateLine

-- a line of a text
pub data TextLine : Type 0 where
  version : Version → TextLine
  claims : Claim → TextLine
  -- constants; an atom has one weight for each
  constant : List ℤ → TextLine
  -- names of objects: the first is swapped with the second, the third with the fourth, and so on
  swapped : List (List ℕ) → TextLine
  atom : WeightedAtom → TextLine
  part : Part → TextLine
  listed : StateLine → TextLine
  -- the last line, with the number of state lines
  last : ℕ → TextLine

abbrev pub version_number : Version → ℕ
version_number one = 1
version_number two = 2
version_number three = 3
version_number four = 4

-- a state's role, the number of the landmark value that it rests on, if any, its cost, and for a cut the lower bound of the remaining cost
abbrev pub mark_text : LineMark → ℕ → List ℕ
mark_text expanded cost = codes "open " ++ decimal cost
mark_text (cut of_all rest) cost = codes "cut " ++ decimal cost ++ after_blank (decimal rest)
mark_text (cut (landmark number) rest) cost = cut_by_text number cost rest
mark_text (dead of_all) cost = codes "dead " ++ decimal cost
mark_text (dead (landmark number)) cost = dead_by_text number cost

-- the bytes of a line, without its LF
abbrev pub line_text : TextLine → List ℕ
line_text (version v) = codes "pddl-cert " ++ decimal (version_number v)
line_text (claims (bound least)) = codes "claim bound " ++ decimal least
line_text (claims none) = codes "claim none"
line_text (constant k) = codes "constant" ++ weights_text k
line_text (swapped names) = codes "swap" ++ flat_map after_blank names
line_text (part p) = part_text p
line_text (atom a) = codes "atom" ++ weights_text a.weights ++ codes " (" ++ a.atom.predicate ++ flat_map after_blank a.atom.objects ++ codes ")"
line_text (listed l) = mark_text l.mark l.cost ++ numbers_text l.atoms
line_text (last count) = codes "end " ++ decimal count

-- a line with its LF
abbrev pub whole_line : TextLine → List ℕ
whole_line line = line_text line ++ codes "\n"

-- these lines, one after another
abbrev pub text_of : List TextLine → List ℕ
text_of lines = flat_map whole_line lines

-- the certificate's lines: its exchanges come before its atoms, these before its parts, and these before its states
abbrev pub text_lines : NamedCertificate → List TextLine
text_lines c = version c.version ∷ claims c.claim ∷ constant c.constants ∷ map swapped c.swaps ++ map atom c.atoms ++ map part c.parts ++ map listed c.lines ++ last (length c.lines) ∷ []

-- ---- limits

abbrev pub most_atoms : ℕ
most_atoms = 1048576

-- the maximum number of exchanges
abbrev pub most_swaps : ℕ
most_swaps = 1048576

abbrev pub most_states : ℕ
most_states = 16777216

-- the allowed number of constants: one in version 1, two in version 2, from 2 to 33 in version 3
abbrev pub is_weight_count : Version → ℕ → Bool
is_weight_count one count = count == 1
is_weight_count two count = count == 2
is_weight_count three count = nat_le 2 count && nat_le count 33
is_weight_count four count = nat_le 2 count && nat_le count 33

-- the number of elements is even
abbrev pub are_paired : {X : Type 0} → List X → Bool
are_paired [] = true
are_paired (x ∷ []) = false
are_paired (x ∷ y ∷ rest) = are_paired rest

-- no name is repeated
abbrev pub differ : List (List ℕ) → Bool
differ [] = true
differ (name ∷ rest) = not (list_any (is_same name) rest) && differ rest

-- at least two names in lower case, an even number of them, all different
abbrev pub are_exchanged : List (List ℕ) → Bool
are_exchanged names = nat_le 2 (length names) && are_paired names && differ names && list_all is_lower_name names

-- The line by itself is within the limits, in a text of this format: numbers are below 2 to the power 60, constants and weights
-- at most 2147483647 in absolute value; names are those of a domain file in lower case (PDDL 1.2 manual, "Domains") with at most
-- 255 bytes; the names of an exchange are at least two, even in number and all different; the numbers of a state's atoms, of a
-- scope and of a row ascend and are those of atoms; and the line is not too long.
abbrev pub is_line : Format → TextLine → Bool
is_line f (version w) = true
is_line f (claims claim) = is_claim claim
is_line f (constant k) = is_weight_count f.version (length k) && list_all is_weight k
is_line f (atom a) = are_weights f.weights a.weights && list_all is_lower_name (a.atom.predicate ∷ a.atom.objects) && nat_le (length (line_text (atom a))) longest_line
is_line f (swapped names) = has_exchanges f.version && are_exchanged names && nat_le (length (line_text (swapped names))) longest_line
is_line f (part p) = is_part f p
is_line f (listed l) = is_state_line f.version f.atoms l
is_line f (last count) = is_number count

abbrev pub format_of : NamedCertificate → Format
format_of c = record { version = c.version; weights = length c.constants; atoms = length c.atoms }

-- the certificate is within all limits
abbrev pub keeps_text_limits : NamedCertificate → Bool
keeps_text_limits c =
    (nat_le (length c.swaps) most_swaps && nat_le (length c.atoms) most_atoms) && are_in_order no_parts c.parts && (nat_le (length c.lines) most_states && list_all (λ (l : StateLine). has_basis (counts_after no_parts c.parts).values l.mark) c.lines)
    && list_all (is_line (format_of c)) (text_lines c)

-- The text is that of this certificate.
pub record IsCertificateText (text : List ℕ) (c : NamedCertificate) : Type 0 where
  pub within : IsTrue (keeps_text_limits c)
  pub lines : text ≡ text_of (text_lines c)

-- ---- faults

-- these are the lines of a certificate
abbrev pub AreWhole : List TextLine → Type 0
AreWhole lines = (c : NamedCertificate) × IsTrue (keeps_text_limits c) × (text_lines c ≡ lines)

-- these lines are a prefix of those of a certificate
abbrev pub BeginCertificate : List TextLine → Type 0
BeginCertificate lines = (rest : List TextLine) × AreWhole (lines ++ rest)

-- these bytes are a line that may occur after these lines
abbrev pub MayFollow : List TextLine → List ℕ → Type 0
MayFollow before bytes = (line : TextLine) × BeginCertificate (before ++ line ∷ []) × (line_text line ≡ bytes)

-- the first line for another version
abbrev pub IsOtherVersion : List TextLine → List ℕ → Type 0
IsOtherVersion before bytes = (before ≡ []) × (number : ℕ) × IsTrue (is_number number) × (number ≢ 1) × (number ≢ 2) × (number ≢ 3) × (number ≢ 4) × (bytes ≡ codes "pddl-cert " ++ decimal number)

-- a prefix of a text's lines: all but some of the last exchanges, atoms, parts and states, and the last line
pub record Beginning : Type 0 where
  pub version : Version
  pub claim : Claim
  pub constants : List ℤ
  pub swaps : List (List (List ℕ))
  pub atoms : List WeightedAtom
  pub parts : List Part
  pub states : List StateLine

abbrev pub head_lines : Beginning → List TextLine
head_lines b = version b.version ∷ claims b.claim ∷ constant b.constants ∷ map swapped b.swaps ++ map atom b.atoms ++ map part b.parts ++ map listed b.states

abbrev pub format_in : Beginning → Format
format_in b = record { version = b.version; weights = length b.constants; atoms = length b.atoms }

-- a line of an exchange, an atom, a part or a state that would be allowed there if the lines before did not exhaust the
-- limit
pub data IsOneTooMany (before : List TextLine) (bytes : List ℕ) : Type 0 where
  swaps : (b : Beginning) (names : List (List ℕ)) → before ≡ head_lines b → b.atoms ≡ [] → b.parts ≡ [] → b.states ≡ [] → length b.swaps ≡ most_swaps
      → IsTrue (is_line (format_in b) (swapped names)) → bytes ≡ line_text (swapped names) → IsOneTooMany before bytes
  atoms : (b : Beginning) (a : WeightedAtom) → before ≡ head_lines b → b.parts ≡ [] → b.states ≡ [] → length b.atoms ≡ most_atoms
      → IsTrue (is_line (format_in b) (atom a)) → bytes ≡ line_text (atom a) → IsOneTooMany before bytes
  parts : (b : Beginning) (p : Part) → before ≡ head_lines b → b.states ≡ [] → IsTrue (may_follow (counts_after no_parts b.parts) p)
      → has_room (counts_after no_parts b.parts) p ≡ false → IsTrue (is_line (format_in b) (part p)) → bytes ≡ line_text (part p) → IsOneTooMany before bytes
  states : (b : Beginning) (l : StateLine) → before ≡ head_lines b → length b.states ≡ most_states → IsTrue (has_basis (counts_after no_parts b.parts).values l.mark)
      → IsTrue (is_line (format_in b) (listed l)) → bytes ≡ line_text (listed l) → IsOneTooMany before bytes

-- no LF is in these bytes
abbrev pub IsInOneLine : List ℕ → Type 0
IsInOneLine bytes = ¬ Contains bytes 10

-- these bytes begin with this line, and its LF
abbrev pub HasLine : List ℕ → List ℕ → Type 0
HasLine bytes line = (more : List ℕ) × (bytes ≡ line ++ codes "\n" ++ more) × IsInOneLine line × (length line ≤ longest_line)

-- The bytes after these lines, which are a prefix of a certificate, are faulty, and the number is reported.
pub data IsFaultAfter (before : List TextLine) (bytes : List ℕ) : ℕ → Type 0 where
  -- another version
  other_version : (line : List ℕ) → HasLine bytes line → IsOtherVersion before line → IsFaultAfter before bytes 41
  -- a line that is invalid at its place
  malformed : (line : List ℕ) → HasLine bytes line → ¬ MayFollow before line → ¬ IsOtherVersion before line → ¬ IsOneTooMany before line
      → IsFaultAfter before bytes 40
  -- a line that is too long, whether or not its LF comes
  too_long : (front rest : List ℕ) → bytes ≡ front ++ rest → longest_line < length front → IsInOneLine front → IsFaultAfter before bytes 40
  -- a byte after the last line
  trailing : AreWhole before → bytes ≢ [] → IsFaultAfter before bytes 40
  -- the text ends before its last line does
  cut_short : ¬ AreWhole before → IsInOneLine bytes → length bytes ≤ longest_line → IsFaultAfter before bytes 42
  -- too many exchanges, atoms, parts of a kind, or states
  too_many : (line : List ℕ) → HasLine bytes line → IsOneTooMany before line → IsFaultAfter before bytes 55

-- The number is reported for this line, counted from 1, the first faulty one: the lines before it are a prefix of a certificate.
pub record IsTextFault (text : List ℕ) (number line : ℕ) : Type 0 where
  pub before : List TextLine
  pub bytes : List ℕ
  pub splits : text ≡ text_of before ++ bytes
  pub begins : BeginCertificate before
  pub line_is : line ≡ length before + 1
  pub at_fault : IsFaultAfter before bytes number
