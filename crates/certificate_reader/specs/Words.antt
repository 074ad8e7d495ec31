-- The words of a line, and a line as its first word and the rest.
use Rattle.std.specs.Prelude.{◌≡◌, ◌≢◌, ℕ, ◌<◌, ◌≤◌, ℤ, ◌==◌, nat_lt, Bool, false, not, ◌&&◌, ◌||◌, List, [], ◌∷◌, ◌++◌, codes, length, map, Option, None, Some, IsTrue}
use Rattle.std.specs.Borrow.{Bor}
use Rattle.std.specs.Char.{is_ascii_uppercase}
use Rattle.std.specs.Fmt.{decimal, signed_decimal}
use Rattle.std.specs.List.{flat_map, list_all}
use Rattle.std.specs.Option.{option_map}
use Rattle.std.specs.Str.{bytes_eq}
use Rattle.model.specs.PlanWriting.{is_lower_name}
use Rattle.model.specs.Claims.{Claim, bound, none}
use Rattle.certificate_definitions.specs.Evidence.{of_all, landmark, LineMark, expanded, cut, dead}
use Rattle.certificate_definitions.specs.Certificates.{Version, has_landmarks, is_number, is_weight, rise}
use Rattle.lower_bounds.specs.LandmarkLines.{most_values}
pub use Rattle.certificate_reader.specs.PartWords.{with_rest, then_words, then_weights, numbers_then, then_numbers, then_negated, share_words, shares_then, part_head, is_part_word, part_rest, IsPartReadAs, may_be_share, IsShareFirst}
use Rattle.certificate_definitions.specs.CertificateText.{NamedAtom, Format, TextLine, version, claims, constant, swapped, atom, part, listed, last, after_blank, numbers_text, is_line, version_number}

-- the bytes of a word, if there is one
abbrev pub text_in : Option (Bor (List ℕ)) → Option (List ℕ)
text_in = option_map (λ (word : Bor (List ℕ)). word.now)

abbrev pub is_blank : ℕ → Bool
is_blank byte = byte == 32

-- none of these bytes is a blank
abbrev pub is_word : List ℕ → Bool
is_word = list_all (λ byte. not (is_blank byte))

-- The bytes are this word, and after a blank the rest, if any.
pub record IsFirstWord (bytes word : List ℕ) (rest : Option (List ℕ)) : Type 0 where
  pub is_word : IsTrue (is_word word)
  pub splits : bytes ≡ with_rest word rest

-- digits in canonical form: at least one, without leading zeros
abbrev pub is_spelled : List ℕ → Bool
is_spelled [] = false
is_spelled (first ∷ rest) = not (first == 48) || (length rest == 0)

-- the first word of a state line
abbrev pub mark_head : LineMark → List ℕ
mark_head expanded = codes "open"
mark_head (cut of_all rest) = codes "cut"
mark_head (dead of_all) = codes "dead"
mark_head (cut (landmark number) rest) = codes "cut-by"
mark_head (dead (landmark number)) = codes "dead-by"

-- the word is the first one of a state line
abbrev pub is_state_word : List ℕ → Bool
is_state_word word =
    bytes_eq word (codes "open") || bytes_eq word (codes "cut") || bytes_eq word (codes "dead") || bytes_eq word (codes "cut-by") || bytes_eq word (codes "dead-by")

-- and the rest of it, up to the numbers of atoms
abbrev pub mark_rest : LineMark → ℕ → List ℕ
mark_rest expanded cost = decimal cost
mark_rest (cut of_all rest) cost = decimal cost ++ after_blank (decimal rest)
mark_rest (dead of_all) cost = decimal cost
mark_rest (cut (landmark number) rest) cost = decimal number ++ after_blank (decimal cost ++ after_blank (decimal rest))
mark_rest (dead (landmark number)) cost = decimal number ++ after_blank (decimal cost)

-- the first word of a line
abbrev pub line_head : TextLine → List ℕ
line_head (version v) = codes "pddl-cert"
line_head (claims claim) = codes "claim"
line_head (constant k) = codes "constant"
line_head (swapped names) = codes "swap"
line_head (atom a) = codes "atom"
line_head (part p) = part_head p
line_head (listed l) = mark_head l.mark
line_head (last count) = codes "end"

-- the rest of it
abbrev pub claim_rest : Claim → List ℕ
claim_rest (bound least) = codes "bound " ++ decimal least
claim_rest none = codes "none"

-- The words begin with weights, at most this many, and anything else comes only after as many.
pub record IsLeading (words : Option (List ℕ)) (most : ℕ) (weights : List ℤ) (others : Option (List ℕ)) : Type 0 where
  pub are : IsTrue (list_all is_weight weights)
  pub few : length weights ≤ most
  pub stops : length weights < most → others ≡ None
  pub splits : then_weights weights others ≡ words

-- the rest of a line after the weights of an atom
abbrev pub atom_rest : NamedAtom → List ℕ
atom_rest a = codes "(" ++ a.predicate ++ flat_map after_blank a.objects ++ codes ")"

-- the rest of a line after its first word and a blank
abbrev pub line_rest : TextLine → Option (List ℕ)
line_rest (version v) = Some (decimal (version_number v))
line_rest (claims claim) = Some (claim_rest claim)
line_rest (constant k) = then_weights k None
line_rest (swapped names) = then_words names None
line_rest (atom a) = then_weights a.weights (Some (atom_rest a.atom))
line_rest (part p) = part_rest p
line_rest (listed l) = Some (mark_rest l.mark l.cost ++ numbers_text l.atoms)
line_rest (last count) = Some (decimal count)

-- The words begin with atom numbers in ascending order, and do not go on with another one.
pub record AreLeading (words : Option (List ℕ)) (atom_count : ℕ) (numbers : List ℕ) (others : Option (List ℕ)) : Type 0 where
  pub rising : IsTrue (rise atom_count 0 numbers)
  pub stops : (n : ℕ) (rest : Option (List ℕ)) → IsTrue (rise atom_count 0 (numbers ++ n ∷ [])) → others ≢ Some (with_rest (decimal n) rest)
  pub splits : numbers_then numbers others ≡ words

-- The bytes are a number, followed by atom numbers in ascending order.
pub record IsNumbered (bytes : List ℕ) (atom_count number : ℕ) (atoms : List ℕ) : Type 0 where
  pub is_number : IsTrue (is_number number)
  pub rising : IsTrue (rise atom_count 0 atoms)
  pub splits : bytes ≡ with_rest (decimal number) (then_words (map decimal atoms) None)

-- The bytes are a number, followed by another with those of atoms.
pub record IsCut (rest : List ℕ) (atom_count cost least : ℕ) (atoms : List ℕ) : Type 0 where
  pub is_number : IsTrue (is_number cost)
  pub bytes : List ℕ
  pub numbered : IsNumbered bytes atom_count least atoms
  pub splits : rest ≡ with_rest (decimal cost) (Some bytes)

-- The bytes are the number of a landmark value that a text of this version may have, followed by the rest.
pub record IsBasisFirst (bytes : List ℕ) (v : Version) (number : ℕ) (rest : List ℕ) : Type 0 where
  pub allowed : IsTrue (has_landmarks v && nat_lt number most_values)
  pub splits : bytes ≡ with_rest (decimal number) (Some rest)

-- the names of an atom are names in lower case
abbrev pub are_lower : NamedAtom → Bool
are_lower a = list_all is_lower_name (a.predicate ∷ a.objects)

-- the byte is not a capital letter
abbrev pub is_no_capital : ℕ → Bool
is_no_capital byte = not (is_ascii_uppercase byte)

-- the line begins with this word, followed by these bytes, and is within the limits
pub record IsReadAs (word rest : List ℕ) (f : Format) (line : TextLine) : Type 0 where
  pub head : line_head line ≡ word
  pub following : line_rest line ≡ Some rest
  pub within : IsTrue (is_line f line)
