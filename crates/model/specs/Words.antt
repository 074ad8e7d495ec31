-- When a text reads as words, and which fault is reported for a text that does not. This is the lexical profile (PDDL 1.2 manual,
-- "Syntactic Notation": comments; "Domains": names): bytes as characters, names of ASCII letters, numbers of digits only, and
-- limits on the length of a text, the length of a run and the depth of its lists.
use Rattle.std.specs.Prelude.{◌≡◌, ℕ, zero, suc, ◌+◌, ◌-◌, ◌<◌, ◌≤◌, ◌⊎◌, Bool, true, false, ◌&&◌, ◌||◌, not, ◌==◌, nat_le, if◌then◌else◌, IsTrue, List, [], ◌∷◌, ◌++◌, length, slice_range, map, fold, sum_by, Option, None, Some, ⊤}
use Rattle.std.specs.List.{list_all}
use Rattle.std.specs.Char.{is_ascii_alphabetic, is_ascii_digit}
use Rattle.model.specs.Fault.{Fault}

-- the kind of a word
pub data Kind : Type 0 where
  name : Kind
  variable : Kind
  keyword : Kind
  number : Kind
  dash : Kind
  equals : Kind
  opens : Kind
  closes : Kind

-- a word: its kind, its bytes as written, and the offset of the first of them
pub record Word : Type 0 where
  pub kind : Kind
  pub text : List ℕ
  pub start : ℕ

-- the offset after a word's last byte
abbrev pub end_of : Word → ℕ
end_of w = w.start + length w.text

-- the limits: bytes of a text, bytes of a run, open lists
abbrev pub longest_text : ℕ
longest_text = 16777216

abbrev pub longest_run : ℕ
longest_run = 255

abbrev pub deepest : ℕ
deepest = 64

-- The parts of a text. Each text is cut into parts in exactly one way: a part is a byte and the longest sequence of bytes that
-- continue it.

-- the kind of part that begins with a byte: blanks are space, tab, LF and CR; a run consists of printable bytes other than `(`,
-- `)` and `;`
pub data Form : Type 0 where
  blank : Form
  comment : Form
  opening : Form
  closing : Form
  run : Form
  stray : Form

abbrev pub form_of : ℕ → Form
form_of byte =
    if byte == 32 || byte == 9 || byte == 10 || byte == 13 then blank
    else (if byte == 59 then comment
    else (if byte == 40 then opening
    else (if byte == 41 then closing
    else (if nat_le 33 byte && nat_le byte 126 then run
    else stray))))

abbrev pub is_run : Form → Bool
is_run run = true
is_run _ = false

-- whether a byte continues a part of this form: a comment ends before the next LF, a run continues while run bytes follow, and
-- each other part is a single byte
abbrev pub may_continue : Form → ℕ → Bool
may_continue comment byte = not (byte == 10)
may_continue run byte = is_run (form_of byte)
may_continue _ byte = false

pub record Part : Type 0 where
  pub first : ℕ
  pub others : List ℕ

abbrev pub form : Part → Form
form part = form_of part.first

abbrev pub bytes : Part → List ℕ
bytes part = part.first ∷ part.others

abbrev pub size : Part → ℕ
size part = length (bytes part)

-- no byte follows that continues a part of this form
abbrev pub EndsBefore : Form → List ℕ → Type 0
EndsBefore f [] = ⊤
EndsBefore f (byte ∷ _) = may_continue f byte ≡ false

-- the text is these parts, one after another
abbrev pub AreParts : List ℕ → List Part → Type 0
AreParts text [] = text ≡ []
AreParts text (part ∷ parts) =
    (rest : List ℕ) × (text ≡ bytes part ++ rest) × (list_all (may_continue (form part)) part.others ≡ true)
    × EndsBefore (form part) rest × AreParts rest parts

-- Words

-- a letter, and then letters, digits, `-` and `_`
abbrev pub is_name_byte : ℕ → Bool
is_name_byte byte = is_ascii_alphabetic byte || is_ascii_digit byte || byte == 45 || byte == 95

abbrev pub is_name : List ℕ → Bool
is_name [] = false
is_name (byte ∷ others) = is_ascii_alphabetic byte && list_all is_name_byte others

-- a mark followed by a name
abbrev pub is_marked_name : ℕ → List ℕ → Bool
is_marked_name mark [] = false
is_marked_name mark (byte ∷ others) = (byte == mark) && is_name others

-- one or more digits
abbrev pub is_number : List ℕ → Bool
is_number [] = false
is_number (byte ∷ others) = is_ascii_digit byte && list_all is_ascii_digit others

-- a single byte
abbrev pub is_only : ℕ → List ℕ → Bool
is_only byte [] = false
is_only byte (only ∷ []) = only == byte
is_only byte (_ ∷ _ ∷ _) = false

-- the kind of a run, if it has one: variables begin with `?`, keywords with `:`
abbrev pub kind_of_run : List ℕ → Option Kind
kind_of_run text =
    if is_name text then Some name
    else (if is_marked_name 63 text then Some variable
    else (if is_marked_name 58 text then Some keyword
    else (if is_number text then Some number
    else (if is_only 45 text then Some dash
    else (if is_only 61 text then Some equals
    else None)))))

-- the kind of a part, if it is a word
abbrev pub kind_by : Form → List ℕ → Option Kind
kind_by opening text = Some opens
kind_by closing text = Some closes
kind_by run text = kind_of_run text
kind_by _ text = None

abbrev pub kind_of_part : Part → Option Kind
kind_of_part part = kind_by (form part) (bytes part)

-- a blank or a comment
abbrev pub is_gap : Form → Bool
is_gap blank = true
is_gap comment = true
is_gap _ = false

-- the word is this part, which begins at the offset `start`
pub record IsWordAt (start : ℕ) (part : Part) (word : Word) : Type 0 where
  pub kind : kind_of_part part ≡ Some word.kind
  pub text : word.text ≡ bytes part
  pub start_at : word.start ≡ start
  pub short : form part ≡ run → size part ≤ longest_run

-- from the offset `start` on, the parts are gaps and these words, in order
abbrev pub AreGapsAndWords : ℕ → List Part → List Word → Type 0
AreGapsAndWords start [] words = words ≡ []
AreGapsAndWords start (part ∷ parts) [] = IsTrue (is_gap (form part)) × AreGapsAndWords (start + size part) parts []
AreGapsAndWords start (part ∷ parts) (word ∷ words) =
    (IsTrue (is_gap (form part)) × AreGapsAndWords (start + size part) parts (word ∷ words))
    ⊎ (IsWordAt start part word × AreGapsAndWords (start + size part) parts words)

-- given the number of open lists, each `)` closes a `(`, at most 64 lists are open at once, nothing follows the `)` that closes
-- the first list, and no list is open at the end
abbrev pub AreNested : ℕ → List Kind → Type 0
AreNested open_lists [] = open_lists ≡ 0
AreNested open_lists (opens ∷ kinds) = (open_lists < deepest) × AreNested (suc open_lists) kinds
AreNested zero (closes ∷ kinds) = ⊥
AreNested (suc zero) (closes ∷ kinds) = kinds ≡ []
AreNested (suc (suc outer)) (closes ∷ kinds) = AreNested (suc outer) kinds
AreNested open_lists (_ ∷ kinds) = AreNested open_lists kinds

abbrev pub kinds_of : List Word → List Kind
kinds_of words = map (λ (word : Word). word.kind) words

-- The text reads as these words: it consists of gaps (blanks and comments) and words, no two runs are adjacent, and its lists are
-- well nested, within the limits.
pub record ReadsAs (text : List ℕ) (words : List Word) : Type 0 where
  pub short : length text ≤ longest_text
  pub parts : List Part
  pub cut : AreParts text parts
  pub in_turn : AreGapsAndWords 0 parts words
  pub nested : AreNested 0 (kinds_of words)

-- the text reads as some words
abbrev pub Reads : List ℕ → Type 0
Reads text = (words : List Word) × ReadsAs text words

-- from the offset `low` on, the words are in order in the text, each the slice at its span
abbrev pub AreInOrder : ℕ → List ℕ → List Word → Type 0
AreInOrder low text [] = low ≤ length text
AreInOrder low text (word ∷ words) =
    (low ≤ word.start) × (0 < length word.text) × (slice_range text word.start (end_of word) ≡ word.text)
    × AreInOrder (end_of word) text words

-- Faults: why a text does not read as words, with the number that is reported

-- the number of open lists after a part of this form, given the number before it
abbrev pub open_with : ℕ → Form → ℕ
open_with open_lists opening = suc open_lists
open_with open_lists closing = open_lists - 1
open_with open_lists _ = open_lists

-- the number of open lists after these parts
abbrev pub open_after : List Part → ℕ
open_after parts = fold (λ open_lists (part : Part). open_with open_lists (form part)) 0 parts

-- one of these parts is the parenthesis that closed the first list
abbrev pub HasClosedAList : List Part → Type 0
HasClosedAList parts =
    (before after : List Part) × (part : Part) × (parts ≡ before ++ part ∷ after) × (form part ≡ closing)
    × (open_after before ≡ 1)

-- a parenthesis or a run
abbrev pub IsWord : Form → Type 0
IsWord opening = ⊤
IsWord closing = ⊤
IsWord run = ⊤
IsWord _ = ⊥

-- a part after the parts `before` is faulty, with this number
pub data IsAtFault (before : List Part) (part : Part) : ℕ → Type 0 where
  -- a byte that is neither blank nor printable, outside comments
  bad_byte : form part ≡ stray → IsAtFault before part 1
  -- a run that is not a word of any kind
  bad_word : form part ≡ run → kind_of_part part ≡ None → IsAtFault before part 2
  -- a `)` without a `(`
  unbalanced : form part ≡ closing → open_after before ≡ 0 → IsAtFault before part 3
  -- a `(` that opens a list at depth 65
  too_deep : form part ≡ opening → open_after before ≡ deepest → IsAtFault before part 4
  -- a run over 255 bytes
  too_long : form part ≡ run → longest_run < size part → IsAtFault before part 5
  -- a word after the parenthesis that closed the first list
  trailing : IsWord (form part) → HasClosedAList before → IsAtFault before part 6

abbrev pub size_of_all : List Part → ℕ
size_of_all parts = sum_by size parts

-- the fault is one of the text
pub data IsFault (text : List ℕ) (fault : Fault) : Type 0 where
  -- a part is faulty, and the span is the part's
  at_part : (before after : List Part) (part : Part) → AreParts text (before ++ part ∷ after) → IsAtFault before part fault.code
      → fault.span.start ≡ size_of_all before → fault.span.end ≡ size_of_all before + size part → IsFault text fault
  -- a list is open at the end, and the span is at the end
  open_at_end : (parts : List Part) → AreParts text parts → 0 < open_after parts → fault.code ≡ 3
      → fault.span.start ≡ length text → fault.span.end ≡ length text → IsFault text fault

-- ordered by start, and at equal starts by number
abbrev pub ComesNoLater : Fault → Fault → Type 0
ComesNoLater a b =
    (a.span.start < b.span.start) ⊎ ((a.span.start ≡ b.span.start) × (a.code ≤ b.code))

-- the fault reported for the text: an excessive length before all others, and then the first fault
pub data IsReported (text : List ℕ) (fault : Fault) : Type 0 where
  text_too_long : longest_text < length text → fault.code ≡ 5 → fault.span.start ≡ longest_text
      → fault.span.end ≡ length text → IsReported text fault
  comes_first : length text ≤ longest_text → IsFault text fault
      → ((other : Fault) → IsFault text other → ComesNoLater fault other) → IsReported text fault
