-- The compact text of a JSON object whose members are numbers, strings and lists of strings (RFC 8259): it has no blanks, and
-- strings have only required escapes.
use Rattle.std.specs.Prelude.{ℕ, ◌/◌, ◌%◌, ◌==◌, ◌||◌, ◌&&◌, nat_lt, Bool, true, false, if◌then◌else◌, List, [], ◌∷◌, ◌++◌, flat_map, map, codes}
use Rattle.std.specs.Fmt.{decimal}
use Rattle.std.specs.Char.{digit_char}
use Rattle.std.specs.Cmp.Lexicographic.{slice_cmp}
use Rattle.std.specs.Ordering.{nat_cmp, match_ordering}

-- the value of a member: a number, a string or an array of strings
pub data MemberValue : Type 0 where
  number : ℕ → MemberValue
  text : List ℕ → MemberValue
  texts : List (List ℕ) → MemberValue

pub record Member : Type 0 where
  pub key : List ℕ
  pub value : MemberValue

-- The bytes of a string for a character (section 7): a quotation mark and a backslash are preceded by a backslash, as are the
-- letters that stand for backspace, form feed, line feed, carriage return and tab; another control character is `\u00` and two
-- digits.
abbrev pub escaped : ℕ → List ℕ
escaped byte =
    if (byte == 34) || (byte == 92) then 92 ∷ byte ∷ []
    else (if byte == 8 then codes "\\b"
    else (if byte == 12 then codes "\\f"
    else (if byte == 10 then codes "\\n"
    else (if byte == 13 then codes "\\r"
    else (if byte == 9 then codes "\\t"
    else (if nat_lt byte 32 then codes "\\u00" ++ (digit_char (byte / 16) ∷ digit_char (byte % 16) ∷ [])
    else byte ∷ []))))))

-- a string, between quotation marks
abbrev pub string_text : List ℕ → List ℕ
string_text s = codes "\"" ++ (flat_map escaped s ++ codes "\"")

-- texts separated by commas
abbrev pub joined : List (List ℕ) → List ℕ
joined [] = []
joined (first ∷ []) = first
joined (first ∷ second ∷ rest) = first ++ (codes "," ++ joined (second ∷ rest))

-- a number in decimal digits, a string, or an array between brackets
abbrev pub value_text : MemberValue → List ℕ
value_text (number n) = decimal n
value_text (text s) = string_text s
value_text (texts list) = codes "[" ++ (joined (map string_text list) ++ codes "]")

-- a key, a colon and the value
abbrev pub member_text : Member → List ℕ
member_text member = string_text member.key ++ (codes ":" ++ value_text member.value)

-- the members between braces, separated by commas
abbrev pub object_text : List Member → List ℕ
object_text members = codes "{" ++ (joined (map member_text members) ++ codes "}")

-- the first key comes before the second in bytewise order
abbrev pub comes_before : List ℕ → List ℕ → Bool
comes_before first second = match_ordering (slice_cmp nat_cmp first second) true false false

-- the keys ascend bytewise, so that none is repeated
abbrev pub ascend : List (List ℕ) → Bool
ascend [] = true
ascend (first ∷ []) = true
ascend (first ∷ second ∷ rest) = comes_before first second && ascend (second ∷ rest)
