-- The code's members in the definition's terms, and how a JSON parser reads them.
use Rattle.std.specs.Prelude.{ℕ, List, [], ◌∷◌, map}
use Rattle.std.specs.Fmt.{decimal}
use Rattle.std.specs.String.{string_bytes}
use Rattle.json.specs.Json as json
use Rattle.printed_answers.specs.JsonText as text
use Rattle.printed_answers.specs.declared.members.Member.{Member}
use Rattle.printed_answers.specs.declared.members.MemberValue.{MemberValue}
use Rattle.printed_answers.specs.declared.members.MemberValue.TheVariants.{Number, Text, Texts}

-- the value of the code, and the member
abbrev pub value_of : MemberValue → text.MemberValue
value_of (Number n) = text.number n
value_of (Text s) = text.text s.now
value_of (Texts list) = text.texts (map string_bytes list.now)

abbrev pub member_of : Member → text.Member
member_of member = record { key = member.key.now; value = value_of member.value }

abbrev pub members_of : List Member → List text.Member
members_of = map member_of

abbrev pub keys_of : List Member → List (List ℕ)
keys_of = map (λ member. member.key.now)

-- how a JSON parser reads strings, a value and members
abbrev pub strings_read : List (List ℕ) → json.Items
strings_read [] = json.no_items
strings_read (s ∷ rest) = json.item (json.string s) (strings_read rest)

abbrev pub value_read : text.MemberValue → json.Json
value_read (text.number n) = json.number (decimal n)
value_read (text.text s) = json.string s
value_read (text.texts list) = json.array (strings_read list)

abbrev pub members_read : List text.Member → json.Members
members_read [] = json.no_members
members_read (member ∷ rest) = json.member member.key (value_read member.value) (members_read rest)
