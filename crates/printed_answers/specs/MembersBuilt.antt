-- The JSON values that are built from the members.
use Rattle.std.specs.Prelude.{List, [], ◌∷◌, map}
use Rattle.serde_json.specs.Data.{Data, unsigned, array, Members, no_members}
use Rattle.serde_json.specs.Data as built
use Rattle.serde_json.specs.View.{items_of}
use Rattle.printed_answers.specs.JsonText.{MemberValue, Member, number, text, texts}

abbrev pub value_built : MemberValue → Data
value_built (number n) = built.number (unsigned n)
value_built (text s) = built.string s
value_built (texts list) = array (items_of (map built.string list))

abbrev pub members_built : List Member → Members
members_built [] = no_members
members_built (member ∷ rest) = built.member member.key (value_built member.value) (members_built rest)
