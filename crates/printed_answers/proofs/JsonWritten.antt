-- The value built from members has their text, and a parser reads it back.
use Rattle.std.proofs.Common.{◌≡◌, ℕ, ◌≤◌, Bool, true, false, List, [], ◌∷◌, ◌++◌, map, Some, refl, sym, ap, ap₂, ◌∙◌, append_assoc, append-nil, subst, arith}
use Rattle.std.specs.Prelude.{flat_map, ◌||◌, option_and_then}
use Rattle.std.proofs.lemmas.Bool.Decides.{nat_tests}
use Rattle.json.specs.Print.{escape_byte, escape, quoted}
use Rattle.json.specs.Tree.{json_tokens, depth, items_depth, members_depth}
use Rattle.json.specs.Lex.{tokens}
use Rattle.json.specs.Json.{document, value, if_last, max_depth}
use Rattle.json.specs.Json as json
use Rattle.json.proofs.Printed.Trees.{value-json_tokens}
use Rattle.serde_json.specs.Data.{Data, object}
use Rattle.serde_json.specs.Data as built
use Rattle.serde_json.specs.View.{items_of}
use Rattle.serde_json.specs.Written.{compact_text, items_text, members_text, comma_if, outline, items_outline, members_outline, has_float, items_have_float, IsInOrder}
use Rattle.serde_json.proofs.Texts.{tokens_from_order}
use Rattle.printed_answers.specs.JsonText.{MemberValue, Member, number, text, texts, escaped, string_text, joined, value_text, member_text, object_text}
use Rattle.printed_answers.specs.Members.{strings_read, value_read, members_read}
use Rattle.printed_answers.specs.MembersBuilt.{value_built, members_built}

-- the library escapes a byte as defined
escaped_same : (byte : ℕ) → escape_byte byte ≡ escaped byte
unfolding escape_byte
escaped_same byte = grind (arith, nat_tests)

all_escaped : (s : List ℕ) → escape s ≡ flat_map escaped s
all_escaped [] = refl
all_escaped (byte ∷ s) = ap₂ (λ (first rest : List ℕ). first ++ rest) (escaped_same byte) (all_escaped s)

quoted_same : (s : List ℕ) → quoted s ≡ string_text s
quoted_same s = ap (λ (inner : List ℕ). 34 ∷ (inner ++ 34 ∷ [])) (all_escaped s)

strings_written : (later : Bool) (s : List ℕ) (rest : List (List ℕ)) → items_text later (items_of (map built.string (s ∷ rest))) ≡ comma_if later ++ (joined (map string_text (s ∷ rest)) ++ 93 ∷ [])
strings_written later s [] = ap (λ (t : List ℕ). comma_if later ++ (t ++ 93 ∷ [])) (quoted_same s)
strings_written later s (next ∷ rest) =
    ap₂ (λ (t following : List ℕ). comma_if later ++ (t ++ following)) (quoted_same s) (strings_written true next rest)
    ∙ ap (λ (t : List ℕ). comma_if later ++ t) (sym (append_assoc (string_text s) (44 ∷ joined (map string_text (next ∷ rest))) (93 ∷ [])))

value_written : (v : MemberValue) → compact_text (value_built v) ≡ value_text v
value_written (number n) = refl
value_written (text s) = quoted_same s
value_written (texts []) = refl
value_written (texts (s ∷ rest)) = ap (λ (t : List ℕ). 91 ∷ t) (strings_written false s rest)

member_written : (m : Member) (following : List ℕ) → quoted m.key ++ 58 ∷ (compact_text (value_built m.value) ++ following) ≡ member_text m ++ following
member_written m following =
    ap₂ (λ (k v : List ℕ). k ++ 58 ∷ (v ++ following)) (quoted_same m.key) (value_written m.value)
    ∙ sym (append_assoc (string_text m.key) (58 ∷ value_text m.value) following)

members_written : (later : Bool) (m : Member) (rest : List Member) → members_text later (members_built (m ∷ rest)) ≡ comma_if later ++ (joined (map member_text (m ∷ rest)) ++ 125 ∷ [])
members_written later m [] = ap (λ (t : List ℕ). comma_if later ++ t) (member_written m (125 ∷ []))
members_written later m (next ∷ rest) =
    ap (λ (t : List ℕ). comma_if later ++ t)
    (member_written m (members_text true (members_built (next ∷ rest)))
    ∙ ap (λ (t : List ℕ). member_text m ++ t) (members_written true next rest)
    ∙ sym (append_assoc (member_text m) (44 ∷ joined (map member_text (next ∷ rest))) (125 ∷ [])))

-- the object that is built is printed as the text
object_written : (members : List Member) → compact_text (object (members_built members)) ≡ object_text members
object_written [] = refl
object_written (m ∷ rest) = ap (λ (t : List ℕ). 123 ∷ t) (members_written false m rest)

strings_whole : (list : List (List ℕ)) → items_have_float (items_of (map built.string list)) ≡ false
strings_whole [] = refl
strings_whole (s ∷ rest) = strings_whole rest

value_whole : (v : MemberValue) → has_float (value_built v) ≡ false
value_whole (number n) = refl
value_whole (text s) = refl
value_whole (texts list) = strings_whole list

-- none of its numbers is a float
object_whole : (members : List Member) → has_float (object (members_built members)) ≡ false
object_whole [] = refl
object_whole (m ∷ rest) = ap₂ (λ (first following : Bool). first || following) (value_whole m.value) (object_whole rest)

-- the object that is built is the one that a parser makes
strings_outlined : (list : List (List ℕ)) → items_outline (items_of (map built.string list)) ≡ strings_read list
strings_outlined [] = refl
strings_outlined (s ∷ rest) = ap (json.item (json.string s)) (strings_outlined rest)

value_outlined : (v : MemberValue) → outline (value_built v) ≡ value_read v
value_outlined (number n) = refl
value_outlined (text s) = refl
value_outlined (texts list) = ap json.array (strings_outlined list)

members_outlined : (members : List Member) → members_outline (members_built members) ≡ members_read members
members_outlined [] = refl
members_outlined (m ∷ rest) = ap₂ (json.member m.key) (value_outlined m.value) (members_outlined rest)

strings_depth : (list : List (List ℕ)) → items_depth (strings_read list) ≤ 0
strings_depth [] = omega arith
strings_depth (s ∷ rest) = omega (arith, strings_depth rest)

value_depth : (v : MemberValue) → depth (value_read v) ≤ 1
value_depth (number n) = omega arith
value_depth (text s) = omega arith
value_depth (texts list) = omega (arith, strings_depth list)

members_deep : (members : List Member) → members_depth (members_read members) ≤ 1
members_deep [] = omega arith
members_deep (m ∷ rest) = omega (arith, value_depth m.value, members_deep rest)

object_deep : (members : List Member) → depth (json.object (members_read members)) ≤ max_depth
object_deep members = omega (arith, members_deep members)

-- a text of the object that is built reads back as its members
object_read : (members : List Member) (bytes : List ℕ) → IsInOrder bytes (object (members_built members)) → document bytes ≡ Some (json.object (members_read members))
object_read members bytes in_order =
    let read = json.object (members_read members) in
    let same : tokens bytes ≡ json_tokens read ++ [] =
    tokens_from_order bytes (object (members_built members)) in_order (object_whole members)
    ∙ ap (λ (ms : json.Members). json_tokens (json.object ms)) (members_outlined members) ∙ sym (append-nil (json_tokens read)) in
    ap (λ ts. option_and_then (λ p. if_last p.0 p.1) (value max_depth ts)) same
    ∙ ap (option_and_then (λ p. if_last p.0 p.1)) (value-json_tokens read max_depth [] (object_deep members))

-- so its printed form is the text, and reads back as its members
pub text_reported : (members : List Member) (d : Data) → d ≡ object (members_built members) → (bytes : List ℕ) → (has_float d ≡ false → bytes ≡ compact_text d) → bytes ≡ object_text members
text_reported members d is bytes said = said (ap has_float is ∙ object_whole members) ∙ ap compact_text is ∙ object_written members

pub members_reported : (members : List Member) (d : Data) → d ≡ object (members_built members) → (bytes : List ℕ) → IsInOrder bytes d → document bytes ≡ Some (json.object (members_read members))
members_reported members d is bytes in_order = object_read members bytes (subst (IsInOrder bytes) is in_order)
