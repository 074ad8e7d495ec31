-- Worked examples of the text of objects.
use Rattle.std.specs.Prelude.{◌≡◌, ℕ, true, false, List, [], ◌∷◌, codes}
use Rattle.printed_answers.specs.JsonText.{MemberValue, Member, number, text, texts, string_text, object_text, ascend}

abbrev pub member : List ℕ → MemberValue → Member
member key value = record { key = key; value = value }

pub record AreWritten : Type 0 where
  pub no_member : object_text [] ≡ codes "{}"
  pub one_number : object_text (member (codes "cost") (number 6) ∷ []) ≡ codes "{\"cost\":6}"
  pub two_members : object_text (member (codes "cost") (number 0) ∷ member (codes "result") (text (codes "at least")) ∷ []) ≡ codes "{\"cost\":0,\"result\":\"at least\"}"
  pub no_text : object_text (member (codes "steps") (texts []) ∷ []) ≡ codes "{\"steps\":[]}"
  pub two_texts : object_text (member (codes "steps") (texts (codes "(hop a b)" ∷ codes "(hop b c)" ∷ [])) ∷ []) ≡ codes "{\"steps\":[\"(hop a b)\",\"(hop b c)\"]}"
  pub a_number_and_its_text : object_text (member (codes "a") (number 10) ∷ member (codes "b") (text (codes "10")) ∷ []) ≡ codes "{\"a\":10,\"b\":\"10\"}"
  -- strings with characters that are escaped: a quotation mark, a backslash, a line feed, a tab and two other control characters
  pub escaped : string_text (34 ∷ 92 ∷ 10 ∷ 9 ∷ 1 ∷ 31 ∷ []) ≡ codes "\"\\\"\\\\\\n\\t\\u0001\\u001f\""
  -- and with characters that are not: a solidus, DEL and bytes above ASCII
  pub as_they_are : string_text (47 ∷ 127 ∷ 195 ∷ 164 ∷ []) ≡ 34 ∷ 47 ∷ 127 ∷ 195 ∷ 164 ∷ 34 ∷ []
  -- keys ascend bytewise, a prefix before the longer key, and no key is repeated
  pub in_order : ascend (codes "Z" ∷ codes "a" ∷ codes "step" ∷ codes "steps" ∷ []) ≡ true
  pub not_in_order : ascend (codes "cost" ∷ codes "command" ∷ []) ≡ false
  pub one_key_twice : ascend (codes "cost" ∷ codes "cost" ∷ []) ≡ false
