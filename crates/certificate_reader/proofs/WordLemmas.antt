-- The first word of bytes.
use Rattle.std.proofs.Common.{◌≡◌, ℕ, suc, ◌+◌, ◌-◌, ◌<◌, ◌≤◌, nat_lt, Bool, true, false, not, cond, List, [], ◌∷◌, ◌++◌, take, drop, length, Option, None, Some, refl, sym, ap, ◌∙◌, subst, append_assoc, arith}
use Rattle.std.specs.Prelude.{◌&&◌, IsTrue}
use Rattle.std.specs.List.{position, position_or_len}
use Rattle.std.proofs.lemmas.List.{take_all, length-drop}
use Rattle.std.proofs.lemmas.Bool.{and_parts, eqb-true, ltb-true, ltb-false}
use Rattle.certificate_reader.specs.Words.{IsFirstWord, is_blank, is_word, with_rest}

-- Up to the first blank is a word, and after it the rest.
record IsCut (bytes : List ℕ) (end : ℕ) : Type 0 where
  is_word : IsTrue (is_word (take end bytes))
  splits : end < length bytes → bytes ≡ take end bytes ++ 32 ∷ drop (suc end) bytes
  whole : length bytes ≤ end → take end bytes ≡ bytes

one_after : (n : ℕ) → 1 + n ≡ suc n
one_after n = omega arith

one_past : (n : ℕ) → n + 1 ≡ suc n
one_past n = omega arith

cut_at_first : (bytes : List ℕ) → IsCut bytes (position_or_len is_blank bytes)
cut_at_first [] = record { is_word = refl; splits = λ within. absurd (omega (arith, within)); whole = λ past. refl }
cut_at_first (byte ∷ bytes) = by_byte (cut_at_first bytes) (is_blank byte) refl
  where
    place : ℕ
    place = position_or_len is_blank bytes

    by_byte : IsCut bytes place → (b : Bool) → is_blank byte ≡ b → IsCut (byte ∷ bytes) (cond (not b) (1 + place) 0)
    by_byte more true is = record {
      is_word = refl;
      splits = λ within. ap (λ b. b ∷ bytes) (eqb-true byte 32 is);
      whole = λ past. absurd (omega (arith, past));
    }
    by_byte more false other = subst (IsCut (byte ∷ bytes)) (sym (one_after place)) (record {
      is_word = ap (λ b. not b && is_word (take place bytes)) other ∙ more.is_word;
      splits = λ within. ap (λ rest. byte ∷ rest) (more.splits (omega (arith, within)));
      whole = λ past. ap (λ rest. byte ∷ rest) (more.whole (omega (arith, past)));
    })

take_of_drop : (bytes : List ℕ) (n : ℕ) → take (length bytes - n) (drop n bytes) ≡ drop n bytes
take_of_drop bytes n = take_all (length bytes - n) (drop n bytes) (omega (arith, length-drop n bytes))

pub word_then_rest : (bytes : List ℕ) (end : ℕ) → position is_blank bytes ≡ Some end
    → IsFirstWord bytes (take end bytes) (Some (take (length bytes - (end + 1)) (drop (end + 1) bytes)))
word_then_rest bytes end at = by_test (nat_lt place (length bytes)) refl at
  where
    place : ℕ
    place = position_or_len is_blank bytes

    by_test : (b : Bool) → nat_lt place (length bytes) ≡ b → cond b (Some place) None ≡ Some end
        → IsFirstWord bytes (take end bytes) (Some (take (length bytes - (end + 1)) (drop (end + 1) bytes)))
    by_test true within at =
        let same : place ≡ end = cc in
        let cut : IsCut bytes end = subst (IsCut bytes) same (cut_at_first bytes) in
        let before : end < length bytes = subst (λ n. n < length bytes) same (ltb-true place (length bytes) within) in
        let rest_is : take (length bytes - (end + 1)) (drop (end + 1) bytes) ≡ drop (suc end) bytes =
        take_of_drop bytes (end + 1) ∙ ap (λ n. drop n bytes) (one_past end) in
        record {
          is_word = cut.is_word;
          splits = cut.splits before ∙ sym (append_assoc (take end bytes) (32 ∷ []) (drop (suc end) bytes))
              ∙ ap (λ rest. (take end bytes ++ 32 ∷ []) ++ rest) (sym rest_is);
        }
    by_test false past at = absurd (cc at)

pub word_alone : (bytes : List ℕ) → position is_blank bytes ≡ None → IsFirstWord bytes bytes None
word_alone bytes at = by_test (nat_lt place (length bytes)) refl at
  where
    place : ℕ
    place = position_or_len is_blank bytes

    by_test : (b : Bool) → nat_lt place (length bytes) ≡ b → cond b (Some place) None ≡ None → IsFirstWord bytes bytes None
    by_test true within at = absurd (cc at)
    by_test false past at =
        let cut = cut_at_first bytes in
        record { is_word = subst (λ word. IsTrue (is_word word)) (cut.whole (ltb-false place (length bytes) past)) cut.is_word; splits = refl }

-- Bytes have a unique first word.
with_rest-cons : (byte : ℕ) (word : List ℕ) (rest : Option (List ℕ)) → with_rest (byte ∷ word) rest ≡ byte ∷ with_rest word rest
with_rest-cons byte word None = refl
with_rest-cons byte word (Some rest) = refl

pub same_head : (a b : ℕ) (xs ys : List ℕ) → a ∷ xs ≡ b ∷ ys → a ≡ b
same_head a b xs ys same = cc

pub same_tail : (a b : ℕ) (xs ys : List ℕ) → a ∷ xs ≡ b ∷ ys → xs ≡ ys
same_tail a b xs ys same = cc

no_blank : (byte : ℕ) (word : List ℕ) → IsTrue (is_word (byte ∷ word)) → byte ≡ 32 → ⊥
no_blank byte word is same = absurd (cc (sym (and_parts (not (is_blank byte)) (is_word word) is).0 ∙ ap (λ b. not (is_blank b)) same))

rest_is_word : (byte : ℕ) (word : List ℕ) → IsTrue (is_word (byte ∷ word)) → IsTrue (is_word word)
rest_is_word byte word is = (and_parts (not (is_blank byte)) (is_word word) is).1

pub one_first : (word other : List ℕ) (rest following : Option (List ℕ)) → IsTrue (is_word word) → IsTrue (is_word other)
    → with_rest word rest ≡ with_rest other following → (word ≡ other) × (rest ≡ following)
one_first [] [] None None is so same = (refl, refl)
one_first [] [] None (Some following) is so same = absurd (cc same)
one_first [] [] (Some rest) None is so same = absurd (cc same)
one_first [] [] (Some rest) (Some following) is so same = (refl, ap (λ r. Some r) (same_tail 32 32 rest following same))
one_first [] (b ∷ other) None following is so same = absurd (cc (same ∙ with_rest-cons b other following))
one_first [] (b ∷ other) (Some rest) following is so same =
    absurd (no_blank b other so (sym (same_head 32 b rest (with_rest other following) (same ∙ with_rest-cons b other following))))
one_first (a ∷ word) [] rest None is so same = absurd (cc (sym (with_rest-cons a word rest) ∙ same))
one_first (a ∷ word) [] rest (Some following) is so same =
    absurd (no_blank a word is (same_head a 32 (with_rest word rest) following (sym (with_rest-cons a word rest) ∙ same)))
one_first (a ∷ word) (b ∷ other) rest following is so same =
    let both : a ∷ with_rest word rest ≡ b ∷ with_rest other following = sym (with_rest-cons a word rest) ∙ same ∙ with_rest-cons b other following in
    let (words, rests) = one_first word other rest following (rest_is_word a word is) (rest_is_word b other so)
    (same_tail a b (with_rest word rest) (with_rest other following) both) in
    (cons_same a b word other (same_head a b (with_rest word rest) (with_rest other following) both) words, rests)
  where
    cons_same : (a b : ℕ) (xs ys : List ℕ) → a ≡ b → xs ≡ ys → a ∷ xs ≡ b ∷ ys
    cons_same a b xs ys first more = λ i. first i ∷ more i
