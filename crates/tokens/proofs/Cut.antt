-- A text is cut into parts in exactly one way, by `cut`.
use Rattle.std.proofs.Common.{◌≡◌, ℕ, suc, ◌+◌, ◌-◌, ◌<◌, Bool, true, false, cond, List, [], ◌∷◌, ◌++◌, length, get_or, take, drop, sym, refl, ap, ◌∙◌, subst, append_assoc, one-add, arith}
use Rattle.std.specs.List.{list_all, prefix_len}
use Rattle.std.proofs.lemmas.List.{append-nil, drop_more, drop-drop}
use Rattle.std.proofs.lemmas.Bool.{and_parts, and_from}
use Rattle.std.proofs.lemmas.List.Folds.{length-prefix_len}
use Rattle.model.specs.Words.{form_of, may_continue, Part, form, bytes, size, EndsBefore, AreParts}
pub use Rattle.tokens.specs.Cut.{alone, with_more, going, cut}

with_none : (part : Part) → with_more part [] ≡ part
with_none part = ap (λ others. let p : Part = record { first = part.first; others = others } in p) (append-nil part.others)

with_both : (part : Part) (a b : List ℕ) → with_more (with_more part a) b ≡ with_more part (a ++ b)
with_both part a b = ap (λ others. let p : Part = record { first = part.first; others = others } in p) (append_assoc part.others a b)

-- what continues a part is the longest stretch
going_is : (part : Part) (rest : List ℕ) → going part rest ≡ with_more part (take (prefix_len (may_continue (form part)) rest) rest) ∷ cut (drop (prefix_len (may_continue (form part)) rest) rest)
going_is part [] = ap (λ p. p ∷ []) (sym (with_none part))
going_is part (byte ∷ rest) = by_test (may_continue (form part) byte) (going_is (with_more part (byte ∷ [])) rest)
  where
    n : ℕ
    n = prefix_len (may_continue (form part)) rest

    by_test : (t : Bool) → going (with_more part (byte ∷ [])) rest ≡ with_more (with_more part (byte ∷ [])) (take n rest) ∷ cut (drop n rest) → cond t (going (with_more part (byte ∷ [])) rest) (part ∷ going (alone byte) rest) ≡ with_more part (take (cond t (1 + n) 0) (byte ∷ rest)) ∷ cut (drop (cond t (1 + n) 0) (byte ∷ rest))
    by_test true inner = rw one-add (inner ∙ ap (λ p. p ∷ cut (drop n rest)) (with_both part (byte ∷ []) (take n rest)))
    by_test false inner = ap (λ p. p ∷ cut (byte ∷ rest)) (sym (with_none part))

-- the continuation, where it is known
going_at : (part : Part) (more rest : List ℕ) → list_all (may_continue (form part)) more ≡ true → EndsBefore (form part) rest → going part (more ++ rest) ≡ with_more part more ∷ cut rest
going_at part [] [] passes ends = ap (λ p. p ∷ []) (sym (with_none part))
going_at part [] (byte ∷ rest) passes ends =
    ap (λ t. cond t (going (with_more part (byte ∷ [])) rest) (part ∷ going (alone byte) rest)) ends ∙ ap (λ p. p ∷ cut (byte ∷ rest)) (sym (with_none part))
going_at part (byte ∷ more) rest passes ends =
    let both = and_parts (may_continue (form part) byte) (list_all (may_continue (form part)) more) passes in
    ap (λ t. cond t (going (with_more part (byte ∷ [])) (more ++ rest)) (part ∷ going (alone byte) (more ++ rest))) both.0
    ∙ going_at (with_more part (byte ∷ [])) more rest both.1 ends
    ∙ ap (λ p. p ∷ cut rest) (with_both part (byte ∷ []) more)

-- a text has no other parts than these
pub cut_unique : (text : List ℕ) (parts : List Part) → AreParts text parts → parts ≡ cut text
cut_unique text [] h = sym (ap cut h)
cut_unique text (part ∷ parts) (rest, text_is, passes, ends, more) =
    ap (λ ps. part ∷ ps) (cut_unique rest parts more)
    ∙ sym (ap cut text_is ∙ going_at (alone part.first) part.others rest passes ends)

all_push : (test : ℕ → Bool) (xs : List ℕ) (x : ℕ) → list_all test xs ≡ true → test x ≡ true → list_all test (xs ++ x ∷ []) ≡ true
all_push test [] x h g = and_from (test x) true g refl
all_push test (y ∷ ys) x h g =
    let both = and_parts (test y) (list_all test ys) h in
    and_from (test y) (list_all test (ys ++ x ∷ [])) both.0 (all_push test ys x both.1 g)

going_parts : (part : Part) (rest : List ℕ) → list_all (may_continue (form part)) part.others ≡ true → AreParts (bytes part ++ rest) (going part rest)
going_parts part [] passes = ([], refl, passes, tt, refl)
going_parts part (byte ∷ rest) passes =
    by_test (may_continue (form part) byte) refl (λ e. going_parts (with_more part (byte ∷ [])) rest (all_push (may_continue (form part)) part.others byte passes e)) (going_parts (alone byte) rest refl)
  where
    by_test : (t : Bool) → may_continue (form part) byte ≡ t → (may_continue (form part) byte ≡ true → AreParts (bytes (with_more part (byte ∷ [])) ++ rest) (going (with_more part (byte ∷ [])) rest)) → AreParts (byte ∷ rest) (going (alone byte) rest) → AreParts (bytes part ++ byte ∷ rest) (cond t (going (with_more part (byte ∷ [])) rest) (part ∷ going (alone byte) rest))
    by_test true e joined next = subst (λ text. AreParts text (going (with_more part (byte ∷ [])) rest)) (append_assoc (bytes part) (byte ∷ []) rest) (joined e)
    by_test false e joined next = (byte ∷ rest, refl, passes, e, next)

-- and these are its parts
pub cut_parts : (text : List ℕ) → AreParts text (cut text)
cut_parts [] = refl
cut_parts (byte ∷ rest) = going_parts (alone byte) rest refl

-- The part that begins at `start` and ends at `end`.
pub record PartBetween (text : List ℕ) (start end : ℕ) : Type 0 where
  pub part : Part
  pub first : part.first ≡ get_or text start 0
  pub cut_is : cut (drop start text) ≡ part ∷ cut (drop end text)
  pub bytes_are : bytes part ≡ take (end - start) (drop start text)
  pub size_is : start + size part ≡ end

pub part_between : (text : List ℕ) (start end : ℕ) → start < length text → end ≡ start + 1 + prefix_len (may_continue (form_of (get_or text start 0))) (drop (start + 1) text) → PartBetween text start end
part_between text start end inside end_is = record {
  part = whole;
  first = refl;
  cut_is = ap cut (drop_more text start 0 inside) ∙ going_is (alone byte) rest ∙ ap (λ ps. whole ∷ cut ps) (drop-drop n (start + 1) text ∙ ap (λ k. drop k text) (sym end_is));
  bytes_are = sym (ap (λ k. take k (drop start text)) (let e : end - start ≡ suc n = omega arith in e) ∙ ap (take (suc n)) (drop_more text start 0 inside));
  size_is = omega (arith, length-prefix_len (may_continue (form_of byte)) rest);
}
  where
    byte : ℕ
    byte = get_or text start 0

    rest : List ℕ
    rest = drop (start + 1) text

    n : ℕ
    n = prefix_len (may_continue (form_of byte)) rest

    whole : Part
    whole = with_more (alone byte) (take n rest)
