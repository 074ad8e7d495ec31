-- The laws of reading words.
use Rattle.std.proofs.Common.{◌≡◌, ℕ, ◌+◌, ◌-◌, ◌≤◌, Bool, false, List, [], ◌∷◌, length, take, drop, sym, refl, ap, ◌∙◌, subst, inl, inr, arith}
use Rattle.std.proofs.lemmas.List.{drop-drop, drop_at, take_at, length-drop, length-append}
use Rattle.model.specs.Fault as reported
use Rattle.model.specs.Words.{Part, form, bytes, size, Word, end_of, AreParts, AreGapsAndWords, AreInOrder, ReadsAs, open_with, IsReported, text_too_long, comes_first, ComesNoLater}
use Rattle.tokens.specs.Scanner.{closed_with}
use Rattle.tokens.proofs.Cut.{cut}
use Rattle.tokens.proofs.Faults.{FaultIn, later, fault_met, none_found}
use Rattle.tokens.proofs.Words.{read_has_no_fault}

module _ (text : List ℕ) where
  record After (start : ℕ) (part : Part) (parts : List Part) : Type 0 where
    bytes_are : take (size part) (drop start text) ≡ bytes part
    parts_are : AreParts (drop (start + size part) text) parts
    within : start + size part ≤ length text

  after : (start : ℕ) (part : Part) (parts : List Part) → start ≤ length text → AreParts (drop start text) (part ∷ parts) → After start part parts
  after start part parts inside (rest, text_is, _, _, more) =
      let sizes = ap length text_is in
      let dropped = length-drop start text in
      let joined = length-append (bytes part) rest in
      record {
        bytes_are = ap (take (size part)) text_is ∙ take_at (bytes part) rest (size part) refl;
        parts_are = subst (λ left. AreParts left parts) (sym (sym (drop-drop (size part) start text) ∙ ap (drop (size part)) text_is ∙ drop_at (bytes part) rest (size part) refl)) more;
        within = omega (arith, sizes, dropped, joined);
      }

  in_order : (low start : ℕ) (parts : List Part) (words : List Word) → low ≤ start → start ≤ length text → AreParts (drop start text) parts → AreGapsAndWords start parts words → AreInOrder low text words
  in_order low start [] words above inside are h = subst (AreInOrder low text) (sym h) (let short : low ≤ length text = omega arith in short)
  in_order low start (part ∷ parts) [] above inside are h =
      let next = after start part parts inside are in
      in_order low (start + size part) parts [] (omega arith) next.within next.parts_are h.1
  in_order low start (part ∷ parts) (word ∷ words) above inside are (inl h) =
      let next = after start part parts inside are in
      in_order low (start + size part) parts (word ∷ words) (omega arith) next.within next.parts_are h.1
  in_order low start (part ∷ parts) (word ∷ words) above inside are (inr h) =
      let next = after start part parts inside are in
      let here = h.0 in
      let long : length word.text ≡ size part = ap length here.text in
      let end_is : end_of word ≡ start + size part = omega (arith, here.start_at, long) in
      let span : end_of word - word.start ≡ size part = omega (arith, here.start_at, long) in (
        omega (arith, here.start_at),
        omega (arith, long),
        ap (λ n. take n (drop word.start text)) span ∙ ap (λ s. take (size part) (drop s text)) here.start_at ∙ next.bytes_are ∙ sym here.text,
        in_order (end_of word) (start + size part) parts words (omega (arith, end_is)) next.within next.parts_are h.1,
      )

pub words_in_order : (text : List ℕ) (words : List Word) → ReadsAs text words → AreInOrder 0 text words
words_in_order text words h = in_order text 0 0 h.parts words (omega arith) (omega arith) h.cut h.in_turn

-- faults that begin at the same byte end at the same byte
same_end : (start n : ℕ) (c : Bool) (parts : List Part) (a b : reported.Fault) → FaultIn start n c parts a → FaultIn start n c parts b → a.span.start ≡ b.span.start → a.span.end ≡ b.span.end
same_end start n c [] a b h g e = h.3 ∙ sym g.3
same_end start n c (part ∷ parts) a b (inl h) (inl g) e = h.2 ∙ sym g.2
same_end start n c (part ∷ parts) a b (inl h) (inr g) e =
    let beyond = later (start + size part) (open_with n (form part)) (closed_with n c (form part)) parts b g in
    absurd (omega (arith, beyond, h.1, e))
same_end start n c (part ∷ parts) a b (inr h) (inl g) e =
    let beyond = later (start + size part) (open_with n (form part)) (closed_with n c (form part)) parts a h in
    absurd (omega (arith, beyond, g.1, e))
same_end start n c (part ∷ parts) a b (inr h) (inr g) e = same_end (start + size part) (open_with n (form part)) (closed_with n c (form part)) parts a b h g e

same_fault : (a b : reported.Fault) → a.code ≡ b.code → a.span.start ≡ b.span.start → a.span.end ≡ b.span.end → a ≡ b
same_fault a b code start end =
    ap (λ x. let f : reported.Fault = record { code = x; span = a.span } in f) code
    ∙ ap (λ x. let f : reported.Fault = record { code = b.code; span = record { start = x; end = a.span.end } } in f) start
    ∙ ap (λ x. let f : reported.Fault = record { code = b.code; span = record { start = b.span.start; end = x } } in f) end

both_ways : (a b : reported.Fault) → ComesNoLater a b → ComesNoLater b a → (a.code ≡ b.code) × (a.span.start ≡ b.span.start)
both_ways a b (inl h) (inl g) = absurd (omega arith)
both_ways a b (inl h) (inr g) = absurd (omega (arith, g.0))
both_ways a b (inr h) (inl g) = absurd (omega (arith, h.0))
both_ways a b (inr h) (inr g) = (omega (arith, h.1, g.1), h.0)

pub reported_once : (text : List ℕ) (fault other : reported.Fault) → IsReported text fault → IsReported text other → fault ≡ other
reported_once text fault other (text_too_long _ c s e) (text_too_long _ d t f) = same_fault fault other (c ∙ sym d) (s ∙ sym t) (e ∙ sym f)
reported_once text fault other (text_too_long long _ _ _) (comes_first short _ _) = absurd (omega arith)
reported_once text fault other (comes_first short _ _) (text_too_long long _ _ _) = absurd (omega arith)
reported_once text fault other (comes_first _ is least) (comes_first _ is' least') =
    let same = both_ways fault other (least other is') (least' fault is) in
    same_fault fault other same.0 same.1 (same_end 0 0 false (cut text) fault other (fault_met text fault is) (fault_met text other is') same.1)

pub read_is_reported_nothing : (text : List ℕ) (words : List Word) (fault : reported.Fault) → ReadsAs text words → IsReported text fault → ⊥
read_is_reported_nothing text words fault reads (text_too_long long _ _ _) = let short = reads.short in omega (arith, short)
read_is_reported_nothing text words fault reads (comes_first _ is _) =
    none_found 0 0 false (cut text) fault (read_has_no_fault text words reads) (fault_met text fault is)
