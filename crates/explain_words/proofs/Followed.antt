-- What is refused in words with one more after them tells whether a file begins with them, and with that one too.
use Rattle.std.specs.Prelude.{◌≡◌, ◌≢◌, ◌↔◌, ◌+◌, ◌<◌, Bool, false, IsTrue, IfSome, List, [], ◌∷◌, ◌++◌, length, get_or, map, Option, Some, None, ℕ}
use Rattle.std.specs.List.{All}
use Rattle.std.proofs.Common.{refl, ap, sym, ◌∙◌, subst, arith}
use Rattle.std.proofs.lemmas.List.{append_assoc, append-nil, length-append, map-append}
use Rattle.std.proofs.lemmas.List.Elements.{All-nil, All-cons}
use Rattle.faults.specs.declared.refused.TextRefusal.{TextRefusal}
use Rattle.tokens.specs.Word.{word_of}
use Rattle.tokens.specs.declared.word.Word as code
use Rattle.tokens.specs.Reported.{refusal_of}
use Rattle.model.specs.Fault.{Fault, Span}
use Rattle.model.specs.Words.{AreInOrder, Word, end_of}
use Rattle.model.specs.Trees.{TaskFile}
use Rattle.model.specs.GrammarWords.{token_of, tokens_of}
use Rattle.model.specs.Refusals.{Begins, IsRefused, IsWhole, at_word, at_end, end_of_all}
use Rattle.model.proofs.GrammarBegins.{fewer}
use Rattle.model.proofs.GrammarOneRefusal.{one_refusal}
use Rattle.model.proofs.Places.{Places, at_one, comes_before, comes_after, places}
use Rattle.explain_words.specs.Expected.{MayFollow}
use Rattle.explain_words.specs.Verdict.{IsVerdict}

-- words end where the last of them does
last_end : (words : List Word) (word : Word) → end_of_all (words ++ word ∷ []) ≡ end_of word
last_end [] word = refl
last_end (first ∷ []) word = refl
last_end (first ∷ second ∷ words) word = last_end (second ∷ words) word

-- A word among some words and one more: it is that one, or one of the others.
data Among (words before : List Word) (next word : Word) : Type 0 where
  the_next : words ≡ before → next ≡ word → Among words before next word
  earlier : (rest : List Word) → words ≡ before ++ word ∷ rest → Among words before next word

among : (words before after : List Word) (next word : Word) → words ++ next ∷ [] ≡ before ++ word ∷ after → Among words before next word
among words before after next word split = by_places (places words before [] after next word split)
  where
    by_places : Places words before next word → Among words before next word
    by_places (at_one p q) = the_next p q
    by_places (comes_before rest p) =
        let longer : length (words ++ next ∷ []) ≡ length ((words ++ next ∷ rest) ++ word ∷ after) = ap length (split ∙ ap (λ b. b ++ word ∷ after) p) in
        absurd (omega (arith, simp length-append at longer))
    by_places (comes_after rest p) = earlier rest p

module _ (file : TaskFile) where
  -- no file begins with words that have a first unexpected one
  unexpected : (words before after : List Word) (word : Word) → words ≡ before ++ word ∷ after → (Begins file (tokens_of before ++ token_of word ∷ []) → ⊥)
      → Begins file (tokens_of words) → ⊥
  unexpected words before after word split dead begun =
      let tokens : tokens_of words ≡ (tokens_of before ++ token_of word ∷ []) ++ tokens_of after =
      ap tokens_of split ∙ map-append token_of before (word ∷ after) ∙ sym (append_assoc (tokens_of before) (token_of word ∷ []) (tokens_of after)) in
      dead (fewer file (tokens_of before ++ token_of word ∷ []) (tokens_of after) (subst (Begins file) tokens begun))

  -- a whole file begins with its words
  whole_begins : (words : List Word) → IsWhole file (tokens_of words) → Begins file (tokens_of words)
  whole_begins words whole = ([], subst (IsWhole file) (sym (append-nil (tokens_of words))) whole)

  module _ (words : List Word) (next : Word) where
    with_next : tokens_of (words ++ next ∷ []) ≡ tokens_of words ++ token_of next ∷ []
    with_next = map-append token_of words (next ∷ [])

    -- a file that begins with one word more begins with the words
    one_fewer : Begins file (tokens_of (words ++ next ∷ [])) → Begins file (tokens_of words)
    one_fewer begun = fewer file (tokens_of words) (token_of next ∷ []) (subst (Begins file) with_next begun)

    -- where a file begins with the words, what is refused ends with the next word
    refused_to : (f : Fault) → Begins file (tokens_of words) → IsRefused file (words ++ next ∷ []) f → f.span.end ≡ end_of next
    refused_to f begun (at_end all whole code span) = ap (λ (s : Span). s.end) span ∙ last_end words next
    refused_to f begun (at_word before after word split begins dead line span) = by_case (among words before after next word split)
      where
        by_case : Among words before next word → f.span.end ≡ end_of next
        by_case (the_next p q) = ap (λ (s : Span). s.end) span ∙ ap end_of (sym q)
        by_case (earlier rest p) = absurd (unexpected words before rest word p dead begun)

    -- What is refused among the words is refused whatever follows them. So where two refusals end with two words that end apart, a
    -- file begins with the words.
    begins_by_two : (other : Word) (f g : Fault) → IsRefused file (words ++ next ∷ []) f → IsRefused file (words ++ other ∷ []) g → end_of next ≢ end_of other
        → f.span.end ≡ end_of next → g.span.end ≡ end_of other → Begins file (tokens_of words)
    begins_by_two other f g (at_end all whole code span) refused apart ends others = one_fewer all
    begins_by_two other f g (at_word before after word split begins dead line span) refused apart ends others = by_case (among words before after next word split)
      where
        by_case : Among words before next word → Begins file (tokens_of words)
        by_case (the_next p q) = subst (λ b. Begins file (tokens_of b)) (sym p) begins
        by_case (earlier rest p) =
            let again : IsRefused file (words ++ other ∷ []) f =
            at_word before (rest ++ other ∷ []) word (ap (λ w. w ++ other ∷ []) p ∙ append_assoc before (word ∷ rest) (other ∷ [])) begins dead line span in
            absurd (apart (sym ends ∙ ap (λ (h : Fault). h.span.end) (one_refusal file (words ++ other ∷ []) f g again refused) ∙ others))

    -- where a file begins with the words, a span without bytes is that of the end
    follows_by_end : (f : Fault) → Begins file (tokens_of words) → 0 < length next.text → IsRefused file (words ++ next ∷ []) f → f.span.start ≡ f.span.end
        → Begins file (tokens_of words ++ token_of next ∷ [])
    follows_by_end f begun has_bytes (at_end all whole code span) empty = subst (Begins file) with_next all
    follows_by_end f begun has_bytes (at_word before after word split begins dead line span) empty = by_case (among words before after next word split)
      where
        by_case : Among words before next word → Begins file (tokens_of words ++ token_of next ∷ [])
        by_case (the_next p q) =
            let start : f.span.start ≡ next.start = ap (λ (s : Span). s.start) span ∙ ap (λ (w : Word). w.start) (sym q) in
            let end : f.span.end ≡ next.start + length next.text = ap (λ (s : Span). s.end) span ∙ ap end_of (sym q) in
            absurd (omega arith)
        by_case (earlier rest p) = absurd (unexpected words before rest word p dead begun)

    end_by_follows : (f : Fault) → IsRefused file (words ++ next ∷ []) f → Begins file (tokens_of words ++ token_of next ∷ []) → f.span.start ≡ f.span.end
    end_by_follows f (at_end all whole code span) begun = ap (λ (s : Span). s.start) span ∙ sym (ap (λ (s : Span). s.end) span)
    end_by_follows f (at_word before after word split begins dead line span) begun =
        absurd (unexpected (words ++ next ∷ []) before after word split dead (subst (Begins file) (sym with_next) begun))

-- ---- what the code compares

-- nothing is refused, or something that ends where this word does
abbrev pub IsReadTo : Option TextRefusal → Word → Type 0
IsReadTo found word = IfSome found (λ refusal. refusal.span.end ≡ end_of word)

module _ (file : TaskFile) (words : List Word) where
  read_to : (next : Word) (found : Option TextRefusal) → Begins file (tokens_of words) → IsVerdict file (words ++ next ∷ []) found → IsReadTo found next
  read_to next None begun verdict = tt
  read_to next (Some refusal) begun verdict = refused_to file words next (refusal_of refusal) begun verdict

  begins_by_read : (next other : Word) (found others : Option TextRefusal) → IsVerdict file (words ++ next ∷ []) found → IsVerdict file (words ++ other ∷ []) others
      → end_of next ≢ end_of other → IsReadTo found next → IsReadTo others other → Begins file (tokens_of words)
  begins_by_read next other None others verdict verdicts apart ends ended = one_fewer file words next (whole_begins file (words ++ next ∷ []) verdict)
  begins_by_read next other (Some refusal) None verdict verdicts apart ends ended = one_fewer file words other (whole_begins file (words ++ other ∷ []) verdicts)
  begins_by_read next other (Some refusal) (Some another) verdict verdicts apart ends ended =
      begins_by_two file words next other (refusal_of refusal) (refusal_of another) verdict verdicts apart ends ended

  -- whether a file begins with the words is whether two readings get to words that end apart
  pub second_tells : (next other : Word) (found others : Option TextRefusal) (b : Bool) → IsVerdict file (words ++ next ∷ []) found → IsVerdict file (words ++ other ∷ []) others
      → end_of next ≢ end_of other → IsReadTo found next → IsTrue b ↔ IsReadTo others other → IsTrue b ↔ Begins file (tokens_of words)
  second_tells next other found others b verdict verdicts apart ends second =
      (λ is. begins_by_read next other found others verdict verdicts apart ends (second.0 is), λ begun. second.1 (read_to other others begun verdicts))

  pub first_fails : (next : Word) (found : Option TextRefusal) (b : Bool) → IsVerdict file (words ++ next ∷ []) found → IsTrue b ↔ IsReadTo found next → b ≡ false
      → IsTrue b ↔ Begins file (tokens_of words)
  first_fails next found b verdict first fails = (λ is. absurd (cc), λ begun. first.1 (read_to next found begun verdict))

-- after words with which a file begins, a word may follow exactly if nothing with bytes is refused
module _ (file : TaskFile) (before : List code.Word) (word : code.Word) where
  pub follows_as_read : (refusal : TextRefusal) (empty : Bool) → Begins file (tokens_of (map word_of before)) → 0 < length (word_of word).text
      → IsVerdict file (map word_of before ++ word_of word ∷ []) (Some refusal) → IsTrue empty ↔ (refusal.span.start ≡ refusal.span.end) → IsTrue empty ↔ MayFollow file before word
  follows_as_read refusal empty begun has_bytes verdict is = (
    λ e. follows_by_end file (map word_of before) (word_of word) (refusal_of refusal) begun has_bytes verdict (is.0 e),
    λ follows. is.1 (end_by_follows file (map word_of before) (word_of word) (refusal_of refusal) verdict follows),
  )

  pub follows_whole : IsVerdict file (map word_of before ++ word_of word ∷ []) None → MayFollow file before word
  follows_whole whole =
      subst (Begins file) (with_next file (map word_of before) (word_of word)) (whole_begins file (map word_of before ++ word_of word ∷ []) whole)

-- ---- the words of a text

-- each has bytes
pub have_bytes : (low : ℕ) (text : List ℕ) (words : List code.Word) → AreInOrder low text (map word_of words) → All (λ w. 0 < length (word_of w).text) words
have_bytes low text [] in_order = All-nil (λ w. 0 < length (word_of w).text)
have_bytes low text (word ∷ words) in_order =
    All-cons (λ w. 0 < length (word_of w).text) word words in_order.1 (have_bytes (end_of (word_of word)) text words in_order.3)

-- the first two end apart
pub end_apart : (low : ℕ) (text : List ℕ) (words : List code.Word) (first second : code.Word) → AreInOrder low text (map word_of words) → 1 < length words
    → first ≡ get_or words 0 first → second ≡ get_or words 1 second → end_of (word_of first) ≢ end_of (word_of second)
end_apart low text [] first second in_order two is_first is_second same = absurd (omega arith)
end_apart low text (a ∷ []) first second in_order two is_first is_second same = absurd (omega arith)
end_apart low text (a ∷ b ∷ words) first second (in_low, has_bytes, sliced, (after, more_bytes, _, others)) two is_first is_second same =
    let first_end : end_of (word_of first) ≡ end_of (word_of a) = ap (λ w. end_of (word_of w)) is_first in
    let second_end : end_of (word_of second) ≡ (word_of b).start + length (word_of b).text = ap (λ w. end_of (word_of w)) is_second in
    absurd (omega arith)
