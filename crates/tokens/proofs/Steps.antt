-- The steps and exits of the scanner's loop.
use Rattle.std.proofs.Common.{◌≡◌, ℕ, ◌<◌, ◌≤◌, Bool, false, List, [], ◌∷◌, ◌++◌, length, map, Option, Some, None, IfSome, sym, refl, ap, ◌∙◌, subst, ltb, append_assoc}
use Rattle.std.proofs.lemmas.List.{append-nil, map-append}
use Rattle.std.proofs.lemmas.Bool.{cond-true, lt-ltb}
use Rattle.model.specs.Fault as reported
use Rattle.model.specs.Words.{Form, form, size, Word, open_with, longest_text, IsReported, Reads, ReadsAs}
use Rattle.model.specs.PlanText.{Placed, placed_from}
use Rattle.tokens.specs.Scanner.{closed_with, fault_at, code_of_lexeme, fault_of_lexeme, words_of_lexeme}
use Rattle.tokens.proofs.Cut.{cut}
use Rattle.tokens.proofs.Reading.{or_else, first_fault, fault_of_end, words_from}
use Rattle.tokens.proofs.LexemeReading.{first_of, words_of, words_by_lexemes, fault_by_lexemes}
use Rattle.tokens.proofs.Faults.{first_is_reported}
use Rattle.tokens.proofs.Words.{reads_as, read_has_no_fault}

-- the loop invariant: the words so far, and what is said of the lexemes left, are what is said of the whole text
pub record Scanned (text : List ℕ) (left : List Placed) (n : ℕ) (c : Bool) (so_far : List Word) : Type 0 where
  pub faults : first_of (length text) n c left ≡ first_fault 0 0 false (cut text)
  pub words : so_far ++ words_of left ≡ words_from 0 (cut text)

pub scanned_at_start : (text : List ℕ) (left : List Placed) (n : ℕ) (c : Bool) (words : List Word) → left ≡ placed_from 0 (cut text) → n ≡ 0 → c ≡ false → words ≡ [] → Scanned text left n c words
scanned_at_start text left n c words left_is none closed empty = record {
  faults = (λ i. first_of (length text) (none i) (closed i) (left_is i)) ∙ fault_by_lexemes text;
  words = (λ i. empty i ++ words_of (left_is i)) ∙ words_by_lexemes 0 (cut text);
}

-- one more lexeme
module _ (text : List ℕ) (left after : List Placed) (lexeme : Placed) (left_is : left ≡ lexeme ∷ after) (n : ℕ) (c : Bool) where
  pub fault_here : (o : Option reported.Fault) → o ≡ fault_of_lexeme n c lexeme → (g : reported.Fault) → o ≡ Some g → first_of (length text) n c left ≡ Some g
  fault_here o reported_is g e =
      ap (first_of (length text) n c) left_is
      ∙ ap (λ p. or_else p (first_of (length text) (open_with n (form lexeme.part)) (closed_with n c (form lexeme.part)) after)) (sym reported_is ∙ e)

  pub scanned_more : (f : Form) → form lexeme.part ≡ f → (words more : List Word) → Scanned text left n c words → code_of_lexeme n c lexeme ≡ None
      → more ≡ words ++ words_of_lexeme lexeme → Scanned text after (open_with n f) (closed_with n c f) more
  scanned_more f f_is words more s sound more_is = record {
    faults = sym (ap (λ g. first_of (length text) (open_with n g) (closed_with n c g) after) f_is)
        ∙ sym (ap (λ p. or_else p (first_of (length text) (open_with n (form lexeme.part)) (closed_with n c (form lexeme.part)) after)) (ap (fault_at lexeme.start (size lexeme.part)) sound))
        ∙ sym (ap (first_of (length text) n c) left_is) ∙ s.faults;
    words = ap (λ ws. ws ++ words_of after) more_is ∙ append_assoc words (words_of_lexeme lexeme) (words_of after)
        ∙ ap (λ ls. words ++ words_of ls) (sym left_is) ∙ s.words;
  }

-- a fault is found
module _ (text : List ℕ) (left : List Placed) (n : ℕ) (c : Bool) (short : length text ≤ longest_text)
    (faults : first_of (length text) n c left ≡ first_fault 0 0 false (cut text)) where
  pub reported_here : (o : Option reported.Fault) → ((g : reported.Fault) → o ≡ Some g → first_of (length text) n c left ≡ Some g) → IfSome o (IsReported text)
  reported_here None found = tt
  reported_here (Some g) found = first_is_reported text g short (sym faults ∙ found g refl)

  pub none_if_read : (o : Option reported.Fault) → ((g : reported.Fault) → o ≡ Some g → first_of (length text) n c left ≡ Some g) → Reads text → o ≡ None
  none_if_read None found reads = refl
  none_if_read (Some g) found (words, reads) =
      let impossible : Some g ≡ None = sym (found g refl) ∙ faults ∙ read_has_no_fault text words reads in
      absurd (cc)

-- the end of the text
module _ (text : List ℕ) (left : List Placed) (n : ℕ) (c : Bool) (at_end : left ≡ []) where
  pub fault_at_end : 0 < n → (o : Option reported.Fault) → o ≡ Some (record { code = 3; span = record { start = length text; end = length text } })
      → (g : reported.Fault) → o ≡ Some g → first_of (length text) n c left ≡ Some g
  fault_at_end opened o o_is g e =
      ap (first_of (length text) n c) at_end
      ∙ cond-true (ltb 0 n) (Some (let h : reported.Fault = record { code = 3; span = record { start = length text; end = length text } } in h)) None (lt-ltb 0 n opened)
      ∙ sym o_is ∙ e

  pub read_all : (words : List Word) → length text ≤ longest_text → n ≡ 0 → Scanned text left n c words → ReadsAs text words
  read_all words short none s =
      let no_fault : first_fault 0 0 false (cut text) ≡ None = sym s.faults ∙ ap (first_of (length text) n c) at_end ∙ ap (fault_of_end (length text)) none in
      let all : words ≡ words_from 0 (cut text) = sym (append-nil words) ∙ ap (λ ls. words ++ words_of ls) (sym at_end) ∙ s.words in
      subst (ReadsAs text) (sym all) (reads_as text short no_fault)

-- the words after one more
pub word_added : {A B : Type 0} (f : A → B) (items more : List A) (x : A) (given : List B) → more ≡ items ++ x ∷ [] → given ≡ f x ∷ [] → map f more ≡ map f items ++ given
word_added f items more x given more_is given_is = ap (map f) more_is ∙ map-append f items (x ∷ []) ∙ ap (λ ys. map f items ++ ys) (sym given_is)
