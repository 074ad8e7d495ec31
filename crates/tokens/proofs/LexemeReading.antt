-- What the scanner reads from lexemes is what it reads from all parts: a gap has no fault and is no word.
use Rattle.std.proofs.Common.{◌≡◌, ℕ, ◌+◌, ◌≤◌, Bool, true, false, cond, List, [], ◌∷◌, ◌++◌, length, Option, refl, sym, ap, ◌∙◌, arith}
use Rattle.std.specs.Option.{option_to_list}
use Rattle.std.proofs.lemmas.List.Sums.{sum_by-cons}
use Rattle.model.specs.Fault as reported
use Rattle.model.specs.Words.{Part, form, bytes, size, size_of_all, Word, kind_of_part, open_with, is_gap}
use Rattle.model.specs.PlanText.{Placed, placed_from}
use Rattle.tokens.specs.Scanner.{fault_at, fault_by, word_at, closed_with, fault_of_lexeme, words_of_lexeme}
use Rattle.tokens.proofs.Cut.{cut, cut_parts}
use Rattle.tokens.proofs.Reading.{or_else, first_fault, fault_of_end, words_from}
use Rattle.tokens.proofs.Faults.{size_is}
use Rattle.tokens.proofs.Words.{gap_passes, gap_has_no_kind}

-- the first fault of these lexemes, if the text ends at `end`
abbrev pub first_of : ℕ → ℕ → Bool → List Placed → Option reported.Fault
first_of end n c [] = fault_of_end end n
first_of end n c (lexeme ∷ lexemes) =
    or_else (fault_of_lexeme n c lexeme) (first_of end (open_with n (form lexeme.part)) (closed_with n c (form lexeme.part)) lexemes)

-- the words among these lexemes
abbrev pub words_of : List Placed → List Word
words_of [] = []
words_of (lexeme ∷ lexemes) = words_of_lexeme lexeme ++ words_of lexemes

module _ (start : ℕ) (part : Part) (parts : List Part) where
  abbrev rest : List Placed
  rest = placed_from (start + size part) parts

  abbrev lexeme : Placed
  lexeme = record { start = start; part = part }

  word_more : words_of rest ≡ words_from (start + size part) parts → (b : Bool) → is_gap (form part) ≡ b
      → words_of (cond b rest (lexeme ∷ rest)) ≡ words_from start (part ∷ parts)
  word_more inner true gap =
      inner ∙ ap (λ o. option_to_list (word_at start (bytes part) o) ++ words_from (start + size part) parts) (sym (gap_has_no_kind (form part) (bytes part) gap))
  word_more inner false gap = ap (λ ws. words_of_lexeme lexeme ++ ws) inner

  fault_more : (end n : ℕ) (c : Bool)
      → first_of end (open_with n (form part)) (closed_with n c (form part)) rest ≡ first_fault (start + size part) (open_with n (form part)) (closed_with n c (form part)) parts
      → (b : Bool) → is_gap (form part) ≡ b → first_of end n c (cond b rest (lexeme ∷ rest)) ≡ first_fault start n c (part ∷ parts)
  fault_more end n c inner true gap =
      let passes = gap_passes n c (form part) (bytes part) gap in
      sym (λ i. first_of end (passes.open_lists i) (passes.has_closed i) rest) ∙ inner
      ∙ ap (λ o. or_else (fault_at start (size part) o) (first_fault (start + size part) (open_with n (form part)) (closed_with n c (form part)) parts)) (sym passes.sound)
  fault_more end n c inner false gap = ap (or_else (fault_of_lexeme n c lexeme)) inner

pub words_by_lexemes : (start : ℕ) (parts : List Part) → words_of (placed_from start parts) ≡ words_from start parts
words_by_lexemes start [] = refl
words_by_lexemes start (part ∷ parts) = word_more start part parts (words_by_lexemes (start + size part) parts) (is_gap (form part)) refl

faults_by_lexemes : (start n : ℕ) (c : Bool) (parts : List Part) → first_of (start + size_of_all parts) n c (placed_from start parts) ≡ first_fault start n c parts
faults_by_lexemes start n c [] = ap (λ k. fault_of_end k n) (let none : start + 0 ≡ start = omega arith in none)
faults_by_lexemes start n c (part ∷ parts) =
    let sum = sum_by-cons size part parts in
    let end_is : start + size_of_all (part ∷ parts) ≡ start + size part + size_of_all parts = omega (arith, sum) in
    ap (λ k. first_of k n c (placed_from start (part ∷ parts))) end_is
    ∙ fault_more start part parts (start + size part + size_of_all parts) n c (faults_by_lexemes (start + size part) (open_with n (form part)) (closed_with n c (form part)) parts) (is_gap (form part)) refl

pub fault_by_lexemes : (text : List ℕ) → first_of (length text) 0 false (placed_from 0 (cut text)) ≡ first_fault 0 0 false (cut text)
fault_by_lexemes text =
    let sizes = size_is text (cut text) (cut_parts text) in
    let end_is : length text ≡ 0 + size_of_all (cut text) = omega (arith, sizes) in
    ap (λ k. first_of k 0 false (placed_from 0 (cut text))) end_is ∙ faults_by_lexemes 0 0 false (cut text)

-- a text has no more lexemes than bytes
few_placed : (start : ℕ) (parts : List Part) → length (placed_from start parts) ≤ size_of_all parts
few_placed start [] = omega arith
few_placed start (part ∷ parts) = few_more start part parts (few_placed (start + size part) parts) (is_gap (form part))
  where
    few_more : (start : ℕ) (part : Part) (parts : List Part) → length (placed_from (start + size part) parts) ≤ size_of_all parts → (b : Bool)
        → length (cond b (placed_from (start + size part) parts) (lexeme start part parts ∷ placed_from (start + size part) parts)) ≤ size_of_all (part ∷ parts)
    few_more start part parts inner true = let sum = sum_by-cons size part parts in omega (arith, inner, sum)
    few_more start part parts inner false = let sum = sum_by-cons size part parts in omega (arith, inner, sum)

pub few_lexemes : (text : List ℕ) → length (placed_from 0 (cut text)) ≤ length text
few_lexemes text =
    let few = few_placed 0 (cut text) in
    let sizes = size_is text (cut text) (cut_parts text) in
    omega (arith, few, sizes)
