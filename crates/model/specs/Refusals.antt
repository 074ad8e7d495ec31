-- The fault reported for words that are not a domain, or not a problem: the first unexpected word, with its number in the table
-- of refusals (docs/language.md, "Refusals", 7 to 13).
use Rattle.std.specs.Prelude.{◌≡◌, ℕ, List, [], ◌∷◌, ◌++◌, Option, None, Some, cond, slice_get}
use Rattle.std.specs.Option.{option_map, option_and_then}
use Rattle.model.specs.Fault.{Fault, Span}
use Rattle.model.specs.Words.{Word, end_of}
use Rattle.model.specs.Trees.{TaskFile}
use Rattle.model.specs.GrammarWords.{Token, opens, closes, free, reserved, maximize, when, forall, left_out_name, large_number, keyword, Keyword, of_section, PartKeyword, of_part, parameters, left_out_keyword, token_of, tokens_of}
use Rattle.model.specs.Grammar
use Rattle.model.specs.Grammar.{Tree, Sort, names, type, many, conditional, conditional_literal, conditional_atom, total_cost, amount, increase_amount, minimize_word, key, action_name, parts, value, sections, section, define_word, kind_list, Phrase, gives, ◌>>=◌, and_then, after, has_section, has_part, sections_of, IsFile}

-- ---- what must follow some words

-- after one more word
abbrev pub step : {T : Type 0} → Phrase T → Token → Option (Phrase T)
step (gives x) t = None
step (s >>= k) t = option_map (λ p. and_then p k) (after s t)

-- after all of these, if they are a prefix of a file
abbrev pub after_all : {T : Type 0} → List Token → Phrase T → Option (Phrase T)
after_all [] p = Some p
after_all (t ∷ w) p = option_and_then (λ q. after_all w q) (step p t)

-- a file of this kind
abbrev pub start : TaskFile → Phrase Tree
start f = Grammar.file f >>= gives

-- ---- the table of refusals

-- The number of a word that may not occur where this is required (docs/language.md, "Refusals", 7 to 13).

-- anywhere: the name of an unsupported construct, or any other word
abbrev pub by_word : Token → ℕ
by_word (reserved left_out_name n) = 12
by_word _ = 7

-- under a `when`, where neither `when` nor `forall` may occur
abbrev pub by_word_under_when : Token → ℕ
by_word_under_when (reserved when n) = 12
by_word_under_when (reserved forall n) = 12
by_word_under_when t = by_word t

-- a keyword that the language does not have, where that of a section or part is required
abbrev pub number_of_keyword : Keyword → ℕ
number_of_keyword left_out_keyword = 12
number_of_keyword _ = 8

-- a keyword where that of a section is required: one that has occurred, or that is not a section of the file
abbrev pub number_in_file : TaskFile → Keyword → ℕ
number_in_file f (of_section k) = cond (has_section (sections_of f) k) 9 8
number_in_file f k = number_of_keyword k

-- a keyword where that of a part is required: one that has occurred in the action, or that is not a part
abbrev pub number_in_action : Keyword → ℕ
number_in_action (of_part k) = 9
number_in_action k = number_of_keyword k

-- a keyword where the value of a part is required, given the parts that have occurred: 9 is reported there too
abbrev pub number_at_value : List PartKeyword → Keyword → ℕ
number_at_value seen (of_part k) = cond (has_part seen k) 9 7
number_at_value seen _ = 7

-- the number of a word where this is required, line by line
abbrev pub number_at : Sort → Token → ℕ
-- the words of a list are those of its elements
number_at (many s) t = number_at s t
-- the parenthesis that closes the file's list or an action, before everything required has occurred
number_at define_word closes = 10
number_at kind_list closes = 10
number_at (sections f seen) closes = 10
number_at action_name closes = 10
number_at (parts seen) closes = 10
number_at (value seen) closes = cond (has_part seen parameters) 7 10
-- a keyword
number_at (section f k others) (keyword j) = number_in_file f j
number_at (parts seen) (keyword k) = number_in_action k
number_at (value seen) (keyword k) = number_at_value seen k
number_at key (keyword k) = 11
-- `(either ..)` as the type of a name that is not a variable
number_at (type names) opens = 12
-- `when` and `forall` under a `when`; another function where only the total cost may occur; another metric; a number above the
-- maximum
number_at conditional t = by_word_under_when t
number_at conditional_literal t = by_word_under_when t
number_at conditional_atom t = by_word_under_when t
number_at total_cost (free f n) = 12
number_at total_cost (reserved r n) = 12
number_at minimize_word (free maximize n) = 12
number_at amount large_number = 13
number_at increase_amount large_number = 13
-- any other word
number_at _ t = by_word t

-- the number of a word where this must follow
abbrev pub number_after : {T : Type 0} → Phrase T → Token → ℕ
number_after (gives x) t = by_word t
number_after (s >>= k) t = number_at s t

-- ---- what is reported

-- the words are a whole file of this kind
abbrev pub IsWhole : TaskFile → List Token → Type 0
IsWhole file w = (t : Tree) × IsFile file w t

-- the words are a prefix of a file of this kind
abbrev pub Begins : TaskFile → List Token → Type 0
Begins file w = (rest : List Token) × IsWhole file (w ++ rest)

-- the number reported for a word after these words: that of what must follow there
abbrev pub IsReportedOf : TaskFile → List Token → Token → ℕ → Type 0
IsReportedOf file before token number =
    (p : Phrase Tree) × (after_all before (start file) ≡ Some p) × (number ≡ number_after p token)

-- the offset after the last word
abbrev pub end_of_all : List Word → ℕ
end_of_all [] = 0
end_of_all (word ∷ []) = end_of word
end_of_all (word ∷ next ∷ words) = end_of_all (next ∷ words)

-- the span of a word; past the last word, the end of the words
abbrev pub span_by : List Word → Option Word → Span
span_by words (Some word) = record { start = word.start; end = end_of word }
span_by words None = record { start = end_of_all words; end = end_of_all words }

abbrev pub span_of_place : List Word → ℕ → Span
span_of_place words place = span_by words (slice_get words place)

-- the fault reported for words that are not a file of this kind
pub data IsRefused (file : TaskFile) (words : List Word) (fault : Fault) : Type 0 where
  -- at the first unexpected word: the words before it are a prefix of a file, but not together with it
  at_word : (before after : List Word) (word : Word) → words ≡ before ++ word ∷ after
      → Begins file (tokens_of before) → (Begins file (tokens_of before ++ token_of word ∷ []) → ⊥)
      → IsReportedOf file (tokens_of before) (token_of word) fault.code
      → fault.span ≡ record { start = word.start; end = end_of word } → IsRefused file words fault
  -- at the end of the last word: the words are a prefix of a file, but not a whole one
  at_end : Begins file (tokens_of words) → (IsWhole file (tokens_of words) → ⊥) → fault.code ≡ 7
      → fault.span ≡ record { start = end_of_all words; end = end_of_all words } → IsRefused file words fault
