-- The words that may follow some words of a file.
use Rattle.std.specs.Prelude.{ℕ, List, [], ◌∷◌, ◌++◌, map, codes}
use Rattle.tokens.specs.Word.{word_of}
use Rattle.tokens.specs.declared.word.Word as code
use Rattle.model.specs.Words.{ReadsAs}
use Rattle.model.specs.Trees.{TaskFile}
use Rattle.model.specs.GrammarWords.{token_of, tokens_of}
use Rattle.model.specs.Refusals.{Begins}

-- the words with this one after them are a prefix of a file of this kind
abbrev pub MayFollow : TaskFile → List code.Word → code.Word → Type 0
MayFollow file words word = Begins file (tokens_of (map word_of words) ++ token_of (word_of word) ∷ [])

-- The candidates: the words of this text, one for each kind that the grammar distinguishes, and all words with a meaning of their
-- own.
abbrev pub candidates_text : List ℕ
candidates_text =
    codes "name ?variable 0 - = preference define domain problem number minimize and or not imply "
    ++ (codes "exists forall either when increase total-cost :requirements :types :constants :predicates :functions :action :domain "
    ++ (codes ":objects :init :goal :metric :parameters :precondition :effect :strips :typing :equality :negative-preconditions "
    ++ (codes ":disjunctive-preconditions :existential-preconditions :universal-preconditions :quantified-preconditions "
    ++ codes ":conditional-effects :adl :action-costs :fluents :numeric-fluents ()")))

-- exactly those of some words that satisfy a claim, in order
pub data AreThose (P : code.Word → Type 0) : (words those : List code.Word) → Type 0 where
  none : AreThose P [] []
  kept : (word : code.Word) (words those : List code.Word) → P word → AreThose P words those → AreThose P (word ∷ words) (word ∷ those)
  left_out : (word : code.Word) (words those : List code.Word) → (P word → ⊥) → AreThose P words those → AreThose P (word ∷ words) those

-- exactly those candidates that may follow these words in a file of this kind
pub record AreAll (file : TaskFile) (before all : List code.Word) : Type 0 where
  pub candidates : List code.Word
  pub reads : ReadsAs candidates_text (map word_of candidates)
  pub those : AreThose (MayFollow file before) candidates all
