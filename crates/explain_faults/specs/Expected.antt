-- The words reported in place of a refused one.
use Rattle.std.specs.Prelude.{◌≡◌, ℕ, Bool, IsTrue, nat_eq, nat_le, List, [], ◌∷◌, ◌⊎◌, All, map, codes}
use Rattle.std.specs.List.{before_first, starts_with}
use Rattle.tokens.specs.Word.{word_of}
use Rattle.tokens.specs.declared.word.Word as code
use Rattle.model.specs.Words.{ReadsAs}
use Rattle.model.specs.Trees.{TaskFile}
pub use Rattle.explain_words.specs.Expected.{AreAll, MayFollow}

-- whether a word begins at or after an offset
abbrev pub begins_from : ℕ → code.Word → Bool
begins_from offset word = nat_le offset (word_of word).start

-- the words before the first one that begins at or after an offset
abbrev pub words_before : ℕ → List code.Word → List code.Word
words_before offset = before_first (begins_from offset)

-- Words may occur at an offset of a file's text: each of them, after the words of the text before it, is the continuation of some
-- file of this kind.
pub record MayOccurIn (file : TaskFile) (text : List ℕ) (offset : ℕ) (allowed : List code.Word) : Type 0 where
  pub words : List code.Word
  pub reads : ReadsAs text (map word_of words)
  pub follow : All (MayFollow file (words_before offset words)) allowed

-- the maximum length of a text that is read again for each candidate, in bytes
abbrev pub longest_reread : ℕ
longest_reread = 1048576

-- the words may occur there, or none are reported
abbrev pub MayOccur : TaskFile → List ℕ → ℕ → List code.Word → Type 0
MayOccur file text offset allowed = (allowed ≡ []) ⊎ MayOccurIn file text offset allowed

-- some of these words, in order
pub data AreSome : (words some : List code.Word) → Type 0 where
  no_more : AreSome [] []
  taken : (word : code.Word) (words some : List code.Word) → AreSome words some → AreSome (word ∷ words) (word ∷ some)
  passed_over : (word : code.Word) (words some : List code.Word) → AreSome words some → AreSome (word ∷ words) some

-- the reported bytes begin like a keyword
abbrev pub IsOfKeyword : List ℕ → Type 0
IsOfKeyword reported = IsTrue (starts_with nat_eq reported (codes ":"))

-- The words reported in place of the refused bytes, after these words: all candidates that may follow, or for a keyword a
-- non-empty selection of them.
pub record AreSuggested (file : TaskFile) (before : List code.Word) (reported : List ℕ) (suggested : List code.Word) : Type 0 where
  pub all : List code.Word
  pub are_all : AreAll file before all
  pub are_reported : (suggested ≡ all) ⊎ (IsOfKeyword reported × AreSome all suggested × (suggested ≡ [] → ⊥))

-- the same, after the words of a text that begin before an offset
pub record AreReportedIn (file : TaskFile) (text : List ℕ) (offset : ℕ) (reported : List ℕ) (suggested : List code.Word) : Type 0 where
  pub words : List code.Word
  pub reads : ReadsAs text (map word_of words)
  pub are_reported : AreSuggested file (words_before offset words) reported suggested
