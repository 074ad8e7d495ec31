-- Where a text with unbalanced parentheses goes wrong as a file.
use Rattle.std.specs.Prelude.{ℕ, List, ◌++◌, ◌<◌, ◌≤◌, length, map, take}
use Rattle.faults.specs.declared.refused.TextRefusal.{TextRefusal}
use Rattle.tokens.specs.Reported.{refusal_of}
use Rattle.tokens.specs.Word.{word_of}
use Rattle.tokens.specs.declared.word.Word as code
use Rattle.model.specs.Words.{ReadsAs}
use Rattle.model.specs.Trees.{TaskFile, domain_file, problem_file}
use Rattle.model.specs.Refusals.{IsRefused}
use Rattle.explain_hints.specs.Files.{text_in}
use Rattle.explain_hints.specs.declared.texts.File as texts
use Rattle.explain_hints.specs.declared.texts.File.TheVariants.{Domain, Problem, Plan}
use Rattle.explain_hints.specs.declared.texts.NamedTexts.{NamedTexts}

-- the text reads as words, but not as a file of this kind, for this reason
pub record IsRefusedIn (file : TaskFile) (text : List ℕ) (refusal : TextRefusal) : Type 0 where
  pub words : List code.Word
  pub reads : ReadsAs text (map word_of words)
  pub is_refused : IsRefused file (map word_of words) (refusal_of refusal)

-- A prefix of the text, with an ending that closes its lists, is refused at a word of the prefix: the first that no file of this
-- kind has there. So whatever follows it in the text, the text goes wrong there.
pub record GoesWrong (file : TaskFile) (text : List ℕ) (refusal : TextRefusal) : Type 0 where
  pub kept : ℕ
  pub ending : List ℕ
  pub is_kept : kept ≤ length text
  pub is_refused : IsRefusedIn file (take kept text ++ ending) refusal
  pub has_bytes : refusal.span.start < refusal.span.end
  pub within : refusal.span.end ≤ kept

-- the text of this file, which is not the plan, goes wrong there
abbrev pub GoesWrongAt : NamedTexts → texts.File → TextRefusal → Type 0
GoesWrongAt texts Domain refusal = GoesWrong domain_file (text_in texts Domain) refusal
GoesWrongAt texts Problem refusal = GoesWrong problem_file (text_in texts Problem) refusal
GoesWrongAt texts Plan refusal = ⊥
