-- What is refused in words as a file of a kind.
use Rattle.std.specs.Prelude.{List, Option, None, Some}
use Rattle.faults.specs.declared.refused.TextRefusal.{TextRefusal}
use Rattle.tokens.specs.Reported.{refusal_of}
use Rattle.model.specs.Words.{Word}
use Rattle.model.specs.Trees.{TaskFile}
use Rattle.model.specs.GrammarWords.{tokens_of}
use Rattle.model.specs.Refusals.{IsWhole, IsRefused}

-- nothing in a whole file
abbrev pub IsVerdict : TaskFile → List Word → Option TextRefusal → Type 0
IsVerdict file words None = IsWhole file (tokens_of words)
IsVerdict file words (Some refusal) = IsRefused file words (refusal_of refusal)
