-- The grammar as a machine that takes the words one by one, to which the parser is compared: a deterministic pushdown automaton
-- whose state is what must follow. It stops at the first unexpected word, with the number that is reported for it.
use Rattle.std.specs.Prelude.{ℕ, List, [], ◌∷◌, Option, None, Some}
use Rattle.model.specs.GrammarWords.{Token}
use Rattle.model.specs.Grammar.{Phrase, gives, ◌>>=◌}
use Rattle.model.specs.Refusals.{step, number_after}

pub data Outcome (T : Type 0) : Type 0 where
  finished : T → Outcome T
  -- stopped with this number, at the first of these words or at their end
  stopped : ℕ → List Token → Outcome T

-- the outcome at the end of the words
abbrev pub at_end : {T : Type 0} → Phrase T → Outcome T
at_end (gives x) = finished x
at_end (s >>= k) = stopped 7 []

abbrev pub go_on : {T : Type 0} → Option (Phrase T) → (Phrase T → Outcome T) → Outcome T → Outcome T
go_on (Some p) rest here = rest p
go_on None rest here = here

-- the outcome of the machine on these words
abbrev pub run : {T : Type 0} → List Token → Phrase T → Outcome T
run [] p = at_end p
run (t ∷ w) p = go_on (step p t) (run w) (stopped (number_after p t) (t ∷ w))
