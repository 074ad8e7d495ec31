-- What the scanner says of one part, given what came before it: the number of open lists, and whether the first list is closed.
use Rattle.std.specs.Prelude.{ℕ, ◌+◌, Bool, ◌||◌, ◌==◌, nat_lt, if◌then◌else◌, List, length, Option, None, Some}
use Rattle.model.specs.Fault as reported
use Rattle.std.specs.Option.{option_to_list}
use Rattle.model.specs.Words.{Form, blank, comment, opening, closing, run, stray, form, bytes, size, Kind, Word, kind_of_run, kind_of_part, longest_run, deepest}
use Rattle.model.specs.PlanText.{Placed}

-- fault 6 (a word after the first list) if that list is closed
abbrev pub fault_of_word : Bool → Option ℕ
fault_of_word has_closed = if has_closed then Some 6 else None

abbrev pub fault_of_run : Bool → Option Kind → ℕ → Option ℕ
fault_of_run has_closed None size = Some 2
fault_of_run has_closed (Some kind) size = if nat_lt longest_run size then Some 5 else fault_of_word has_closed

-- the number of the part's fault, the lowest if there are several
abbrev pub fault_by : ℕ → Bool → Form → List ℕ → Option ℕ
fault_by open_lists has_closed blank text = None
fault_by open_lists has_closed comment text = None
fault_by open_lists has_closed stray text = Some 1
fault_by open_lists has_closed opening text = if open_lists == deepest then Some 4 else fault_of_word has_closed
fault_by open_lists has_closed closing text = if open_lists == 0 then Some 3 else fault_of_word has_closed
fault_by open_lists has_closed run text = fault_of_run has_closed (kind_of_run text) (length text)

-- whether the first list is closed after a part of this form
abbrev pub closed_with : ℕ → Bool → Form → Bool
closed_with open_lists has_closed closing = has_closed || open_lists == 1
closed_with open_lists has_closed _ = has_closed

-- the word that begins at `start`, if there is one
abbrev pub word_at : ℕ → List ℕ → Option Kind → Option Word
word_at start text None = None
word_at start text (Some kind) = Some (record { kind = kind; text = text; start = start })

-- the fault of a part of this length that begins at `start`, if it has one
abbrev pub fault_at : ℕ → ℕ → Option ℕ → Option reported.Fault
fault_at start size None = None
fault_at start size (Some code) = Some (record { code = code; span = record { start = start; end = start + size } })

-- what the scanner says of a lexeme: the number of its fault, that fault, and its words, of which there is one at most
abbrev pub code_of_lexeme : ℕ → Bool → Placed → Option ℕ
code_of_lexeme open_lists has_closed lexeme = fault_by open_lists has_closed (form lexeme.part) (bytes lexeme.part)

abbrev pub fault_of_lexeme : ℕ → Bool → Placed → Option reported.Fault
fault_of_lexeme open_lists has_closed lexeme = fault_at lexeme.start (size lexeme.part) (code_of_lexeme open_lists has_closed lexeme)

abbrev pub words_of_lexeme : Placed → List Word
words_of_lexeme lexeme = option_to_list (word_at lexeme.start (bytes lexeme.part) (kind_of_part lexeme.part))
