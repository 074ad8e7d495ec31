-- What the scanner reads from a list of parts, given their context.
use Rattle.std.proofs.Common.{◌≡◌, ℕ, ◌+◌, Bool, true, cond, List, [], ◌∷◌, ◌++◌, Option, Some, None, refl, nat_lt}
use Rattle.std.specs.Option.{option_to_list}
use Rattle.model.specs.Fault as reported
use Rattle.model.specs.Words.{Form, blank, comment, opening, closing, run, stray, Part, form, bytes, size, Word, kind_by, kind_of_part, open_with}
use Rattle.tokens.specs.Scanner.{fault_by, fault_at, word_at, closed_with}

abbrev pub or_else : {A : Type 0} → Option A → Option A → Option A
or_else None other = other
or_else (Some x) other = Some x

-- the fault of the text ending at `start` with this many lists open
abbrev pub fault_of_end : ℕ → ℕ → Option reported.Fault
fault_of_end start open_lists =
    cond (nat_lt 0 open_lists) (Some (record { code = 3; span = record { start = start; end = start } })) None

-- the first fault of the parts from `start` on
abbrev pub first_fault : ℕ → ℕ → Bool → List Part → Option reported.Fault
first_fault start open_lists has_closed [] = fault_of_end start open_lists
first_fault start open_lists has_closed (part ∷ parts) =
    or_else (fault_at start (size part) (fault_by open_lists has_closed (form part) (bytes part)))
    (first_fault (start + size part) (open_with open_lists (form part)) (closed_with open_lists has_closed (form part)) parts)

-- the words among the parts from `start` on
abbrev pub words_from : ℕ → List Part → List Word
words_from start [] = []
words_from start (part ∷ parts) =
    option_to_list (word_at start (bytes part) (kind_of_part part)) ++ words_from (start + size part) parts

-- once the first list is closed it stays closed
pub closed_stays : (n : ℕ) (f : Form) → closed_with n true f ≡ true
closed_stays n blank = refl
closed_stays n comment = refl
closed_stays n opening = refl
closed_stays n closing = refl
closed_stays n run = refl
closed_stays n stray = refl
