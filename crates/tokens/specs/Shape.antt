-- The shape of a lexeme in the code, as a form of the model.
use Rattle.std.specs.Prelude.{ℕ, Bool, true, false, List, [], ◌∷◌, Option, None, Some, if◌then◌else◌}
use Rattle.tokens.specs.declared.lexeme.Shape.{Shape}
use Rattle.tokens.specs.declared.lexeme.Shape.TheVariants.{Open, Close, Run, Stray}
use Rattle.model.specs.Words.{Form, opening, closing, run, stray, form_of, is_gap}

abbrev pub form_by : Shape → Form
form_by Open = opening
form_by Close = closing
form_by Run = run
form_by Stray = stray

-- the form of a part that is neither a blank nor a comment
abbrev pub form_unless_gap : Form → Option Form
form_unless_gap form = if is_gap form then None else Some form

abbrev pub is_shape : Shape → Form → Bool
is_shape Open opening = true
is_shape Close closing = true
is_shape Run run = true
is_shape Stray stray = true
is_shape _ _ = false

-- the bytes are not empty, and their first byte decides for this shape
abbrev pub has_shape : Shape → List ℕ → Bool
has_shape shape [] = false
has_shape shape (byte ∷ _) = is_shape shape (form_of byte)
