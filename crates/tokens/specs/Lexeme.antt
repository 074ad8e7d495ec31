-- The lexemes of a text in the code, in the model's terms.
use Rattle.std.specs.Prelude.{ℕ, List, get_or, drop}
use Rattle.tokens.specs.declared.lexeme.Lexeme.{Lexeme}
use Rattle.tokens.specs.declared.lexeme.Lexemes.{Lexemes}
use Rattle.tokens.specs.Cut.{cut}
use Rattle.model.specs.Words.{Part}
use Rattle.model.specs.PlanText.{Placed, placed_from}

-- the part with these bytes
abbrev pub part_of : List ℕ → Part
part_of text = record { first = get_or text 0 0; others = drop 1 text }

abbrev pub placed_of : Lexeme → Placed
placed_of lexeme = record { start = lexeme.start; part = part_of lexeme.text.now }

-- the lexemes of the text from this offset on
abbrev pub lexemes_from : ℕ → List ℕ → List Placed
lexemes_from start text = placed_from start (cut (drop start text))

-- the remaining lexemes
abbrev pub lexemes_left : Lexemes → List Placed
lexemes_left lexemes = lexemes_from lexemes.at lexemes.text.now
