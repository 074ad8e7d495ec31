-- When one of two faults is enough to report, since both seem to come from one mistake.
use Rattle.std.specs.Prelude.{◌≡◌, ◌≢◌, ℕ, ◌+◌, ◌≤◌, ◌==◌, nat_eq, min, max, false, IsTrue, List, codes, length, map, slice_range, ◌⊎◌}
use Rattle.std.specs.Char.{to_ascii_lowercase}
use Rattle.std.specs.List.{list_any, starts_with}
use Rattle.faults.specs.Fault.{number_of}
use Rattle.faults.specs.declared.code.Code.{Code}
use Rattle.faults.specs.declared.code.Code.TheVariants.{TypeCycle, WrongType, UnknownType, Duplicate, Shadowed, UnknownName}
use Rattle.explain_hints.specs.ReportedBytes.{reported_in}
use Rattle.explain_hints.specs.Refusals.{FileRefusal}
use Rattle.explain_hints.specs.declared.texts.File.{File}
use Rattle.explain_hints.specs.declared.texts.File.TheVariants.{Problem}

-- the texts of the files
abbrev pub Texts : Type 0
Texts = File → List ℕ

-- the bytes that a fault is reported for
abbrev pub word_of : Texts → FileRefusal → List ℕ
word_of text_of fault = reported_in (text_of fault.file) fault.span.start fault.span.end

abbrev pub lower : List ℕ → List ℕ
lower = map to_ascii_lowercase

-- they are a variable
abbrev pub IsVariable : List ℕ → Type 0
IsVariable word = IsTrue (starts_with nat_eq word (codes "?"))

-- the bytes of the one's file between the starts of the two
abbrev pub between : Texts → FileRefusal → FileRefusal → List ℕ
between text_of fault other = reported_in (text_of fault.file) (min fault.span.start other.span.start) (max fault.span.start other.span.start)

-- the word is nowhere in the text, in capital letters or not
abbrev pub IsNowhere : (word text : List ℕ) → Type 0
IsNowhere word text = (start : ℕ) → start + length word ≤ length text → lower (slice_range text start (start + length word)) ≢ word

-- both faults are in the problem, or in the domain where no action begins between them
abbrev pub AreInOneScope : Texts → FileRefusal → FileRefusal → Type 0
AreInOneScope text_of fault other = (fault.file ≡ other.file) × ((fault.file ≡ Problem) ⊎ IsNowhere (codes ":action") (between text_of fault other))

-- no parenthesis is between them
abbrev pub AreInOneList : Texts → FileRefusal → FileRefusal → Type 0
AreInOneList text_of fault other =
    (fault.file ≡ other.file) × (list_any (λ b. b == 40) (between text_of fault other) ≡ false) × (list_any (λ b. b == 41) (between text_of fault other) ≡ false)

-- a fault of a variable with the first code comes from one with the second code in the same scope: a declaration that is refused
abbrev pub IsOfDeclaration : Code → Code → Type 0
IsOfDeclaration code other =
    ((code ≡ WrongType) × ((other ≡ UnknownType) ⊎ ((other ≡ Duplicate) ⊎ (other ≡ Shadowed)))) ⊎ ((code ≡ UnknownName) × (other ≡ Duplicate))

pub data AreOfOneMistake (text_of : Texts) (fault other : FileRefusal) : Type 0 where
  -- the same word is refused for the same reason, a variable in the same scope
  again : number_of fault.code ≡ number_of other.code → lower (word_of text_of fault) ≡ lower (word_of text_of other)
      → (¬ IsVariable (word_of text_of fault)) ⊎ AreInOneScope text_of fault other → AreOfOneMistake text_of fault other
  -- each type of a cycle is refused
  cycle : fault.code ≡ TypeCycle → other.code ≡ TypeCycle → AreOfOneMistake text_of fault other
  -- the terms of a list are in another order
  order : fault.code ≡ WrongType → other.code ≡ WrongType → AreInOneList text_of fault other → AreOfOneMistake text_of fault other
  -- a variable is declared wrongly
  declaration : IsOfDeclaration fault.code other.code → IsVariable (word_of text_of fault) → AreInOneScope text_of fault other → AreOfOneMistake text_of fault other
