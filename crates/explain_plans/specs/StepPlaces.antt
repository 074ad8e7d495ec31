-- Where the steps of a plan text are.
use Rattle.std.specs.Prelude.{◌≡◌, ℕ, ◌+◌, Bool, true, false, ◌&&◌, ◌==◌, if◌then◌else◌, List, [], ◌∷◌, ◌++◌, length, Option, None, Some}
use Rattle.faults.specs.declared.refused.Span as code
use Rattle.model.specs.Fault.{Span}
use Rattle.model.specs.Words.{Form, opening, closing, form, size}
use Rattle.model.specs.PlanText.{Placed, Step, AreSteps, IsStep}

abbrev pub span_of : code.Span → Span
span_of s = record { start = s.start; end = s.end }

-- the n-th step of these words, from its `(` to its `)`; n counts from 1
pub record IsStepPlace (words : List Placed) (n : ℕ) (span : Span) : Type 0 where
  pub before : List Placed
  pub these : List Placed
  pub after : List Placed
  pub steps : List Step
  pub step : Step
  pub in_order : words ≡ before ++ these ++ after
  pub steps_before : AreSteps before steps
  pub counted : length steps + 1 ≡ n
  pub is_step : IsStep these step
  pub start : span.start ≡ is_step.first.start
  pub end : span.end ≡ is_step.last.start + size is_step.last.part

-- ---- intermediate definitions

abbrev pub opens : Form → Bool
opens opening = true
opens _ = false

abbrev pub closes : Form → Bool
closes closing = true
closes _ = false

-- The span of the n-th step of these words, given the number of opening parentheses before them and the offset of the last one:
-- it extends to the n-th one's closing parenthesis.
abbrev pub place_from : ℕ → ℕ → ℕ → List Placed → Option Span
place_from n opened last [] = None
place_from n opened last (word ∷ words) =
    if opens (form word.part) then place_from n (opened + 1) word.start words
    else (if closes (form word.part) && opened == n then Some (record { start = last; end = word.start + size word.part })
    else place_from n opened last words)
