-- The steps of the plan reader: a word, and the end.
use Rattle.std.proofs.Common.{◌≡◌, ℕ, ◌≤◌, List, [], ◌∷◌, ◌++◌, length, Option, Some, None, IfSome, sym, refl, ap, ◌∙◌, subst, append_assoc, append-nil}
use Rattle.model.specs.Fault.{Span, Fault}
use Rattle.model.specs.Words.{longest_text}
use Rattle.model.specs.PlanText.{Placed, placed_from, Step, HasSteps, IsFormFault}
use Rattle.model.specs.PlanMachine.{Sort, sort_of, span_at, name_at, PlanPlace, outside, Advance, stops, goes, ends, turn, Outcome, reads, refuses, with_step, with_steps, open_at, at_end, after_turn, outcome}
use Rattle.model.proofs.PlanReading.{form_fault, has_steps}
use Rattle.tokens.proofs.Cut.{cut, cut_parts}
use Rattle.plan_file.specs.PlanFile.{ReportsStop}

-- a word, and the end
pub word_read : (end : ℕ) (left after : List Placed) (word : Placed) (s : Sort) (place : PlanPlace) → left ≡ word ∷ after → s ≡ sort_of word.part
    → outcome end left place ≡ after_turn (span_at word) (turn place s (name_at word)) (outcome end after)
word_read end left after word s place left_is s_is =
    ap (λ ls. outcome end ls place) left_is ∙ ap (λ t. after_turn (span_at word) (turn place t (name_at word)) (outcome end after)) (sym s_is)

pub end_read : (end : ℕ) (left : List Placed) (place : PlanPlace) → left ≡ [] → outcome end left place ≡ at_end end place
end_read end left place none = ap (λ ls. outcome end ls place) none

-- what is read of the whole text
abbrev pub whole : List ℕ → Outcome
whole text = outcome (length text) (placed_from 0 (cut text)) outside

-- the reader's invariant: the steps so far and what is read of the words left are what is read of the whole text
pub record Keeps (text : List ℕ) (left : List Placed) (place : PlanPlace) (so_far : List Step) : Type 0 where
  pub same : with_steps so_far (outcome (length text) left place) ≡ whole text

pub keeps_at_start : (text : List ℕ) (left : List Placed) → left ≡ placed_from 0 (cut text) → Keeps text left outside []
keeps_at_start text left left_is = record { same = by_outcome (outcome (length text) left outside) ∙ ap (λ ls. outcome (length text) ls outside) left_is }
  where
    by_outcome : (o : Outcome) → with_steps [] o ≡ o
    by_outcome (reads steps) = refl
    by_outcome (refuses fault) = refl

one_step_more : (so_far : List Step) (step : Step) (o : Outcome) → with_steps (so_far ++ step ∷ []) o ≡ with_steps so_far (with_step step o)
one_step_more so_far step (reads steps) = ap reads (append_assoc so_far (step ∷ []) steps)
one_step_more so_far step (refuses fault) = refl

-- the effect of a word here
module _ (text : List ℕ) (left after : List Placed) (place : PlanPlace) (t : Advance) (span : Span) (so_far : List Step)
    (read : outcome (length text) left place ≡ after_turn span t (outcome (length text) after)) (keeps : Keeps text left place so_far) where
  pub keeps_on : (next : PlanPlace) → t ≡ goes next → Keeps text after next so_far
  keeps_on next e = record { same = ap (with_steps so_far) (sym (read ∙ ap (λ u. after_turn span u (outcome (length text) after)) e)) ∙ keeps.same }

  pub keeps_step : (step : Step) → t ≡ ends step → Keeps text after outside (so_far ++ step ∷ [])
  keeps_step step e = record {
    same = one_step_more so_far step (outcome (length text) after outside)
        ∙ ap (with_steps so_far) (sym (read ∙ ap (λ u. after_turn span u (outcome (length text) after)) e)) ∙ keeps.same;
  }

  stops_whole : (fault : Fault) → t ≡ stops fault.code → fault.span ≡ span → whole text ≡ refuses fault
  stops_whole fault e reported = sym keeps.same ∙ ap (with_steps so_far) (read ∙ ap (λ u. after_turn span u (outcome (length text) after)) e ∙ ap (λ s. refuses (record { code = fault.code; span = s })) (sym reported))

  pub word_refused : length text ≤ longest_text → (o : Option Fault) → IfSome o (ReportsStop t span) → IfSome o (IsFormFault text)
  word_refused short None h = tt
  word_refused short (Some fault) (stopped, reported) =
      form_fault text (cut text) fault short (cut_parts text) (stops_whole fault stopped reported)

-- the end of the text
module _ (text : List ℕ) (left : List Placed) (place : PlanPlace) (so_far : List Step) (short : length text ≤ longest_text)
    (read : outcome (length text) left place ≡ at_end (length text) place) (keeps : Keeps text left place so_far) where
  pub all_read : place ≡ outside → HasSteps text so_far
  all_read e =
      has_steps text (cut text) so_far short (cut_parts text)
      (sym keeps.same ∙ ap (with_steps so_far) (read ∙ ap (at_end (length text)) e) ∙ ap reads (append-nil so_far))

  pub end_refused : at_end (length text) place ≡ refuses (open_at (length text)) → (o : Option Fault)
      → o ≡ Some (open_at (length text)) → IfSome o (IsFormFault text)
  end_refused at_an_end o reported = subst (λ p. IfSome p (IsFormFault text)) (sym reported)
      (form_fault text (cut text) (open_at (length text)) short (cut_parts text) (sym keeps.same ∙ ap (with_steps so_far) (read ∙ at_an_end)))
