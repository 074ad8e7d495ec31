use Rattle.std.proofs.Common.{◌≡◌, ◌+◌, ◌≤◌, length}
use Rattle.tokens.specs.Cut.{cut}
use Rattle.tokens.specs.Lexeme.{lexemes_left}
use Rattle.explain_plans.specs.StepPlaces.{place_from}
use Rattle.model.specs.PlanText.{placed_from}
use Rattle.explain_plans.proofs.step_places.closed_at.Given as goal

-- the lexemes left give the same as the whole
abbrev pub invariant-lexemes : goal.invariant-lexemes
invariant-lexemes l = record {
  few : l.opened.count + length (lexemes_left l.lexeme-iterator) ≤ length l.text;
  same : place_from l.step l.opened.count l.opened.last (lexemes_left l.lexeme-iterator) ≡ place_from l.step 0 0 (placed_from 0 (cut l.text));
}
