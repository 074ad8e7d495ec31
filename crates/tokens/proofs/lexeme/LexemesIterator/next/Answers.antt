use Rattle.std.proofs.Common.{rules, ◌≡◌, ◌-◌, ◌∙◌, sym, refl, ap, length, take, drop, Some, true}
use Rattle.std.specs.Option.{option_map}
use Rattle.model.specs.Words.{is_gap}
use Rattle.tokens.specs.Form.{view}
use Rattle.tokens.specs.Shape.{form_by, form_unless_gap}
use Rattle.tokens.proofs.LexemeSteps.{no_gap, a_gap, gap_skipped, lexeme_here}
use Rattle.tokens.proofs.lexeme.LexemesIterator.next.Goals as goal

pub returns-in-Some-clause-steps : goal.returns-in-Some-clause-steps
returns-in-Some-clause-steps c =
    let text = c.parts.self.text.now in
    let form = view c.of-form.result in
    let is : Some (form_by c.in-Some.shape) ≡ form_unless_gap form = sym (ap (option_map form_by) c.in-Some.is) ∙ c.of.ensures in
    sym c.parts.invariant.left
    ∙ lexeme_here text c.parts.self.at c.part_end-end.result form c.parts-test.true c.of-form.ensures c.part_end-end.ensures.longest (no_gap c.in-Some.shape form is).0 (take (c.part_end-end.result - c.parts.self.at) (drop c.parts.self.at text)) refl

pub returns-in-Some-clause-goes : goal.returns-in-Some-clause-goes
returns-in-Some-clause-goes c =
    let text = c.parts.self.text.now in
    let form = view c.of-form.result in
    let is : Some (form_by c.in-Some.shape) ≡ form_unless_gap form = sym (ap (option_map form_by) c.in-Some.is) ∙ c.of.ensures in
    let step = sym c.parts.invariant.left
    ∙ lexeme_here text c.parts.self.at c.part_end-end.result form c.parts-test.true c.of-form.ensures c.part_end-end.ensures.longest (no_gap c.in-Some.shape form is).0 (take (c.part_end-end.result - c.parts.self.at) (drop c.parts.self.at text)) refl in
    let shorter = ap length step in search rules

pub parts-preserved : goal.parts-preserved
parts-preserved c =
    let form = view c.of-form.result in
    let gap : is_gap form ≡ true = a_gap form (sym (ap (option_map form_by) c.in_default.is) ∙ c.of.ensures) in
    record {
      text = c.parts.invariant.text;
      left = sym (gap_skipped c.parts.self.text.now c.parts.self.at c.part_end-end.result form c.parts-test.true c.of-form.ensures c.part_end-end.ensures.longest gap) ∙ c.parts.invariant.left;
    }
