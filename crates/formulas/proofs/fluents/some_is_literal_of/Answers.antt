use Rattle.std.proofs.Common.{◌∙◌, sym}
use Rattle.task.specs.TaskParts.{effect_literal_of}
use Rattle.model.specs.Fluents.{is_literal_of}
use Rattle.formulas.proofs.Trees.{list_any_map}
use Rattle.formulas.proofs.FluentTests.{any_more, any_here, any_nowhere}
use Rattle.formulas.proofs.fluents.some_is_literal_of.Goals as goal

pub returns-then-is_literal_of : goal.returns-then-is_literal_of
returns-then-is_literal_of c =
    any_here (λ one. is_literal_of c.args.predicate.0 (effect_literal_of one)) c.args.literals.now c.loop-literal.literal-index c.literal-item.result c.loop-literal-test.true c.literal-item.is (sym c.is_literal_of.ensures ∙ c.if-is_literal_of.true)
    ∙ sym (list_any_map (is_literal_of c.args.predicate.0) effect_literal_of c.args.literals.now)

pub loop-literal-preserved : goal.loop-literal-preserved
loop-literal-preserved c =
    any_more (λ one. is_literal_of c.args.predicate.0 (effect_literal_of one)) c.args.literals.now c.loop-literal.literal-index c.literal-item.result c.loop-literal-test.true c.literal-item.is c.loop-literal.invariant (sym c.is_literal_of.ensures ∙ c.if-is_literal_of.false)

pub returns : goal.returns
returns c =
    any_nowhere (λ one. is_literal_of c.args.predicate.0 (effect_literal_of one)) c.args.literals.now c.loop-literal.literal-index c.loop-literal-test.false c.loop-literal.invariant
    ∙ sym (list_any_map (is_literal_of c.args.predicate.0) effect_literal_of c.args.literals.now)
