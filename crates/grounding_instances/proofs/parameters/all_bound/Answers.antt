use Rattle.std.proofs.Common.{◌∙◌, sym}
use Rattle.task.specs.TaskParts.{term_of}
use Rattle.model.proofs.EnumerationLemmas.{is_bound}
use Rattle.model.proofs.Tests.{passes_not_index, passes_whole, passes_map}
use Rattle.grounding_instances.proofs.parameters.all_bound.Goals as goal

pub returns-then-not-is_bound : goal.returns-then-not-is_bound
returns-then-not-is_bound c =
    passes_not_index (λ term. is_bound c.args.count (term_of term)) c.args.terms.now c.loop-term.term-index _ c.loop-term-test.true (sym c.is_bound.ensures ∙ c.if-not-is_bound.true)
    ∙ sym (passes_map (is_bound c.args.count) term_of c.args.terms.now)

pub returns : goal.returns
returns c =
    passes_whole (λ term. is_bound c.args.count (term_of term)) c.args.terms.now c.loop-term.term-index c.loop-term-test.false c.loop-term.invariant
    ∙ sym (passes_map (is_bound c.args.count) term_of c.args.terms.now)
