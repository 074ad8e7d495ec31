use Rattle.std.proofs.Common.{◌∙◌, map, sym}
use Rattle.task.specs.TaskParts.{object_of, term_of}
use Rattle.model.proofs.Tests.{passes_more_index, passes_not_index, passes_whole, passes_map}
use Rattle.explain_tasks.specs.Costs.{is_same_term}
use Rattle.explain_tasks.proofs.lacking.are_same_terms.Goals as goal

pub returns-then-not-is_same_term : goal.returns-then-not-is_same_term
returns-then-not-is_same_term c =
    let same = is_same_term (map object_of c.args.one.now.items) (map object_of c.args.other.now.items) in
    passes_not_index (λ term. same (term_of term)) c.args.terms.now c.loop-term.term-index _ c.loop-term-test.true (sym c.is_same_term.ensures ∙ c.if-not-is_same_term.true)
    ∙ sym (passes_map same term_of c.args.terms.now)

pub loop-term-preserved : goal.loop-term-preserved
loop-term-preserved c =
    let same = is_same_term (map object_of c.args.one.now.items) (map object_of c.args.other.now.items) in
    passes_more_index (λ term. same (term_of term)) c.args.terms.now c.loop-term.term-index _ c.loop-term-test.true c.loop-term.invariant (sym c.is_same_term.ensures ∙ c.if-not-is_same_term.false)

pub returns : goal.returns
returns c =
    let same = is_same_term (map object_of c.args.one.now.items) (map object_of c.args.other.now.items) in
    passes_whole (λ term. same (term_of term)) c.args.terms.now c.loop-term.term-index c.loop-term-test.false c.loop-term.invariant
    ∙ sym (passes_map same term_of c.args.terms.now)
