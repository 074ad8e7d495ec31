use Rattle.std.proofs.Common.{◌∙◌, sym}
use Rattle.task.specs.TaskParts.{formula_of, lifted_atom_of}
use Rattle.formulas.proofs.FluentTests.{any_more, any_here, any_nowhere}
use Rattle.explain_tasks.specs.Conjuncts.{has_conjunct, is_negation_of}
use Rattle.explain_tasks.proofs.ConjunctLemmas.{has_conjunct_by_parts}
use Rattle.explain_tasks.proofs.conjuncts.+denies.Goals as goal

pub returns-then-denies : goal.returns-then-denies
returns-then-denies t c =
    let test = (is_negation_of (lifted_atom_of c.args.atom.now)) in
    any_here (λ part. has_conjunct test (formula_of part)) c.deref-part-items.result.now c.loop-part.part-index c.part-item.result c.loop-part-test.true c.part-item.is (sym c.if-denies.ensures)
    ∙ sym (has_conjunct_by_parts test c.args.formula.now c.in-And.parts c.deref-part-items.result.now c.in-And.is c.deref-part-items.ensures.value)

pub loop-part-preserved : goal.loop-part-preserved
loop-part-preserved t c =
    any_more (λ part. has_conjunct (is_negation_of (lifted_atom_of c.args.atom.now)) (formula_of part)) c.deref-part-items.result.now c.loop-part.part-index c.part-item.result c.loop-part-test.true c.part-item.is c.loop-part.invariant (sym c.if-denies.ensures)

pub returns-after-loop-part : goal.returns-after-loop-part
returns-after-loop-part t c =
    let test = (is_negation_of (lifted_atom_of c.args.atom.now)) in
    any_nowhere (λ part. has_conjunct test (formula_of part)) c.deref-part-items.result.now c.loop-part.part-index c.loop-part-test.false c.loop-part.invariant
    ∙ sym (has_conjunct_by_parts test c.args.formula.now c.in-And.parts c.deref-part-items.result.now c.in-And.is c.deref-part-items.ensures.value)
