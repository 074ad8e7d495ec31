use Rattle.std.proofs.Common.{◌∙◌, sym}
use Rattle.formulas.specs.Literals.{literal_of}
use Rattle.model.proofs.Tests.{passes_not, passes_whole, passes_map}
use Rattle.grounding_instances.specs.Numbering.{task_in, atoms_in}
use Rattle.grounding.specs.Unnumbered as unnumbered
use Rattle.grounding.proofs.unnumbered.all_may_hold.Goals as goal

pub returns-then-not-may_hold : goal.returns-then-not-may_hold
returns-then-not-may_hold c =
    let test = unnumbered.may_hold (task_in c.args.numbering.now) (atoms_in c.args.numbering.now) in
    passes_not (λ literal. test (literal_of literal)) c.args.literals.now c.loop-literal.literal-index c.literal-item.result c.loop-literal-test.true c.literal-item.is
    (sym c.may_hold.ensures ∙ c.if-not-may_hold.true)
    ∙ sym (passes_map test literal_of c.args.literals.now)

pub returns : goal.returns
returns c =
    let test = unnumbered.may_hold (task_in c.args.numbering.now) (atoms_in c.args.numbering.now) in
    passes_whole (λ literal. test (literal_of literal)) c.args.literals.now c.loop-literal.literal-index c.loop-literal-test.false c.loop-literal.invariant
    ∙ sym (passes_map test literal_of c.args.literals.now)
