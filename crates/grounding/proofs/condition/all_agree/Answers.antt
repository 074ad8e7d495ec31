use Rattle.std.proofs.Common.{◌∙◌, length, sym}
use Rattle.packed_state.specs.Packed.{bits_of}
use Rattle.grounding_instances.specs.Numbers.{numbered_of}
use Rattle.model.specs.NumberedLiterals as model
use Rattle.model.proofs.Tests.{passes_not_index, passes_whole, passes_map}
use Rattle.grounding.proofs.LiteralLists.{below-at}
use Rattle.grounding.proofs.condition.all_agree.Goals as goal

pub agrees-requires : goal.agrees-requires
agrees-requires c =
    below-at (length (bits_of c.args.state.now)) c.args.literals.now c.loop-literal.literal-index _ c.loop-literal-test.true c.requires

pub returns-then-not-agrees : goal.returns-then-not-agrees
returns-then-not-agrees c =
    let test = model.agrees (bits_of c.args.state.now) in
    passes_not_index (λ literal. test (numbered_of literal)) c.args.literals.now c.loop-literal.literal-index _ c.loop-literal-test.true
    (sym c.agrees.ensures ∙ c.if-not-agrees.true)
    ∙ sym (passes_map test numbered_of c.args.literals.now)

pub returns : goal.returns
returns c =
    let test = model.agrees (bits_of c.args.state.now) in
    passes_whole (λ literal. test (numbered_of literal)) c.args.literals.now c.loop-literal.literal-index c.loop-literal-test.false c.loop-literal.invariant
    ∙ sym (passes_map test numbered_of c.args.literals.now)
