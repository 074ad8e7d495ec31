use Rattle.std.proofs.Common.{◌∙◌, length, sym}
use Rattle.packed_state.specs.Packed.{bits_of}
use Rattle.model.proofs.Tests.{passes_not_index, passes_whole, passes_map}
use Rattle.table_rows.specs.Placed.{placed_of, is_so}
use Rattle.table_rows.proofs.PlacedLemmas.{place-below}
use Rattle.table_rows.proofs.placed.all_are_so.Goals as goal

pub is_so-requires : goal.is_so-requires
is_so-requires c = place-below (length (bits_of c.args.set.now)) c.args.literals.now c.loop-literal.literal-index _ c.loop-literal-test.true c.requires

pub returns-then-not-is_so : goal.returns-then-not-is_so
returns-then-not-is_so c =
    let test = is_so (bits_of c.args.set.now) in
    passes_not_index (λ literal. test (placed_of literal)) c.args.literals.now c.loop-literal.literal-index _ c.loop-literal-test.true
    (sym c.is_so.ensures ∙ c.if-not-is_so.true)
    ∙ sym (passes_map test placed_of c.args.literals.now)

pub returns : goal.returns
returns c =
    let test = is_so (bits_of c.args.set.now) in
    passes_whole (λ literal. test (placed_of literal)) c.args.literals.now c.loop-literal.literal-index c.loop-literal-test.false c.loop-literal.invariant
    ∙ sym (passes_map test placed_of c.args.literals.now)
