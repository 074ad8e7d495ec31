use Rattle.std.proofs.Common.{◌∙◌, ap, sym}
use Rattle.grounding.specs.Conditions.{literals_in}
use Rattle.grounding.proofs.TreeLemmas.{atom-within}
use Rattle.grounding.proofs.tree_builder.TreeBuilder.rarest.Goals as goal

pub rarer-rarest-requires-clause-atom : goal.rarer-rarest-requires-clause-atom
rarer-rarest-requires-clause-atom c =
    let b = c.args.self.now in
    atom-within b.width b.conditions.now c.args.number c.index-self-number.result c.literals-literals.result.now c.loop-literal.literal-index _ b.within c.requires
    c.index-self-number.is (c.literals-literals.ensures ∙ ap literals_in (sym c.index-self-number.is)) c.loop-literal-test.true
