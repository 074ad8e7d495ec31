use Rattle.std.proofs.Common.{◌∙◌, ap, map, sym}
use Rattle.grounding_instances.specs.Numbers.{numbered_of}
use Rattle.grounding.specs.Conditions.{literals_in}
use Rattle.grounding.proofs.TreeLemmas.{tree-step}
use Rattle.grounding.proofs.tree_builder.TreeBuilder.single.Goals as goal

pub loop-literal-preserved : goal.loop-literal-preserved
loop-literal-preserved c =
    let b = c.args.self.now in
    tree-step b.width b.conditions.now (map numbered_of c.args.path.now) c.literals-literals.result.now c.loop-literal.literal-index _ c.args.number c.index-self-number.result c.loop-literal.nodes.items
    c.put_test.new.nodes.items c.loop-literal-test.true c.requires c.index-self-number.is (c.literals-literals.ensures ∙ ap literals_in (sym c.index-self-number.is)) b.within c.in_ok-put_test.ensures.few
    c.in_ok-put_test.ensures.nodes c.loop-literal.invariant
