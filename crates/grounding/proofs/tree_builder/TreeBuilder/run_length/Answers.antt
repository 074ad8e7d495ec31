use Rattle.std.proofs.Common.{◌∙◌, ap, sym, arith}
use Rattle.grounding_instances.specs.Numbers.{numbered_of}
use Rattle.grounding.specs.Conditions.{literals_in}
use Rattle.grounding.proofs.TreeLemmas.{required-more}
use Rattle.grounding.proofs.tree_builder.TreeBuilder.run_length.Goals as goal

pub loop-number-preserved : goal.loop-number-preserved
loop-number-preserved c = record {
  counted = omega (arith, c.loop-number.invariant.counted);
  required = required-more c.args.self.now.conditions.now (numbered_of c.args.literal.now) c.args.numbers.now c.loop-number.number-index 0 c.index-self-number.result c.literals.result.now c.loop-number-test.true
      (c.requires c.loop-number.number-index 0 c.loop-number-test.true) c.index-self-number.is (c.literals.ensures ∙ ap literals_in (sym c.index-self-number.is)) (c.is_among.ensures c.if-not-is_among.false)
      c.loop-number.invariant.required;
}
