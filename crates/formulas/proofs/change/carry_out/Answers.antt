use Rattle.std.proofs.Common.{◌∙◌, ap, sym, map}
use Rattle.std.proofs.lemmas.List.{take_all}
use Rattle.formulas.specs.State.{state_of}
use Rattle.formulas.specs.Changes.{after_pass}
use Rattle.formulas.specs.Effects.{lent_literal}
use Rattle.formulas.proofs.CarriedOut.{after-none, carried_more}
use Rattle.formulas.proofs.change.carry_out.Goals as goal

pub loop-literal-init : goal.loop-literal-init
loop-literal-init c = sym (after-none c.args.pass (state_of c.args.next.now))

pub loop-literal-preserved : goal.loop-literal-preserved
loop-literal-preserved c =
    carried_more c.args.pass (state_of c.args.next.now) c.args.literals.now c.loop-literal.literal-index c.literal-item.result c.loop-literal-test.true c.literal-item.is
    (state_of c.loop-literal.next) (state_of c.carry_out_one.new.next) c.loop-literal.invariant c.in_ok-carry_out_one.ensures

pub returns : goal.returns
returns c =
    c.loop-literal.invariant ∙ ap (λ l. after_pass c.args.pass (state_of c.args.next.now) (map lent_literal l)) (take_all c.loop-literal.literal-index c.args.literals.now c.loop-literal-test.false)
