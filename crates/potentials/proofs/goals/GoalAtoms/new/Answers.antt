use Rattle.std.proofs.Common.{map, take, false, sym, subst}
use Rattle.std.proofs.lemmas.List.{take_all, map_more}
use Rattle.grounding.specs.Views.{NumberedLiteral, numbered_of}
use Rattle.potentials.specs.Goals.{AreSaid}
use Rattle.potentials.proofs.GoalLemmas.{said-none}
use Rattle.potentials.proofs.goals.GoalAtoms.new.Goals as goal

pub loop-literal-init : goal.loop-literal-init
loop-literal-init c = said-none c.args.width _ (c.in_ok-said.ensures.items_if_clones_equal (λ y e. e))

pub loop-literal-preserved : goal.loop-literal-preserved
loop-literal-preserved c =
    let literals = c.args.literals.now in
    let i = c.loop-literal.literal-index in
    let d : NumberedLiteral = record { atom = 0; value = false } in
    subst (λ l. AreSaid l c.args.width c.add.new.self) (sym (map_more numbered_of literals i d c.loop-literal-test.true))
    (c.add.ensures (map numbered_of (take i literals)) c.args.width c.loop-literal.invariant)

pub returns : goal.returns
returns c =
    subst (λ l. AreSaid (map numbered_of l) c.args.width c.loop-literal.goal) (take_all c.loop-literal.literal-index c.args.literals.now c.loop-literal-test.false) c.loop-literal.invariant
