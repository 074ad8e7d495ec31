use Rattle.std.specs.FinSet.{contains}
use Rattle.formulas.specs.Effects.{change_of}
use Rattle.formulas.specs.State.{state_of}
use Rattle.explain_tasks.specs.Goals.{change_makes_true}
use Rattle.explain_tasks.proofs.AddedLemmas.{gains_all, gains_more, gains_nothing, mapped}
use Rattle.explain_tasks.proofs.added.insert_added.Goals as goal

pub loop-change-init : goal.loop-change-init
loop-change-init c = gains_nothing (contains (state_of c.args.asked.now)) (state_of c.args.added.now)

pub loop-change-preserved : goal.loop-change-preserved
loop-change-preserved c =
    gains_more (contains (state_of c.args.asked.now)) (λ a one. change_makes_true a (change_of one)) c.args.changes.now c.loop-change.change-index (state_of c.args.added.now) c.change-item.result
    (state_of c.loop-change.added) (state_of c.insert_if_added.new.added) c.loop-change-test.true c.change-item.is c.loop-change.invariant c.in_ok-insert_if_added.ensures

pub returns : goal.returns
returns c =
    mapped (contains (state_of c.args.asked.now)) change_makes_true change_of c.args.changes.now (state_of c.args.added.now) (state_of c.loop-change.added)
    (gains_all (contains (state_of c.args.asked.now)) (λ a one. change_makes_true a (change_of one)) c.args.changes.now c.loop-change.change-index (state_of c.args.added.now) (state_of c.loop-change.added) c.loop-change-test.false c.loop-change.invariant)
