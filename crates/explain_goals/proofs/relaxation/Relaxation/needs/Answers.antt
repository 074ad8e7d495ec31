use Rattle.std.proofs.Common.{subst, arith}
use Rattle.formulas.specs.State.{state_of}
use Rattle.explain_goals.specs.Needed.{IsAnswered, WhenAdded}
use Rattle.explain_goals.proofs.NeedLemmas.{answered-begun, answered-next, answered-all}
use Rattle.explain_goals.proofs.relaxation.Relaxation.needs.Goals as goal

pub loop-number-init : goal.loop-number-init
loop-number-init c = answered-begun c.args.self.now (state_of c.args.added.now) (state_of c.new-needed.result) c.new-needed.ensures

pub loop-number-preserved : goal.loop-number-preserved
loop-number-preserved c =
    let r = c.args.self.now in
    let added = state_of c.args.added.now in
    let old = state_of c.loop-number.needed in
    let new = state_of c.add_needs.new.needed in
    answered-next r added c.loop-number.number old new c.loop-number.invariant
    (subst (λ n. WhenAdded n (IsAnswered r added c.loop-number.number old new)) c.in-Added.is c.in_ok-add_needs.ensures)

pub returns-clause-needed : goal.returns-clause-needed
returns-clause-needed c =
    answered-all c.args.self.now (state_of c.args.added.now) (state_of c.loop-number.needed) c.loop-number.number
    (let count = c.instance_count-number-end.ensures in let past = c.loop-number-test.false in omega (arith, count, past)) c.loop-number.invariant
