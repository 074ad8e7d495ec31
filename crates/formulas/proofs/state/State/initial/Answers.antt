use Rattle.std.proofs.Common.{◌∙◌, ap}
use Rattle.std.specs.List.{each_same}
use Rattle.std.specs.FinSet.{from_list}
use Rattle.formulas.specs.State.{state_of}
use Rattle.formulas.proofs.States.{set_of, in_order, copied, initial_more, initial_whole}
use Rattle.formulas.proofs.state.State.initial.Goals as goal

pub loop-atom-init : goal.loop-atom-init
loop-atom-init c = ap set_of c.new.ensures.empty

pub loop-atom-preserved : goal.loop-atom-preserved
loop-atom-preserved c =
    let same = copied c.atom-item.result c.in_ok-clone.field-0 c.in_ok-clone.ensures.cases.0 (each_same c.atom-item.result.objects.items c.in_ok-clone.field-0.objects.items c.in_ok-clone.ensures.cases.1) in
    initial_more (state_of c.loop-atom.state) (state_of c.insert.new.self) c.init-atom-items.result.now c.loop-atom.atom-index c.atom-item.result c.in_ok-clone.field-0
    c.loop-atom-test.true c.atom-item.is same c.loop-atom.invariant c.in_ok-insert.ensures.ok

pub returns : goal.returns
returns c = initial_whole (state_of c.loop-atom.state) c.init-atom-items.result.now c.loop-atom.atom-index c.loop-atom-test.false c.loop-atom.invariant ∙ ap from_list c.init-atom-items.ensures

pub invariant_of-state : goal.invariant_of-state
invariant_of-state c = record { in_order = in_order c.new.result.keys c.new.ensures.ordered }
