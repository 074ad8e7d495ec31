use Rattle.std.proofs.Common.{arith, ◌≡◌, sym, length, map}
use Rattle.std.proofs.lemmas.List.{length-map}
use Rattle.task.specs.Task.{task_of}
use Rattle.formulas.specs.State.{state_of, instance_of}
use Rattle.explain_plans.proofs.Running.{is_one, is_applicable, one_more}
use Rattle.explain_plans.proofs.HistoryLemmas.{histories_more, histories_whole}
use Rattle.explain_plans.proofs.histories.histories.Goals as goal

pub apply-requires : goal.apply-requires
apply-requires c = is_one (task_of c.args.task.now) c.args.steps.now c.loop-index.index c.index-steps-index.result c.loop-index-test.true c.index-steps-index.is c.requires.instances

pub unwrap-state-requires : goal.unwrap-state-requires
unwrap-state-requires c =
    is_applicable (task_of c.args.task.now) c.args.steps.now c.loop-index.index c.index-steps-index.result c.loop-index-test.true c.index-steps-index.is
    (state_of c.loop-index.state) c.loop-index.invariant.runs c.in_ok-apply.field-0 c.in_ok-apply.ensures c.requires.runs

pub loop-index-preserved : goal.loop-index-preserved
loop-index-preserved c =
    let task = task_of c.args.task.now in
    record {
      runs = one_more task c.args.steps.now c.loop-index.index c.index-steps-index.result c.loop-index-test.true c.index-steps-index.is
          (state_of c.loop-index.state) c.loop-index.invariant.runs c.in_ok-apply.field-0 c.in_ok-apply.ensures c.unwrap-state.result c.unwrap-state.ensures;
      one_each = c.look.ensures.one_each;
      so_far = histories_more task (map instance_of c.args.steps.now) c.loop-index.index c.args.parts.now c.loop-index.histories.items c.look.new.histories.items
          (state_of c.loop-index.state) c.loop-index.invariant.runs c.look.ensures.looked c.loop-index.invariant.so_far;
    }

pub returns-clause-since : goal.returns-clause-since
returns-clause-since c =
    let steps = c.args.steps.now in
    let same : c.loop-index.index ≡ length (map instance_of steps) = omega (arith, c.loop-index-test.false, c.loop-index.auto.index-end, length-map steps instance_of) in
    histories_whole (task_of c.args.task.now) (map instance_of steps) c.loop-index.index (length steps) c.args.parts.now c.loop-index.histories.items
    same (sym (length-map steps instance_of)) c.requires.are_false c.loop-index.invariant.so_far
