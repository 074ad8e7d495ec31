use Rattle.std.proofs.Common.{◌∙◌, ◌||◌, ◌&&◌, map, ap, sym}
use Rattle.std.specs.FinSet.{contains, empty}
use Rattle.std.specs.List.{list_any}
use Rattle.task.specs.Task.{task_of}
use Rattle.formulas.specs.Effects.{change_of}
use Rattle.formulas.specs.State.{instance_of, state_of}
use Rattle.model.specs.Meaning.{is_instance}
use Rattle.model.proofs.Tests.{passes_at, passes_map}
use Rattle.explain_tasks.specs.Goals.{change_makes_true, is_added_by}
use Rattle.explain_tasks.proofs.AddedLemmas.{gains_all, gains_begun_of, gains_more, mapped}
use Rattle.explain_tasks.proofs.added.atoms_added.Goals as goal

pub loop-instance-init : goal.loop-instance-init
loop-instance-init c = gains_begun_of (contains (state_of c.args.asked.now)) (state_of c.new-added.result) c.new-added.ensures

pub changes-requires : goal.changes-requires
changes-requires c =
    let t = task_of c.args.task.now in
    passes_at (λ one. is_instance t (instance_of one)) c.args.instances.now c.loop-instance.instance-index c.instance-item.result c.loop-instance-test.true c.instance-item.is
    (sym (passes_map (is_instance t) instance_of c.args.instances.now) ∙ c.requires)

pub loop-instance-preserved : goal.loop-instance-preserved
loop-instance-preserved c =
    let t = task_of c.args.task.now in
    let asked = state_of c.args.asked.now in
    gains_more (contains asked) (λ a one. is_added_by t a (instance_of one)) c.args.instances.now c.loop-instance.instance-index empty c.instance-item.result
    (state_of c.loop-instance.added) (state_of c.insert_added.new.added) c.loop-instance-test.true c.instance-item.is c.loop-instance.invariant
    (λ a. c.in_ok-insert_added.ensures a
    ∙ ap (λ l. contains (state_of c.loop-instance.added) a || (contains asked a && list_any (change_makes_true a) l)) (ap (map change_of) c.as_slice.ensures.value ∙ c.in_ok-changes.ensures))

pub returns : goal.returns
returns c =
    let t = task_of c.args.task.now in
    let asked = state_of c.args.asked.now in
    mapped (contains asked) (is_added_by t) instance_of c.args.instances.now empty (state_of c.loop-instance.added)
    (gains_all (contains asked) (λ a one. is_added_by t a (instance_of one)) c.args.instances.now c.loop-instance.instance-index empty (state_of c.loop-instance.added) c.loop-instance-test.false c.loop-instance.invariant)
