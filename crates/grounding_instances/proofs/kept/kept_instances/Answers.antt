use Rattle.std.proofs.Common.{◌+◌, map}
use Rattle.faults.proofs.Results.{passed_on}
use Rattle.task.specs.Task.{task_of}
use Rattle.formulas.specs.State.{instance_of}
use Rattle.model.specs.StaticallyFalse.{is_kept, kept_instances}
use Rattle.model.proofs.EnumerationLemmas.{instances_left}
use Rattle.grounding_instances.specs.Kept.{ReportsInstances, instances_of_number}
use Rattle.grounding_instances.proofs.ChosenObjects.{left-here, part-more, part-reported}
use Rattle.grounding_instances.proofs.kept.kept_instances.Goals as goal

pub returns-in_err-add_all-clause-reported : goal.returns-in_err-add_all-clause-reported
returns-in_err-add_all-clause-reported c =
    let t = task_of c.args.statics.now.task.now in
    let number = c.loop-number.number in
    let e = c.in_err-add_all.field-0.0 in
    passed_on (ReportsInstances c.args.max (kept_instances t)) c.from_residual.result e c.from_residual.ensures.1
    (part-reported (is_kept t) (map instance_of c.loop-number.found.items) (instances_of_number t number) (instances_left t (number + 1)) (instances_left t number) (kept_instances t)
    (left-here t number) c.loop-number.invariant.all c.args.max e c.in_err-add_all.ensures.reported)

pub loop-number-preserved : goal.loop-number-preserved
loop-number-preserved c =
    let t = task_of c.args.statics.now.task.now in
    let number = c.loop-number.number in
    record {
      all = part-more (is_kept t) (map instance_of c.loop-number.found.items) (instances_of_number t number) (instances_left t (number + 1)) (instances_left t number) (kept_instances t)
          (left-here t number) c.loop-number.invariant.all (map instance_of c.add_all.new.found.items) c.in_ok-add_all.ensures.kept;
      few = c.in_ok-add_all.ensures.few;
    }
