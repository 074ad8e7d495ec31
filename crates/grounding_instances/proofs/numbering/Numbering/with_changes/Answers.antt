use Rattle.std.proofs.Common.{ap, subst, map}
use Rattle.std.specs.Prelude.{IfOk, IfErr}
use Rattle.task.specs.Task.{task_of}
use Rattle.task.specs.TaskParts.{atom_of}
use Rattle.grounding_instances.specs.Numbering.{IsNumberingOf, ReportsLimit}
use Rattle.grounding_instances.proofs.numbering.Numbering.with_changes.Goals as goal

pub returns-clause-numbering : goal.returns-clause-numbering
returns-clause-numbering c =
    subst (λ t. IfOk c.of_statics.result (IsNumberingOf t (map atom_of c.args.more.now) c.args.max_instances)) (ap task_of c.in_ok-statics.ensures) c.of_statics.ensures.numbering

pub returns-clause-reported : goal.returns-clause-reported
returns-clause-reported c =
    subst (λ t. IfErr c.of_statics.result (ReportsLimit t (map atom_of c.args.more.now) c.args.max_instances)) (ap task_of c.in_ok-statics.ensures) c.of_statics.ensures.reported
