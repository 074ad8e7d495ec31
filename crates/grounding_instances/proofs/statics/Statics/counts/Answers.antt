use Rattle.std.proofs.Common.{◌∙◌, not, ap, sym, subst, map}
use Rattle.task.specs.Task.{task_of}
use Rattle.task.specs.TaskParts.{object_of}
use Rattle.formulas.specs.State.{FitsFormula}
use Rattle.formulas.specs.Effects.{condition_of}
use Rattle.model.specs.StaticallyFalse.{is_statically_false}
use Rattle.grounding_instances.proofs.statics.Statics.counts.Goals as goal

pub is_statically_false-requires : goal.is_statically_false-requires
is_statically_false-requires c =
    subst (λ f. FitsFormula (task_of c.args.self.now.task.now) f (map object_of c.args.change.now.binding.items)) (ap condition_of c.in-Some.is) c.requires

pub returns-in-Some : goal.returns-in-Some
returns-in-Some c =
    let t = task_of c.args.self.now.task.now in
    let binding = map object_of c.args.change.now.binding.items in
    ap not c.is_statically_false.ensures ∙ sym (ap (λ o. not (is_statically_false t (condition_of o) binding)) c.in-Some.is)

pub returns-in-None : goal.returns-in-None
returns-in-None c =
    let t = task_of c.args.self.now.task.now in
    let binding = map object_of c.args.change.now.binding.items in
    sym (ap (λ o. not (is_statically_false t (condition_of o) binding)) c.in-None.is)
