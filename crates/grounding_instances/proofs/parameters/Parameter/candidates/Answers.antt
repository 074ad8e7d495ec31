use Rattle.std.proofs.Common.{ap, subst, map, length, IfSome}
use Rattle.std.specs.List.{each_same}
use Rattle.std.proofs.lemmas.List.{length-map}
use Rattle.task.specs.Task.{task_of}
use Rattle.task.specs.TaskParts.{object_of}
use Rattle.grounding_instances.specs.Parameters.{choice_of}
use Rattle.grounding_instances.specs.Joins.{IsGroup}
use Rattle.grounding_instances.proofs.JoinGroups.{all-candidates, group-candidates}
use Rattle.grounding_instances.proofs.parameters.Parameter.candidates.Goals as goal

pub returns-in-Some : goal.returns-in-Some
returns-in-Some c =
    let t = task_of c.args.task.now in
    let objects = map object_of c.args.binding.now.items in
    let join = c.args.self.now.join in
    group-candidates t (length c.args.binding.now.items) (choice_of c.args.self.now) join c.requires objects (length-map c.args.binding.now.items object_of)
    c.in-Some.candidates.items (subst (λ o. IfSome o (λ found. IsGroup t join objects found.items)) c.in-Some.is c.in_ok-candidates.ensures)

pub returns-in_ok-clone-in-None : goal.returns-in_ok-clone-in-None
returns-in_ok-clone-in-None c =
    all-candidates (task_of c.args.task.now) (map object_of c.args.binding.now.items) (choice_of c.args.self.now) (map object_of c.in_ok-clone-in-None.field-0.items)
    (ap (map object_of) (each_same c.args.self.now.objects.items c.in_ok-clone-in-None.field-0.items c.in_ok-clone-in-None.ensures.cases.0))
