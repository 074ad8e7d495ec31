use Rattle.std.proofs.Common.{◌≡◌, ◌∙◌, ◌<◌, ◌/◌, ap, sym, map, length, not, nat_lt, subst, arith}
use Rattle.std.specs.Prelude.{IfOk}
use Rattle.std.proofs.lemmas.List.{length-map}
use Rattle.task.specs.Task.{task_of}
use Rattle.task.specs.TaskParts.{object_of, union_of}
use Rattle.model.specs.Instances.{product}
use Rattle.model.specs.Meaning.{objects_of}
use Rattle.explain_tasks.proofs.CountLemmas.{positive, within_next}
use Rattle.explain_tasks.proofs.lacking.+is_product_within.Goals as goal

pub returns : goal.returns
returns t c =
    let task = task_of c.args.task.now in
    let firsts = objects_of task (union_of c.in-Some.types.now) in
    let rests = map (objects_of task) (map union_of c.in-Some.rest.now) in
    let found = c.in_ok-objects_of.field-0 in
    let long : length (map object_of found.items) ≡ length firsts = ap length c.in_ok-objects_of.ensures in
    let same = length-map found.items object_of in
    let count : c.len-objects.result ≡ length firsts = omega (arith, c.len-objects.ensures, found.ok.0, same, long) in
    let some : 0 < length firsts = subst (λ n. 0 < n) count (positive c.len-objects.result c.if-objects-eq0.false) in
    subst (λ b. IfOk c.is_product_within.result (λ within. within ≡ not b))
    (ap (λ n. nat_lt (c.args.most / n) (length (product rests))) count ∙ within_next firsts rests c.args.most some
    ∙ ap (λ unions. nat_lt c.args.most (length (product (map (objects_of task) (map union_of unions))))) (sym c.in-Some.ensures.cases.0))
    c.is_product_within.ensures
