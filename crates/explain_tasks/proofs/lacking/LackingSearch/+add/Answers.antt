use Rattle.std.proofs.Common.{◌≡◌, ◌∙◌, ℕ, List, [], ◌∷◌, ◌++◌, refl, ap, sym, map}
use Rattle.std.specs.List.{flat_map}
use Rattle.task.specs.TaskParts.{object_of, union_of}
use Rattle.formulas.specs.Objects.{objects_left}
use Rattle.formulas.specs.State.{instance_of}
use Rattle.formulas.proofs.Quantifiers.{one_more}
use Rattle.grounding_instances.specs.Numbering.{task_in}
use Rattle.model.specs.Meaning.{objects_of}
use Rattle.model.specs.Task.{Instance}
use Rattle.model.proofs.EnumerationLemmas.{begun, begun-next}
use Rattle.explain_tasks.specs.Costs.{lacking_among, with_lacking}
use Rattle.explain_tasks.proofs.FoldLemmas.{folded_left, folded_end}
use Rattle.explain_tasks.proofs.lacking.LackingSearch.+add.Goals as goal

pub loop-object-preserved : goal.loop-object-preserved
loop-object-preserved t c =
    let task = task_in c.args.self.now.numbering.now in
    let limit = c.args.self.now.limit in
    let objects = c.args.start.now.objects.items in
    let ranges = map (objects_of task) (map union_of c.in-Some.rest.now) in
    let one = c.in-Some-object.object in
    let now = map instance_of c.loop-object.found.items in
    let gives : ℕ → List Instance = λ n. begun c.args.start.now.schema.0 (map object_of objects ++ n ∷ []) ranges in
    folded_left (with_lacking task limit) gives (objects_left c.loop-object.object-iterator) (objects_left c.next.new.self) one.0 now (map instance_of c.add.new.found.items)
    (lacking_among task limit (map instance_of c.args.found.now.items) (flat_map gives (objects_left c.into_iter-object-iterator.result))) c.in-Some-object.ensures.steps
    (c.in_ok-add.ensures ∙ ap (λ os. lacking_among task limit now (begun c.args.start.now.schema.0 os ranges)) (one_more objects c.with_object.result.items one objects refl c.with_object.ensures))
    c.loop-object.invariant

pub returns : goal.returns
returns t c =
    let task = task_in c.args.self.now.numbering.now in
    let limit = c.args.self.now.limit in
    let schema = c.args.start.now.schema.0 in
    let objects = map object_of c.args.start.now.objects.items in
    let types = union_of c.in-Some.types.now in
    let ranges = map (objects_of task) (map union_of c.in-Some.rest.now) in
    let gives : ℕ → List Instance = λ n. begun schema (objects ++ n ∷ []) ranges in
    let all : objects_left c.into_iter-object-iterator.result ≡ objects_of task types =
    ap objects_left c.into_iter-object-iterator.ensures.into_iter_gives ∙ c.objects_of-object-items.ensures ∙ ap (λ u. objects_of u types) c.task.ensures in
    let whole : flat_map gives (objects_left c.into_iter-object-iterator.result) ≡ begun schema objects (map (objects_of task) (map union_of c.args.left.now)) =
    ap (flat_map gives) all ∙ sym (begun-next schema objects (objects_of task types) ranges)
    ∙ ap (λ unions. begun schema objects (map (objects_of task) (map union_of unions))) (sym c.in-Some.ensures.cases.0) in
    folded_end (with_lacking task limit) gives (objects_left c.loop-object.object-iterator) (map instance_of c.loop-object.found.items) _ c.in-None.ensures.steps.0
    (c.loop-object.invariant ∙ ap (lacking_among task limit (map instance_of c.args.found.now.items)) whole)
