use Rattle.std.proofs.Common.{rules, arith, ◌≡◌, ◌∙◌, sym}
use Rattle.std.proofs.lemmas.Slice.Zip.{zip_turn, zip_end}
use Rattle.task.specs.Task.{task_of}
use Rattle.task.specs.TaskParts.{object_of, union_of}
use Rattle.model.specs.Meaning.{is_of}
use Rattle.formulas.proofs.Pointwise.{code_is_of, pointwise-both, pair_fails, pairs_pass}
use Rattle.formulas.proofs.instance.are_of.Goals as goal

pub returns-then-not-is_of : goal.returns-then-not-is_of
returns-then-not-is_of c =
    let unions = c.args.unions.now in
    let objects = c.args.objects.now in
    let task = task_of c.args.task.now in
    let first : c.into_iter-types-iterator.result.a.rest.now ≡ unions = search rules in
    let second : c.into_iter-types-iterator.result.b.rest.now ≡ objects = search rules in
    let turn = zip_turn unions objects c.loop-types.yielded _ _ c.next.new.self _ first second c.loop-types.yielded_by _ c.in-Some.is c.next.ensures.steps in
    pair_fails (code_is_of task) unions objects _ c.in-Some.types.now c.in-Some.object.now turn.0 turn.1 c.loop-types.invariant
    (sym (λ i. code_is_of task (turn.2 c.in-Some.types.now i) (turn.3 c.in-Some.object.now i)) ∙ sym c.is_of.ensures ∙ c.if-not-is_of.true)
    ∙ sym (pointwise-both (is_of task) union_of object_of unions objects)

pub returns : goal.returns
returns c =
    let unions = c.args.unions.now in
    let objects = c.args.objects.now in
    let task = task_of c.args.task.now in
    let first : c.into_iter-types-iterator.result.a.rest.now ≡ unions = search rules in
    let second : c.into_iter-types-iterator.result.b.rest.now ≡ objects = search rules in
    let counts = zip_end unions objects c.loop-types.yielded _ _ c.next.new.self _ first second c.loop-types.yielded_by c.in-None.is c.next.ensures.steps in
    let same = c.if-unions-objects.false in
    pairs_pass (code_is_of task) unions objects _ (omega (arith, counts, same)) (omega (arith, counts, same)) c.loop-types.invariant
    ∙ sym (pointwise-both (is_of task) union_of object_of unions objects)
