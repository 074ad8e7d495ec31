use Rattle.std.proofs.Common.{arith, rules, ◌∙◌, ap, sym, length}
use Rattle.task.specs.TaskParts.{union_of}
use Rattle.task.specs.Task.{task_of}
use Rattle.formulas.proofs.ObjectWalk.{from_passing, from_failing, from_end}
use Rattle.model.specs.Meaning.{is_of}
use Rattle.formulas.proofs.objects.ObjectsIterator.next.Goals as goal

pub loop-number-preserved : goal.loop-number-preserved
loop-number-preserved c =
    let self = c.loop-number.self in
    let task = task_of self.task.now in
    let same = ap (λ s. length (task_of s.task.now).objects) c.loop-number.invariant.0 in (
      c.loop-number.invariant.0,
      c.loop-number.invariant.1
          ∙ from_failing (is_of task (union_of self.types.now)) (length task.objects) c.loop-number.number (omega (arith, same, c.loop-number-test.true, c.object_count-number-end.ensures)) (sym c.is_of.ensures ∙ c.if-is_of.false),
    )

pub returns-then-is_of-clause-steps : goal.returns-then-is_of-clause-steps
returns-then-is_of-clause-steps c =
    let self = c.loop-number.self in
    let task = task_of self.task.now in
    let same = ap (λ s. length (task_of s.task.now).objects) c.loop-number.invariant.0 in
    c.loop-number.invariant.1
    ∙ from_passing (is_of task (union_of self.types.now)) (length task.objects) c.loop-number.number (omega (arith, same, c.loop-number-test.true, c.object_count-number-end.ensures)) (sym c.is_of.ensures ∙ c.if-is_of.true)

pub returns-then-is_of-clause-goes : goal.returns-then-is_of-clause-goes
returns-then-is_of-clause-goes c =
    let self = c.loop-number.self in
    let task = task_of self.task.now in
    let same = ap (λ s. length (task_of s.task.now).objects) c.loop-number.invariant.0 in
    let step = c.loop-number.invariant.1
    ∙ from_passing (is_of task (union_of self.types.now)) (length task.objects) c.loop-number.number (omega (arith, same, c.loop-number-test.true, c.object_count-number-end.ensures)) (sym c.is_of.ensures ∙ c.if-is_of.true) in
    let shorter = ap length step in search rules

pub returns-clause-steps : goal.returns-clause-steps
returns-clause-steps c =
    let self = c.loop-number.self in
    let task = task_of self.task.now in
    let test = is_of task (union_of self.types.now) in
    let count = length task.objects in
    let same = ap (λ s. length (task_of s.task.now).objects) c.loop-number.invariant.0 in (
      c.loop-number.invariant.1 ∙ from_end test count c.loop-number.number (omega (arith, same, c.loop-number-test.false, c.object_count-number-end.ensures)),
      from_end test count c.object_count-self.result (omega (arith, c.object_count-self.ensures)),
    )
