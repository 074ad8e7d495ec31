use Rattle.std.proofs.Common.{◌≡◌, ◌+◌, length, sym, subst, arith}
use Rattle.task.specs.Task.{task_of}
use Rattle.task.specs.TaskParts.{formula_of}
use Rattle.grounding_instances.specs.Joins.{IsJoined, AreJoined}
use Rattle.grounding_instances.proofs.ObjectLists.{parameters-more}
use Rattle.grounding_instances.proofs.JoinGroups.{joined-more}
use Rattle.grounding_instances.proofs.parameters.parameters_of.Goals as goal

pub loop-types-preserved : goal.loop-types-preserved
loop-types-preserved c =
    let t = task_of c.args.statics.now.task.now in
    let before = c.loop-types.parameters in
    let count : c.len-number.result ≡ c.loop-types.types-index = omega (arith, c.len-number.ensures, before.ok.0, c.loop-types.invariant.1) in
    let one = c.in_ok-parameter.parameter in
    let place : c.len-number.result ≡ 0 + length before.items = omega (arith, count, c.loop-types.invariant.1) in
    let more = parameters-more t (formula_of c.args.schema.now.precondition) c.deref-types-items.result.now c.loop-types.types-index c.len-number.result c.types-item.result before.items c.push.new.self.items one
    c.loop-types-test.true c.types-item.is c.loop-types.invariant.0 c.loop-types.invariant.1 count c.in_ok-parameter.ensures.objects c.in_ok-parameter.ensures.literals c.in_ok-push.ensures.items in
    (more.0, more.1, subst (AreJoined t 0) (sym c.in_ok-push.ensures.items) (joined-more t 0 before.items one c.loop-types.invariant.2 (subst (λ n. IsJoined t n one) place c.in_ok-parameter.ensures.joined)))
