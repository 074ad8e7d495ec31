use Rattle.std.proofs.Common.{◌≡◌, ◌∙◌, map, ap, subst}
use Rattle.std.specs.Prelude.{IfOk}
use Rattle.std.specs.Option.{option_map}
use Rattle.std.proofs.lemmas.List.{take_all}
use Rattle.task.specs.Task.{task_of}
use Rattle.task.specs.TaskParts.{object_of}
use Rattle.symmetries.specs.Exchange.{exchange_of}
use Rattle.symmetries.specs.ObjectPairs.{exchange_among, pairs_in}
use Rattle.symmetries_definitions.specs.Exchanges.{objects_in}
use Rattle.cert_checker.proofs.checker.symmetry.exchange_with.Goals as goal

pub returns : goal.returns
returns c =
    let pairs = c.args.pairs.now in
    subst (λ objects. IfOk c.new.result (λ made. option_map exchange_of made ≡ exchange_among (task_of c.args.task.now) objects))
    (ap (map object_of) c.as_slice.ensures.value ∙ c.loop-first.invariant ∙ ap (λ l. objects_in (pairs_in l)) (take_all c.loop-first.first-index pairs c.loop-first-test.false)) c.new.ensures
