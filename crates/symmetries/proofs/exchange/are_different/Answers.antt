use Rattle.std.proofs.Common.{◌∙◌, map, ap, sym}
use Rattle.std.proofs.lemmas.List.{take_all}
use Rattle.task.specs.TaskParts.{object_of}
use Rattle.symmetries_definitions.specs.Exchanges.{are_different}
use Rattle.symmetries.proofs.PairLemmas.{new_object, known_object}
use Rattle.symmetries.proofs.exchange.are_different.Goals as goal

pub loop-object-preserved : goal.loop-object-preserved
loop-object-preserved c =
    new_object c.args.objects.now c.loop-object.object-index (record { 0 = 0 }) c.loop-object-test.true c.loop-object.seen.keys c.insert.new.self.keys
    c.loop-object.invariant.0 c.in_ok-is_new.ensures.keys (sym c.in_ok-is_new.ensures.added ∙ c.if-not-is_new.false) c.loop-object.invariant.1

pub returns-then-not-is_new : goal.returns-then-not-is_new
returns-then-not-is_new c =
    known_object c.args.objects.now c.loop-object.object-index (record { 0 = 0 }) c.loop-object-test.true c.loop-object.seen.keys
    c.loop-object.invariant.0 (sym c.in_ok-is_new.ensures.added ∙ c.if-not-is_new.true)

pub returns : goal.returns
returns c =
    sym (ap (λ l. are_different (map object_of l)) (sym (take_all c.loop-object.object-index c.args.objects.now c.loop-object-test.false)) ∙ c.loop-object.invariant.1)
