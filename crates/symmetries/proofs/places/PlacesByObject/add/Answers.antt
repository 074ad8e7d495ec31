use Rattle.task.specs.declared.atoms.ObjectId.{ObjectId}
use Rattle.symmetries.proofs.PlaceLemmas.{added_none, added_more, added_whole}
use Rattle.symmetries.proofs.places.PlacesByObject.add.Goals as goal

pub loop-object-init : goal.loop-object-init
loop-object-init c = added_none c.args.place c.args.self.now

pub loop-object-preserved : goal.loop-object-preserved
loop-object-preserved c =
    let d : ObjectId = record { 0 = 0 } in
    added_more c.args.place c.args.objects.now c.loop-object.object-index d c.args.self.now c.loop-object.self c.grow.new.self c.push.new.self
    c.loop-object-test.true c.loop-object.invariant c.in_ok-grow.ensures.rows c.in_ok-push.ensures

pub returns : goal.returns
returns c = added_whole c.args.place c.args.objects.now c.loop-object.object-index c.args.self.now c.loop-object.self c.loop-object-test.false c.loop-object.invariant
