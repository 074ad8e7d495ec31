use Rattle.std.proofs.Common.{◌∙◌, map, ap, arith}
use Rattle.task.specs.declared.atoms.ObjectId.{ObjectId}
use Rattle.task.specs.TaskParts.{object_of}
use Rattle.symmetries.specs.Exchange.{image}
use Rattle.symmetries.proofs.ImageLemmas.{imaged_more, imaged_whole}
use Rattle.symmetries.proofs.images.image_of_atom.Goals as goal

pub loop-object-preserved : goal.loop-object-preserved
loop-object-preserved c =
    let d : ObjectId = record { 0 = 0 } in (
      omega (arith, c.push.ensures.len, c.loop-object.invariant.0),
      ap (map object_of) c.push.ensures.items
          ∙ imaged_more (image c.args.exchange.now) c.loop-object.objects.items c.as_slice-object-items.result.now c.loop-object.object-index d c.image.result
          c.loop-object-test.true c.loop-object.invariant.1 c.image.ensures,
    )

pub returns : goal.returns
returns c =
    let objects = imaged_whole (image c.args.exchange.now) c.loop-object.objects.items c.as_slice-object-items.result.now c.loop-object.object-index c.loop-object-test.false c.loop-object.invariant.1
    ∙ ap (λ l. map (image c.args.exchange.now) (map object_of l)) c.as_slice-object-items.ensures.value in
    λ i. record { predicate = c.args.atom.now.predicate.0; objects = objects i }
