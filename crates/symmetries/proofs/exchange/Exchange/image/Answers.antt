use Rattle.std.proofs.Common.{◌∙◌, ap}
use Rattle.std.specs.Option.{option_map_or}
use Rattle.task.specs.TaskParts.{object_of}
use Rattle.symmetries.proofs.PairLemmas.{image_by}
use Rattle.symmetries.proofs.exchange.Exchange.image.Goals as goal

pub returns-in-Some : goal.returns-in-Some
returns-in-Some c =
    ap (λ o. option_map_or object_of o c.args.object.0) c.in-Some.ensures.value ∙ image_by c.args.object c.args.self.now.images.entries ∙ c.args.self.now.imaged c.args.object.0

pub returns-in-None : goal.returns-in-None
returns-in-None c =
    ap (λ o. option_map_or object_of o c.args.object.0) c.in-None.ensures.value ∙ image_by c.args.object c.args.self.now.images.entries ∙ c.args.self.now.imaged c.args.object.0
