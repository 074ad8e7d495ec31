use Rattle.std.proofs.Common.{◌∙◌, Some, map, ap}
use Rattle.task.specs.TaskParts.{formula_of}
use Rattle.symmetries.proofs.ImageLemmas.{parts_of-And}
use Rattle.symmetries.proofs.images.and_parts.Goals as goal

pub returns-in-And : goal.returns-in-And
returns-in-And c = ap (λ l. Some (map formula_of l)) c.as_slice.ensures.value ∙ parts_of-And c.args.formula.now c.in-And.parts c.in-And.is
