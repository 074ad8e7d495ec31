use Rattle.std.proofs.Common.{◌∙◌, Some, map, ap}
use Rattle.task.specs.TaskParts.{formula_of}
use Rattle.symmetries.proofs.ImageLemmas.{parts_of-Or}
use Rattle.symmetries.proofs.images.or_parts.Goals as goal

pub returns-in-Or : goal.returns-in-Or
returns-in-Or c = ap (λ l. Some (map formula_of l)) c.as_slice.ensures.value ∙ parts_of-Or c.args.formula.now c.in-Or.parts c.in-Or.is
