use Rattle.std.proofs.Common.{◌∙◌, nat_eq, sym}
use Rattle.task.specs.TaskParts.{type_of}
use Rattle.formulas.proofs.Pointwise.{pointwise-both}
use Rattle.symmetries.proofs.images.are_same.Goals as goal

pub returns : goal.returns
returns c = c.eq.ensures ∙ sym (pointwise-both nat_eq type_of type_of c.args.types.now.0.items c.args.others.now.0.items)
