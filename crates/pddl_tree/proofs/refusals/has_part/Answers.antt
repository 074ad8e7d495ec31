use Rattle.std.proofs.Common.{◌∙◌}
use Rattle.pddl_tree.proofs.Seen.{part_among}
use Rattle.pddl_tree.proofs.refusals.has_part.Goals as goal

pub returns : goal.returns
returns c = c.contains.ensures.value ∙ part_among c.args.seen.now c.args.part
