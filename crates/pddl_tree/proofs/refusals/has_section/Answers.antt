use Rattle.std.proofs.Common.{◌∙◌}
use Rattle.pddl_tree.proofs.Seen.{section_among}
use Rattle.pddl_tree.proofs.refusals.has_section.Goals as goal

pub returns : goal.returns
returns c = c.contains.ensures.value ∙ section_among c.args.sections.now c.args.section
