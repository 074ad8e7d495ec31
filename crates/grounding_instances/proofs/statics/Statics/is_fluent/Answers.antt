use Rattle.std.proofs.Common.{◌∙◌}
use Rattle.grounding_instances.proofs.statics.Statics.is_fluent.Goals as goal

pub returns : goal.returns
returns c = c.contains.ensures ∙ c.args.self.now.are_fluents c.args.predicate.0
