use Rattle.std.proofs.Common.{◌<◌}
use Rattle.std.specs.Prelude.{IfSome}
use Rattle.grounding.proofs.tree_builder.TreeBuilder.rarest.Given as goal

abbrev pub invariant-loop-literal : goal.invariant-loop-literal
invariant-loop-literal l = IfSome l.rarest (λ literal. literal.atom < l.self.width)
