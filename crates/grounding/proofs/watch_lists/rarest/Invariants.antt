use Rattle.std.proofs.Common.{length, map}
use Rattle.std.specs.Prelude.{IfSome}
use Rattle.grounding_instances.specs.Numbers.{numbered_of}
use Rattle.grounding.specs.Watched.{IsWatchable}
use Rattle.grounding.proofs.watch_lists.rarest.Given as goal

abbrev pub invariant-loop-literal : goal.invariant-loop-literal
invariant-loop-literal l = IfSome l.watched (IsWatchable (length l.ranks) (map numbered_of l.literals))
