use Rattle.std.proofs.Common.{◌≡◌, take}
use Rattle.std.specs.List.{All}
use Rattle.grounding_instances.specs.Numbers.{numbered_of}
use Rattle.grounding.specs.MatchNodes.{Requires}
use Rattle.grounding.proofs.tree_builder.TreeBuilder.run_length.Given as goal

abbrev pub invariant-loop-number : goal.invariant-loop-number
invariant-loop-number l = record {
  counted : l.length ≡ l.number-index;
  required : All (Requires l.self.conditions.now (numbered_of l.literal)) (take l.number-index l.numbers);
}
