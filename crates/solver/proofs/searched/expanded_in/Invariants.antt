use Rattle.std.proofs.Common.{◌≡◌, take}
use Rattle.std.specs.Prelude.{count_by}
use Rattle.search.specs.Outcome.{is_expanded}
use Rattle.solver.proofs.searched.expanded_in.Given as goal

abbrev pub invariant-loop-node : goal.invariant-loop-node
invariant-loop-node l = l.count ≡ count_by is_expanded (take l.node-index l.nodes)
