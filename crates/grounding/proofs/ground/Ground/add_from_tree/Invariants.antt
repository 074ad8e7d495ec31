use Rattle.std.proofs.Common.{◌≡◌, ◌≤◌, ◌+◌, ◌-◌, ◌++◌, drop, length}
use Rattle.std.specs.Vec.{vec_capacity}
use Rattle.std.specs.List.{All}
use Rattle.std.specs.Prelude.{filter, is_some}
use Rattle.model.specs.Grounding.{ground_step}
use Rattle.packed_state.specs.Packed.{bits_of}
use Rattle.grounding.specs.Ground.{task_in, atoms_in}
use Rattle.grounding.specs.MatchNodes.{found, IsMet}
use Rattle.grounding.proofs.ground.Ground.add_from_tree.Given as goal

-- what was added, and what is found by the nodes that are left, is all
abbrev pub invariant-nodes : goal.invariant-nodes
invariant-nodes l = record {
  items : l.into.items ++ filter (λ number. is_some (ground_step (task_in l.self) (atoms_in l.self) (bits_of l.state) number)) (found (bits_of l.state) 0 (drop l.place l.nodes))
      ≡ l.initial.into.items ++ filter (λ number. is_some (ground_step (task_in l.self) (atoms_in l.self) (bits_of l.state) number)) (found (bits_of l.state) 0 l.nodes);
  agreed : All (IsMet l.self.conditions.items (bits_of l.state)) (found (bits_of l.state) 0 (drop l.place l.nodes));
  room : length l.into.items + length (found (bits_of l.state) 0 (drop l.place l.nodes)) ≤ vec_capacity l.into;
  capacity : vec_capacity l.into ≡ vec_capacity l.initial.into;
}

abbrev pub decreases-nodes : goal.decreases-nodes
decreases-nodes l = length l.nodes - l.place
