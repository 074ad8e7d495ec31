use Rattle.std.proofs.Common.{◌≡◌, ◌≤◌, ◌<◌, ◌-◌, true, length}
use Rattle.std.specs.Vec.{vec_capacity}
use Rattle.std.specs.Prelude.{filter, is_some}
use Rattle.model.specs.Grounding.{ground_step}
use Rattle.packed_state.specs.Packed.{bits_of}
use Rattle.packed_state.specs.Sets.{has}
use Rattle.grounding.specs.Ground.{task_in, atoms_in}
use Rattle.grounding.specs.MatchTree.{numbers_of}
use Rattle.grounding.specs.WatchLists.{filed_below}
use Rattle.grounding.proofs.ground.Ground.list_applicable.Given as goal

-- the buffer has those of the trees so far, and room for the number of each instance; the next atom is true
abbrev pub invariant-lists : goal.invariant-lists
invariant-lists l = record {
  found : l.into.items ≡ filter (λ number. is_some (ground_step (task_in l.self) (atoms_in l.self) (bits_of l.state) number)) (filed_below (numbers_of l.self.tree) l.atom);
  room : l.count ≤ vec_capacity l.into;
  within : l.atom ≤ length (bits_of l.state);
  is_in : l.atom < length (bits_of l.state) → has (bits_of l.state) l.atom ≡ true;
}

abbrev pub decreases-lists : goal.decreases-lists
decreases-lists l = length (bits_of l.state) - l.atom
