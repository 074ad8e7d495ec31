use Rattle.std.proofs.Common.{◌≡◌, map, drop, length}
use Rattle.packed_state.specs.Packed.{bits_of}
use Rattle.model.specs.Grounding.{state_of_bits}
use Rattle.grounding.specs.ChangedBits.{with_bits}
use Rattle.grounding.specs.NumberedEffects.{numbers_made}
use Rattle.grounding.specs.Changes.{effect_in}
use Rattle.grounding.specs.Ground.{task_in, atoms_in}
use Rattle.grounding.proofs.ground.Ground.make.Given as goal

-- with what is left made, it is what it is with all made
abbrev pub invariant-loop-change : goal.invariant-loop-change
invariant-loop-change l = record {
  made : with_bits l.value (bits_of l.into) (numbers_made (task_in l.self) (state_of_bits (task_in l.self) (atoms_in l.self) (bits_of l.before)) l.value (drop l.change-index (map effect_in l.changes)))
      ≡ with_bits l.value (bits_of l.fn.into) (numbers_made (task_in l.self) (state_of_bits (task_in l.self) (atoms_in l.self) (bits_of l.before)) l.value (map effect_in l.changes));
  as_long : length (bits_of l.into) ≡ length (atoms_in l.self);
}
