-- The code's relaxations, in the definitions' terms.
use Rattle.std.specs.Prelude.{Bool, not}
use Rattle.packed_state.specs.Packed.{bits_of}
use Rattle.grounding.specs.Ground.{atoms_in, task_in}
use Rattle.model.specs.Task.{Atom}
use Rattle.explain_goals.specs.declared.relaxation.Relaxation.{Relaxation}
use Rattle.explain_goals.specs.Settled.{is_in}

-- the atom may not become true
abbrev pub is_out : Relaxation → Atom → Bool
is_out r a = not (is_in (task_in r.ground.now) (atoms_in r.ground.now) (bits_of r.set.now) a)
