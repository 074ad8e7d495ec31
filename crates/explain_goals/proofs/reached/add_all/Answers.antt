use Rattle.packed_state.specs.Packed.{bits_of}
use Rattle.grounding.specs.Ground.{atoms_in, task_in}
use Rattle.explain_goals.proofs.GrownLemmas.{next-settled}
use Rattle.explain_goals.proofs.reached.add_all.Goals as goal

pub loop-number-preserved : goal.loop-number-preserved
loop-number-preserved c =
    let g = c.args.ground.now in
    next-settled (task_in g) (atoms_in g) c.loop-number.number (bits_of c.args.set.now) (bits_of c.loop-number.set) (bits_of c.add_by-one.new.set) c.loop-number.grew c.add_by-one.result
    c.loop-number.invariant c.add_by-one.ensures
