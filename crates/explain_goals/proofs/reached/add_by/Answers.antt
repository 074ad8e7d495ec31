use Rattle.std.proofs.Common.{◌∙◌, map, sym}
use Rattle.packed_state.specs.Packed.{bits_of}
use Rattle.grounding.specs.Changes.{conditional_of}
use Rattle.grounding.specs.Ground.{atoms_in, task_in}
use Rattle.explain_goals.proofs.GrownLemmas.{instance-grown}
use Rattle.explain_goals.proofs.reached.add_by.Goals as goal

pub returns : goal.returns
returns c =
    let g = c.args.ground.now in
    instance-grown (task_in g) (atoms_in g) c.args.number (map conditional_of c.counting.result.now) (bits_of c.args.set.now) (bits_of c.add_changes.new.set) c.add_changes.result
    c.counting.ensures.conditional (sym c.may_apply.ensures ∙ c.if-not-may_apply.false) c.add_changes.ensures
