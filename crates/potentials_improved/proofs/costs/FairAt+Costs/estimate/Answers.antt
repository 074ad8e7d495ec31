use Rattle.std.proofs.Common.{◌≤◌, ◌∙◌, subst, sym}
use Rattle.packed_state.specs.Packed.{bits_of}
use Rattle.grounding.specs.Ground.{task_in, atoms_in}
use Rattle.model.specs.Runs.{cost_of_all}
use Rattle.model.specs.Grounding.{ground_system}
use Rattle.lower_bounds.proofs.PotentialLowerBound.{are_lower_bounds}
use Rattle.potentials.specs.Potentials.{potentials_of}
use Rattle.potentials.proofs.GroundLemmas.{numberable}
use Rattle.potentials_improved.proofs.costs.FairAt+Costs.estimate.Goals as goal

pub value-requires : goal.value-requires
value-requires c = c.requires ∙ sym c.args.self.now.width

pub returns-clause-laws : goal.returns-clause-laws
returns-clause-laws c =
    let f = c.args.self.now in
    are_lower_bounds (task_in f.ground.now) (atoms_in f.ground.now) (potentials_of f.potentials) (numberable f.ground.now) f.fair

pub returns-clause-bound : goal.returns-clause-bound
returns-clause-bound c = λ end plan runs met.
    let f = c.args.self.now in
    let bounds = are_lower_bounds (task_in f.ground.now) (atoms_in f.ground.now) (potentials_of f.potentials) (numberable f.ground.now) f.fair in
    subst (λ r. r ≤ cost_of_all (ground_system (task_in f.ground.now) (atoms_in f.ground.now)) plan) (sym c.value.ensures)
    (bounds.ground_bound (bits_of c.args.state.now) end plan c.requires runs met)
