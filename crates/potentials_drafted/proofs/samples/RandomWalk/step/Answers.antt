use Rattle.std.proofs.Common.{◌∙◌, ℕ, List, ap, subst, sym}
use Rattle.std.specs.Prelude.{Contains, is_some}
use Rattle.packed_state.specs.Packed.{bits_of}
use Rattle.grounding.specs.Ground.{task_in, atoms_in}
use Rattle.model.proofs.GroundTaskLemmas.{applicable-Contains}
use Rattle.potentials_drafted.proofs.samples.RandomWalk.step.Goals as goal

pub step_into-requires-clause-applicable : goal.step_into-requires-clause-applicable
step_into-requires-clause-applicable c =
    let number = c.in-Some.number.now in
    let got = c.in-Some.ensures.lookup in
    let among : Contains c.deref.result.now number = (c.below-place.result, got.3.0, sym got.1) in
    let applies = subst (λ (numbers : List ℕ). Contains numbers number) (c.deref.ensures.value ∙ c.in_ok-list_applicable.ensures.ok) among in
    ap is_some (applicable-Contains (task_in c.args.ground.now) (atoms_in c.args.ground.now) (bits_of c.args.self.now.state) number applies).1
