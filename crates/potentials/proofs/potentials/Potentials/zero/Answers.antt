use Rattle.std.proofs.Common.{◌∙◌, subst, sym, ap, pos}
use Rattle.std.specs.Prelude.{All, replicate}
use Rattle.grounding.specs.Ground.{task_in, atoms_in}
use Rattle.lower_bounds.specs.PotentialFunctions.{IsInRange}
use Rattle.lower_bounds.specs.FairPotentials.{AreFair}
use Rattle.lower_bounds.proofs.Ranges.{zero-range}
use Rattle.lower_bounds.proofs.Settling.{potentials}
use Rattle.lower_bounds.proofs.Zero.{zero-fair, zeros-range}
use Rattle.potentials.proofs.potentials.Potentials.zero.Goals as goal

pub invariant_of-result : goal.invariant_of-result
invariant_of-result c = record {
  constant_in_range = zero-range;
  weights_in_range = subst (All IsInRange) (sym (c.in_ok-weights.ensures.items_if_clones_equal (λ y is. is))) (zeros-range c.width.result);
}

pub returns-clause-fair : goal.returns-clause-fair
returns-clause-fair c =
    let t = task_in c.args.ground.now in
    let a = atoms_in c.args.ground.now in
    subst (λ ws. AreFair t a (potentials (pos 0) ws)) (sym (c.in_ok-weights.ensures.items_if_clones_equal (λ y is. is) ∙ ap (λ n. replicate n (pos 0)) c.width.ensures)) (zero-fair t a)
