use Rattle.std.proofs.Common.{sym, ap, subst}
use Rattle.std.specs.Int.{w64}
use Rattle.std.proofs.lemmas.Int.{to_z-of_z}
use Rattle.lower_bounds.specs.PotentialFunctions.{IsInRange}
use Rattle.lower_bounds.proofs.Settling.{potentials}
use Rattle.potentials.proofs.potentials.Potentials.set_constant.Goals as goal

pub invariant_of-self : goal.invariant_of-self
invariant_of-self c =
    let p = c.args.self.now in
    record {
      constant_in_range = subst IsInRange (sym (to_z-of_z w64 c.args.constant c.ranges.constant)) c.requires;
      weights_in_range = p.weights_in_range;
    }

pub returns : goal.returns
returns c =
    let p = c.args.self.now in
    ap (λ k. potentials k p.weights.items) (to_z-of_z w64 c.args.constant c.ranges.constant)
