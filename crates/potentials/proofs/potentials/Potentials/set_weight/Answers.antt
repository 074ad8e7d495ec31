use Rattle.std.proofs.Common.{sym, ap, subst, set}
use Rattle.std.specs.Prelude.{All}
use Rattle.std.specs.Int.{w64}
use Rattle.std.proofs.lemmas.Int.{to_z-of_z}
use Rattle.lower_bounds.specs.PotentialFunctions.{IsInRange}
use Rattle.lower_bounds.proofs.Settling.{set-range, potentials}
use Rattle.potentials.proofs.potentials.Potentials.set_weight.Goals as goal

pub invariant_of-self : goal.invariant_of-self
invariant_of-self c =
    let p = c.args.self.now in
    record {
      constant_in_range = p.constant_in_range;
      weights_in_range = subst (All IsInRange) (ap (set p.weights.items c.args.number) (sym (to_z-of_z w64 c.args.weight c.ranges.weight))) (set-range p.weights.items c.args.number c.args.weight p.weights_in_range c.requires.range);
    }

pub returns : goal.returns
returns c =
    let p = c.args.self.now in
    ap (λ w. potentials p.constant (set p.weights.items c.args.number w)) (to_z-of_z w64 c.args.weight c.ranges.weight)
