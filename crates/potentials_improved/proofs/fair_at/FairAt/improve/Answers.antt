use Rattle.std.proofs.Common.{◌∙◌, sym, ap, subst, length}
use Rattle.grounding.specs.declared.ground.Ground.{Ground}
use Rattle.grounding.specs.Ground.{task_in, atoms_in}
use Rattle.lower_bounds.specs.PotentialFunctions.{PotentialFunction}
use Rattle.lower_bounds.specs.FairPotentials.{AreFairAt}
use Rattle.lower_bounds.specs.Settled.{IsImprovedAt}
use Rattle.potentials.specs.Potentials.{potentials_of}
use Rattle.potentials_improved.proofs.fair_at.FairAt.improve.Goals as goal

pub improved-requires-clause-width : goal.improved-requires-clause-width
improved-requires-clause-width g c = c.args.self.width ∙ sym (ap (λ (h : Ground). length (atoms_in h)) c.requires)

pub improved-requires-clause-fair : goal.improved-requires-clause-fair
improved-requires-clause-fair g c = subst (λ (h : Ground). AreFairAt (g.A.Allowance.allowance (task_in h)) (task_in h) (atoms_in h) (potentials_of c.args.self.potentials)) (sym c.requires) c.args.self.fair

pub known-requires-clause-width : goal.known-requires-clause-width
known-requires-clause-width g c = c.in_ok-better.ensures.as_many ∙ c.args.self.width

pub known-requires-clause-fair : goal.known-requires-clause-fair
known-requires-clause-fair g c = subst (λ (h : Ground). AreFairAt (g.A.Allowance.allowance (task_in h)) (task_in h) (atoms_in h) (potentials_of c.in_ok-better.better)) c.requires c.in_ok-better.ensures.fair

pub returns : goal.returns
returns g c =
    let here = c.args.self.ground.now in
    let p = potentials_of c.args.self.potentials in
    record {
      ground = c.known.ensures.ground;
      better = subst (λ (q : PotentialFunction). IsImprovedAt (g.A.Allowance.allowance (task_in here)) (task_in here) (atoms_in here) c.args.rounds p q) (sym c.known.ensures.potentials)
          (subst (λ (h : Ground). IsImprovedAt (g.A.Allowance.allowance (task_in h)) (task_in h) (atoms_in h) c.args.rounds p (potentials_of c.in_ok-better.better)) c.requires c.in_ok-better.ensures);
    }
