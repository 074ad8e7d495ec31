use Rattle.std.proofs.Common.{subst}
use Rattle.grounding.specs.Ground.{task_in, atoms_in}
use Rattle.potentials.specs.Potentials.{potentials_of}
use Rattle.potentials.specs.Fairness.{ReportsAt}
use Rattle.potentials.proofs.FairLemmas.{unfair-instance}
use Rattle.potentials_improved.proofs.fair_at.FairAt.new.Goals as goal

pub known-requires-clause-fair : goal.known-requires-clause-fair
known-requires-clause-fair g c =
    let t = task_in c.args.ground.now in
    subst (ReportsAt (g.A.Allowance.allowance t) t (atoms_in c.args.ground.now) (potentials_of c.args.potentials)) c.in-Fair.is c.in_ok-fairness.ensures

pub returns-in-Fair : goal.returns-in-Fair
returns-in-Fair g c = record { fair = c.known.ensures }

pub returns-in-Instance : goal.returns-in-Instance
returns-in-Instance g c =
    let t = task_in c.args.ground.now in
    let a = atoms_in c.args.ground.now in
    let p = potentials_of c.args.potentials in
    let allowance = g.A.Allowance.allowance t in
    record { fair = unfair-instance t a p allowance _ (subst (ReportsAt allowance t a p) c.in-Instance.is c.in_ok-fairness.ensures) }

pub returns : goal.returns
returns g c =
    let t = task_in c.args.ground.now in
    let a = atoms_in c.args.ground.now in
    let p = potentials_of c.args.potentials in
    record { fair = λ fair. (subst (ReportsAt (g.A.Allowance.allowance t) t a p) c.in-Goal.is c.in_ok-fairness.ensures).1 fair.goals }
