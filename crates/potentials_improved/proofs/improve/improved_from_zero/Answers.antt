use Rattle.std.proofs.Common.{◌∙◌, length, subst, sym}
use Rattle.grounding.specs.declared.ground.Ground.{Ground}
use Rattle.grounding.specs.Ground.{task_in, atoms_in}
use Rattle.lower_bounds.specs.FairPotentials.{AreFairAt}
use Rattle.lower_bounds.proofs.Zero.{zero-fair_at}
use Rattle.potentials.specs.Potentials.{potentials_of}
use Rattle.potentials_improved.specs.FairPotentials.{potentials_in, ground_in}
use Rattle.potentials_improved.specs.SettledOrHigh.{AreSettledOrHighAt}
use Rattle.potentials_improved.proofs.FromZeroLemmas.{zero-width, improved_end}
use Rattle.potentials_improved.proofs.improve.improved_from_zero.Goals as goal

pub known-fair-requires-clause-width : goal.known-fair-requires-clause-width
known-fair-requires-clause-width g c = zero-width (potentials_of c.in_ok-zero.zero) (length (atoms_in c.args.ground.now)) c.in_ok-zero.ensures.zero

pub known-fair-requires-clause-fair : goal.known-fair-requires-clause-fair
known-fair-requires-clause-fair g c =
    let t = task_in c.args.ground.now in
    let a = atoms_in c.args.ground.now in
    let allowance = g.A.Allowance.allowance t in
    subst (AreFairAt allowance t a) (sym c.in_ok-zero.ensures.zero) (zero-fair_at allowance t a)

pub improve-requires : goal.improve-requires
improve-requires g c = c.requires ∙ sym c.known-fair.ensures.ground

pub returns-clause-ground : goal.returns-clause-ground
returns-clause-ground g c = c.in_ok-better.ensures.ground ∙ c.known-fair.ensures.ground

pub returns-clause-improved : goal.returns-clause-improved
returns-clause-improved g c =
    let better = c.in_ok-better.better in
    let here = ground_in c.known-fair.result in
    let q = potentials_in better in
    let allowance = λ (h : Ground). g.A.Allowance.allowance (task_in h) in
    let fair = subst (λ (h : Ground). AreFairAt (allowance h) (task_in h) (atoms_in h) q) c.in_ok-better.ensures.ground better.fair in
    subst (λ (h : Ground). AreSettledOrHighAt (allowance h) (task_in h) (atoms_in h) q) c.known-fair.ensures.ground
    (improved_end (allowance here) (task_in here) (atoms_in here) (potentials_in c.known-fair.result) q fair c.in_ok-better.ensures.better)
