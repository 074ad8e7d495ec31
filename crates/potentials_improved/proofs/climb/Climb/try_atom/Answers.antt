use Rattle.std.proofs.Common.{◌≡◌, subst, arith, pos, ℤ, ◌+ℤ◌, ◌-ℤ◌, neg_ℤ, to_z, of_z}
use Rattle.std.specs.Int.{w64}
use Rattle.std.proofs.lemmas.Int.{ints}
use Rattle.grounding.specs.Ground.{task_in, atoms_in}
use Rattle.potentials_improved.specs.Climb.{IsWeightTried}
use Rattle.potentials_improved.proofs.ClimbLemmas.{atom-first, atom-second}
use Rattle.potentials_improved.proofs.climb.Climb.try_atom.Goals as goal

pub weight-old-requires : goal.weight-old-requires
weight-old-requires g c = omega (arith, c.requires.within, c.requires.climb.width)

pub returns-then-try_weight : goal.returns-then-try_weight
returns-then-try_weight g c =
    let t = task_in c.args.groundwork.now.ground.now in
    let a = atoms_in c.args.groundwork.now.ground.now in
    atom-first (g.A.Allowance.allowance t) t a c.args.self.now c.try_weight.new.self c.args.atom _
    (subst (λ b. IsWeightTried (g.A.Allowance.allowance t) t a c.args.self.now c.try_weight.new.self c.args.atom (to_z w64 (of_z w64 (to_z w64 (of_z w64 c.weight-old.result) -ℤ pos 1))) b) c.if-try_weight.true c.try_weight.ensures)

pub try_weight-requires-2-clause-climb : goal.try_weight-requires-2-clause-climb
try_weight-requires-2-clause-climb g c = c.try_weight.ensures.climb

pub returns : goal.returns
returns g c =
    let t = task_in c.args.groundwork.now.ground.now in
    let a = atoms_in c.args.groundwork.now.ground.now in
    let old = c.args.self.now in
    let mid = c.try_weight.new.self in
    let new = c.try_weight-2.new.self in
    let w : ℤ = c.weight-old.result in
    let range = c.weight-old.ensures.range in
    let low = range.least in
    let high = range.most in
    let less : to_z w64 (of_z w64 (to_z w64 (of_z w64 w) -ℤ pos 1)) ≡ (w +ℤ neg_ℤ (pos 1)) = omega (arith, ints) in
    let more : to_z w64 (of_z w64 (to_z w64 (of_z w64 w) +ℤ pos 1)) ≡ (w +ℤ pos 1) = omega (arith, ints) in
    atom-second (g.A.Allowance.allowance t) t a old mid new c.args.atom _ _ w c.try_weight-2.result c.weight-old.ensures.value less more
    (subst (λ b. IsWeightTried (g.A.Allowance.allowance t) t a old mid c.args.atom (to_z w64 (of_z w64 (to_z w64 (of_z w64 w) -ℤ pos 1))) b) c.if-try_weight.false c.try_weight.ensures) c.try_weight-2.ensures
