use Rattle.std.proofs.Common.{All, rules, subst, pos, ◌≤ℤ◌}
use Rattle.potentials.specs.Potentials.{potentials_of}
use Rattle.potentials_improved.proofs.EstimateLemmas.{none-reported}
use Rattle.potentials_improved.proofs.fair_at.are_all_zero.Goals as goal

pub returns-then-constant-le0 : goal.returns-then-constant-le0
returns-then-constant-le0 c = λ at_most.
    let constant : c.constant.result ≤ℤ pos 0 = search rules in
    none-reported (potentials_of c.args.potentials.now) (subst (λ z. z ≤ℤ pos 0) c.constant.ensures constant)
    (subst (All (λ w. w ≤ℤ pos 0)) c.weights.ensures (c.are_at_most_zero.ensures.0 at_most))
