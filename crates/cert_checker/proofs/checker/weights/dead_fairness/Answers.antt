use Rattle.std.proofs.Common.{rules, ◌≡◌, ◌∙◌, pos, sym, subst}
use Rattle.std.specs.Prelude.{All}
use Rattle.grounding.specs.Ground.{task_in, atoms_in}
use Rattle.potentials.specs.Potentials.{potentials_of}
use Rattle.cert_checker.proofs.WeightsLemmas.{zero_reported}
use Rattle.cert_checker.proofs.checker.weights.dead_fairness.Goals as goal

pub returns-then-are_zero : goal.returns-then-are_zero
returns-then-are_zero c =
    let constant : c.constant.result ≡ pos 0 = search rules in
    zero_reported (task_in c.args.grounded.now) (atoms_in c.args.grounded.now) (potentials_of c.args.potentials.now) c.requires (sym c.constant.ensures ∙ constant)
    (subst (All (λ w. w ≡ pos 0)) c.weights.ensures (c.are_zero.ensures.0 c.if-are_zero.true))
