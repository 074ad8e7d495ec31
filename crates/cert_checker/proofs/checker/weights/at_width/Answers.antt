use Rattle.std.proofs.Common.{rules, ◌≡◌, ◌∙◌, ◌-◌, ◌++◌, take, replicate, pos, sym, ap, subst, to_z, of_z}
use Rattle.std.specs.Int.{w64}
use Rattle.std.proofs.lemmas.Int.{to_z-of_z}
use Rattle.std.specs.Prelude.{IfSome}
use Rattle.lower_bounds.specs.PotentialFunctions.{PotentialFunction}
use Rattle.certificate.specs.Evidence.{potential_of}
use Rattle.potentials.specs.Potentials.{potentials_of}
use Rattle.cert_checker.specs.Weights.{HasItsWeights}
use Rattle.cert_checker.proofs.WeightsLemmas.{widened, widened_in_range}
use Rattle.cert_checker.proofs.checker.weights.at_width.Goals as goal
use Rattle.cert_checker.proofs.checker.weights.at_width.Goals.{After-new}

abbrev said : After-new → PotentialFunction
said c = potential_of c.args.said.now

abbrev made : After-new → PotentialFunction
made c = record { constant = to_z w64 (of_z w64 c.args.said.now.constant); weights = c.resize.new.self.items }

-- they have the weights that are said
has : (c : After-new) → HasItsWeights (said c) c.args.width (made c)
has c =
    let weights = c.in_ok-weights.weights in
    let within = c.requires.range.constant in
    widened (said c) c.args.width (made c) weights.items c.requires.enough (c.in_ok-weights.ensures.items ∙ c.deref.ensures.value)
    (to_z-of_z w64 c.args.said.now.constant (search (rules, within.least, within.most)))
    (c.in_ok-resize.ensures.items ∙ ap (λ l. take c.args.width weights.items ++ replicate (c.args.width - l) (pos 0)) weights.ok.0)

pub unwrap-requires : goal.unwrap-requires
unwrap-requires c =
    let made_here = (goal.at.unwrap-requires c).After-new in
    c.new.ensures.in_range.1 (widened_in_range (said made_here) c.args.width (made made_here) c.requires.range (has made_here))

pub returns : goal.returns
returns c =
    let made_here = (goal.at.returns c).After-new in
    let given = subst (λ o. IfSome o (λ p. potentials_of p ≡ made made_here)) c.unwrap.ensures c.new.ensures.given in
    subst (HasItsWeights (said made_here) c.args.width) (sym given) (has made_here)
