use Rattle.std.proofs.Common.{◌∙◌, sym, arith}
use Rattle.task.specs.declared.atoms.Term.{Term}
use Rattle.task.specs.declared.atoms.Term.TheVariants.{Variable}
use Rattle.task.specs.TaskParts.{term_of}
use Rattle.formulas.proofs.Pointwise.{pair_fails, pairs_pass}
use Rattle.symmetries_definitions.specs.Exchanges.{image_of_term}
use Rattle.symmetries_definitions.specs.SameFormula.{is_same_term}
use Rattle.symmetries.specs.Exchange.{image}
use Rattle.symmetries.proofs.ImageLemmas.{pair_passes, pointwise-map}
use Rattle.symmetries.proofs.images.are_images_of_terms.Goals as goal

pub returns-then-not-is_image_of_term : goal.returns-then-not-is_image_of_term
returns-then-not-is_image_of_term c =
    let to = image c.args.exchange.now in
    let d : Term = Variable record { 0 = 0 } in
    pair_fails (λ t u. is_same_term (image_of_term to (term_of t)) (term_of u)) c.args.terms.now c.args.others.now c.loop-place.place d d
    c.loop-place-test.true (omega arith) c.loop-place.invariant (sym c.is_image_of_term.ensures ∙ c.if-not-is_image_of_term.true)
    ∙ sym (pointwise-map is_same_term term_of (image_of_term to) term_of c.args.terms.now c.args.others.now)

pub loop-place-preserved : goal.loop-place-preserved
loop-place-preserved c =
    let to = image c.args.exchange.now in
    let d : Term = Variable record { 0 = 0 } in
    pair_passes (λ t u. is_same_term (image_of_term to (term_of t)) (term_of u)) c.args.terms.now c.args.others.now c.loop-place.place d d
    c.loop-place-test.true (omega arith) c.loop-place.invariant (sym c.is_image_of_term.ensures ∙ c.if-not-is_image_of_term.false)

pub returns : goal.returns
returns c =
    let to = image c.args.exchange.now in
    pairs_pass (λ t u. is_same_term (image_of_term to (term_of t)) (term_of u)) c.args.terms.now c.args.others.now c.loop-place.place
    (omega arith) (omega arith) c.loop-place.invariant
    ∙ sym (pointwise-map is_same_term term_of (image_of_term to) term_of c.args.terms.now c.args.others.now)
