use Rattle.std.proofs.Common.{◌≡◌, ◌∙◌, true, false, map, get_or, Some, sym, arith}
use Rattle.task.specs.TaskParts.{formula_of}
use Rattle.formulas.proofs.Pointwise.{pair_fails, pairs_pass, pointwise-both}
use Rattle.symmetries.specs.Exchange.{image}
use Rattle.symmetries.proofs.ImageLemmas.{image_is, pair_passes, image_by_and, image_by_or}
use Rattle.symmetries.proofs.images.+is_image.Goals as goal

pub are_images-returns-then-not-is_image : goal.are_images-returns-then-not-is_image
are_images-returns-then-not-is_image t c =
    let to = image c.args.exchange.now in
    let one = c.index-formulas-place in
    let other = c.index-others-place in
    let said : image_is to (formula_of (get_or c.args.formulas.now c.loop-place.place one.result)) (formula_of (get_or c.args.others.now c.loop-place.place other.result)) ≡ false =
    sym (λ j. image_is to (formula_of (one.is j)) (formula_of (other.is j))) ∙ sym c.is_image.ensures ∙ c.if-not-is_image.true in
    pair_fails (λ f g. image_is to (formula_of f) (formula_of g)) c.args.formulas.now c.args.others.now c.loop-place.place one.result other.result
    c.loop-place-test.true (omega arith) c.loop-place.invariant said
    ∙ sym (pointwise-both (image_is to) formula_of formula_of c.args.formulas.now c.args.others.now)

pub are_images-loop-place-preserved : goal.are_images-loop-place-preserved
are_images-loop-place-preserved t c =
    let to = image c.args.exchange.now in
    let one = c.index-formulas-place in
    let other = c.index-others-place in
    let said : image_is to (formula_of (get_or c.args.formulas.now c.loop-place.place one.result)) (formula_of (get_or c.args.others.now c.loop-place.place other.result)) ≡ true =
    sym (λ j. image_is to (formula_of (one.is j)) (formula_of (other.is j))) ∙ sym c.is_image.ensures ∙ c.if-not-is_image.false in
    pair_passes (λ f g. image_is to (formula_of f) (formula_of g)) c.args.formulas.now c.args.others.now c.loop-place.place one.result other.result
    c.loop-place-test.true (omega arith) c.loop-place.invariant said

pub are_images-returns : goal.are_images-returns
are_images-returns t c =
    let to = image c.args.exchange.now in
    pairs_pass (λ f g. image_is to (formula_of f) (formula_of g)) c.args.formulas.now c.args.others.now c.loop-place.place (omega arith) (omega arith) c.loop-place.invariant
    ∙ sym (pointwise-both (image_is to) formula_of formula_of c.args.formulas.now c.args.others.now)

pub is_image-returns-in-Some : goal.is_image-returns-in-Some
is_image-returns-in-Some t c =
    c.are_images.ensures
    ∙ image_by_and (image c.args.exchange.now) c.args.formula.now (formula_of c.args.other.now) c.in-And.parts c.deref.result.now c.deref.ensures.value
    (Some (map formula_of c.in-Some.others.now)) c.in-And.is c.in-Some.ensures

pub is_image-returns-in-Some-or_parts : goal.is_image-returns-in-Some-or_parts
is_image-returns-in-Some-or_parts t c =
    c.are_images-in-Some-or_parts.ensures
    ∙ image_by_or (image c.args.exchange.now) c.args.formula.now (formula_of c.args.other.now) c.in-Or.parts c.deref-in-Some-or_parts.result.now c.deref-in-Some-or_parts.ensures.value
    (Some (map formula_of c.in-Some-or_parts.others.now)) c.in-Or.is c.in-Some-or_parts.ensures
