use Rattle.std.proofs.Common.{◌≡◌, drop}
use Rattle.std.specs.Cmp.Lexicographic.{pointwise}
use Rattle.task.specs.TaskParts.{formula_of}
use Rattle.symmetries.specs.Exchange.{image}
use Rattle.symmetries.proofs.ImageLemmas.{image_is}
use Rattle.symmetries.proofs.images.+is_image.Given as goal

-- the remaining formulas decide
abbrev pub invariant-are_images-loop-place : goal.invariant-are_images-loop-place
invariant-are_images-loop-place l =
    pointwise (λ f g. image_is (image l.exchange) (formula_of f) (formula_of g)) (drop l.place l.formulas) (drop l.place l.others)
    ≡ pointwise (λ f g. image_is (image l.exchange) (formula_of f) (formula_of g)) l.formulas l.others
