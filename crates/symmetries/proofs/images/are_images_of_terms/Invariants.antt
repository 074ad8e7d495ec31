use Rattle.std.proofs.Common.{◌≡◌, drop}
use Rattle.std.specs.Cmp.Lexicographic.{pointwise}
use Rattle.task.specs.TaskParts.{term_of}
use Rattle.symmetries_definitions.specs.Exchanges.{image_of_term}
use Rattle.symmetries_definitions.specs.SameFormula.{is_same_term}
use Rattle.symmetries.specs.Exchange.{image}
use Rattle.symmetries.proofs.images.are_images_of_terms.Given as goal

-- the remaining terms decide
abbrev pub invariant-loop-place : goal.invariant-loop-place
invariant-loop-place l =
    pointwise (λ t u. is_same_term (image_of_term (image l.exchange) (term_of t)) (term_of u)) (drop l.place l.terms) (drop l.place l.others)
    ≡ pointwise (λ t u. is_same_term (image_of_term (image l.exchange) (term_of t)) (term_of u)) l.terms l.others
