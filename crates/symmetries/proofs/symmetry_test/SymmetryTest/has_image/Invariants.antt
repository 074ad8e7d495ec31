use Rattle.std.proofs.Common.{◌≡◌, false, take}
use Rattle.std.specs.Prelude.{slice_get}
use Rattle.std.specs.List.{list_any}
use Rattle.std.specs.Option.{option_map_or}
use Rattle.task.specs.TaskParts.{formula_of}
use Rattle.symmetries_definitions.specs.Exchanges.{image_of_formula}
use Rattle.symmetries_definitions.specs.SameFormula.{is_same_formula}
use Rattle.symmetries.specs.Exchange.{image}
use Rattle.symmetries.specs.Lent.{formulas_lent}
use Rattle.symmetries.proofs.symmetry_test.SymmetryTest.has_image.Given as goal

-- none of the conjuncts at the indices so far is the image
abbrev pub invariant-loop-place : goal.invariant-loop-place
invariant-loop-place l =
    list_any (λ place. option_map_or (is_same_formula (image_of_formula (image l.exchange) (formula_of l.formula))) (slice_get (formulas_lent l.self.conjuncts.items) place) false) (take l.place-index l.place-items) ≡ false
