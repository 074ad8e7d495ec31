use Rattle.symmetries.specs.Lent.{formulas_lent}
use Rattle.symmetries.proofs.PlaceLemmas.{IndexesBelow}
use Rattle.symmetries.proofs.places.PlacesByObject.of_formulas.Given as goal

-- the formulas so far are found
abbrev pub invariant-loop-place : goal.invariant-loop-place
invariant-loop-place l = IndexesBelow (formulas_lent l.formulas) l.place l.places
