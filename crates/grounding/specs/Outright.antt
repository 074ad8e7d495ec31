-- Formulas that are equivalent to their sure literals.
use Rattle.std.specs.Prelude.{Bool, true, false, ◌&&◌}
use Rattle.model.specs.Task.{Formula, Formulas, atom, equal, and, not, forall, no_formula, more_formulas}

-- an atom or an equality
abbrev pub is_simple : Formula → Bool
is_simple (atom a) = true
is_simple (equal t u) = true
is_simple _ = false

-- built by `and` and `forall` alone from atoms, equalities and negations of these
abbrev mutual
  pub is_outright : Formula → Bool
  is_outright (atom a) = true
  is_outright (equal t u) = true
  is_outright (not part) = is_simple part
  is_outright (and parts) = all_are_outright parts
  is_outright (forall types part) = is_outright part
  is_outright _ = false

  pub all_are_outright : Formulas → Bool
  all_are_outright no_formula = true
  all_are_outright (more_formulas first rest) = is_outright first && all_are_outright rest
