-- The names of quantified variables that are left over after those of a formula.
use Rattle.std.specs.Prelude.{List, [], ◌∷◌, drop}
use Rattle.model.specs.Task.{Name, Formula, Formulas, atom, equal, and, or, not, imply, exists, forall, no_formula, more_formulas}

-- The names left over after those of a formula's variables, which come first.
abbrev mutual
  pub names_left : Formula → List Name → List Name
  names_left (atom a) names = names
  names_left (equal left right) names = names
  names_left (and parts) names = after_all_lines parts names
  names_left (or parts) names = after_all_lines parts names
  names_left (not part) names = names_left part names
  names_left (imply premise conclusion) names = names_left conclusion (names_left premise names)
  names_left (exists types part) names = names_left part (drop 1 names)
  names_left (forall types part) names = names_left part (drop 1 names)

  pub after_all_lines : Formulas → List Name → List Name
  after_all_lines no_formula names = names
  after_all_lines (more_formulas first rest) names = after_all_lines rest (names_left first names)

-- formulas from a list
abbrev pub formulas : List Formula → Formulas
formulas [] = no_formula
formulas (first ∷ rest) = more_formulas first (formulas rest)
