-- The sure literals of a formula outside any `forall`, and the number of variables that must have objects before one of them is
-- decided.
use Rattle.std.specs.Prelude.{ℕ, ◌-◌, Bool, not, ◌&&◌, ◌||◌, ◌==◌, List, [], ◌∷◌, ◌++◌, filter}
use Rattle.model.specs.Task.{Formula, Formulas, and, no_formula, more_formulas}
use Rattle.model.specs.Task as task
use Rattle.model.proofs.EnumerationLemmas.{are_bound}

-- the conjuncts of the formula, under nothing but `and`
abbrev mutual
  pub conjuncts : Formula → List Formula
  conjuncts (and parts) = conjuncts_of_all parts
  conjuncts formula = formula ∷ []

  pub conjuncts_of_all : Formulas → List Formula
  conjuncts_of_all no_formula = []
  conjuncts_of_all (more_formulas first rest) = conjuncts first ++ conjuncts_of_all rest

-- an atom, an equality, or the negation of one, with all variables among the first `count`
abbrev pub is_decided : ℕ → Formula → Bool
is_decided count (task.not part) = are_bound count part
is_decided count formula = are_bound count formula

-- and not already among fewer
abbrev pub is_first_decided : ℕ → Formula → Bool
is_first_decided count formula = is_decided count formula && (count == 0 || not (is_decided (count - 1) formula))

-- the conjuncts of a formula that are decided as soon as the first `count` variables have objects, and not before
abbrev pub decided_literals : ℕ → Formula → List Formula
decided_literals count formula = filter (is_first_decided count) (conjuncts formula)
