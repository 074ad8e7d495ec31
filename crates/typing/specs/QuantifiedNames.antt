-- The names of quantified variables in the trees of files, in textual order.
use Rattle.std.specs.Prelude.{List, [], ◌++◌, map}
use Rattle.std.specs.List.{flat_map}
use Rattle.model.specs.Task as task
use Rattle.model.specs.Trees.{Action, Domain, Formula, Formulas, Group, Name, Problem, atom, equal, and, or, not, imply, exists, forall, no_formula, more_formulas}
use Rattle.task.specs.VariableNames.{VariableNames}

-- the names that a quantifier declares, as written
abbrev pub declared_names : List Group → List task.Name
declared_names groups = flat_map (λ (g : Group). map (λ (name : Name). name.text) g.names) groups

-- the names in the quantifiers of a formula
abbrev mutual
  pub quantified_names : Formula → List task.Name
  quantified_names (atom a) = []
  quantified_names (equal left right) = []
  quantified_names (and parts) = quantified_names_in_all parts
  quantified_names (or parts) = quantified_names_in_all parts
  quantified_names (not part) = quantified_names part
  quantified_names (imply premise conclusion) = quantified_names premise ++ quantified_names conclusion
  quantified_names (exists groups part) = declared_names groups ++ quantified_names part
  quantified_names (forall groups part) = declared_names groups ++ quantified_names part

  pub quantified_names_in_all : Formulas → List task.Name
  quantified_names_in_all no_formula = []
  quantified_names_in_all (more_formulas first rest) = quantified_names first ++ quantified_names_in_all rest

-- the names in the precondition of each action of the domain, and in the goal of the problem
abbrev pub variable_names : Domain → Problem → VariableNames
variable_names d p = record { actions = map (λ (a : Action). quantified_names a.precondition) d.actions; goal = quantified_names p.goal }
