-- The code's parameters, in the model's terms.
use Rattle.std.specs.Prelude.{ℕ, ◌+◌, List, [], ◌∷◌, map}
use Rattle.std.specs.Borrow.{Bor}
use Rattle.task.specs.declared.schemas.Formula.{Formula}
use Rattle.task.specs.TaskParts.{object_of, formula_of}
use Rattle.grounding_instances.specs.declared.parameters.Parameter.{Parameter}
use Rattle.grounding_instances.specs.Literals.{decided_literals}
use Rattle.model.specs.Task as task
use Rattle.model.specs.Meaning.{objects_of}

-- the objects that a parameter may have, and the literals that become decided with it
pub record Choice : Type 0 where
  pub objects : List ℕ
  pub literals : List task.Formula

-- the borrowed formula
abbrev pub lent_formula : Bor Formula → task.Formula
lent_formula f = formula_of f.now

abbrev pub choice_of : Parameter → Choice
choice_of p = record { objects = map object_of p.objects.items; literals = map lent_formula p.literals.items }

-- The choices of parameters of these types, after a number of earlier parameters, in a schema with this precondition.
abbrev pub choices_from : task.Task → task.Formula → ℕ → List task.Union → List Choice
choices_from t precondition count [] = []
choices_from t precondition count (types ∷ unions) =
    record { objects = objects_of t types; literals = decided_literals (count + 1) precondition } ∷ choices_from t precondition (count + 1) unions

abbrev pub ranges_of : List Choice → List (List ℕ)
ranges_of choices = map (λ (c : Choice). c.objects) choices
