-- Borrowed formulas, in the model's terms.
use Rattle.std.specs.Prelude.{◌≡◌, Bool, List, [], ◌∷◌, map, Option, None, Some}
use Rattle.std.specs.List.{list_all, list_any}
use Rattle.std.specs.Borrow.{Bor}
use Rattle.task.specs.declared.schemas.Formula.{Formula}
use Rattle.task.specs.TaskParts.{formula_of}
use Rattle.model.specs.Task as task

abbrev pub lent_formula : Bor Formula → task.Formula
lent_formula f = formula_of f.now

abbrev pub slice_formulas : Bor (List Formula) → List task.Formula
slice_formulas formulas = map formula_of formulas.now

-- the formulas as a list
abbrev pub listed : task.Formulas → List task.Formula
listed task.no_formula = []
listed (task.more_formulas first rest) = first ∷ listed rest

abbrev pub formulas_lent : List (Bor Formula) → List task.Formula
formulas_lent formulas = map lent_formula formulas

-- Both lists contain the same formulas, for any test.
abbrev pub PassAlike : List task.Formula → List task.Formula → Type 0
PassAlike one other = (p : task.Formula → Bool) → (list_all p one ≡ list_all p other) × (list_any p one ≡ list_any p other)

-- the parts of an `and`, and of an `or`
abbrev pub and_parts : task.Formula → Option (List task.Formula)
and_parts (task.and parts) = Some (listed parts)
and_parts other = None

abbrev pub or_parts : task.Formula → Option (List task.Formula)
or_parts (task.or parts) = Some (listed parts)
or_parts other = None
