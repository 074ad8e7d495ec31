-- An empty conjunction, by the list of its parts.
use Rattle.std.proofs.Common.{◌≡◌, ◌∙◌, false, List, [], ◌∷◌, length, refl, ap, sym, arith}
use Rattle.std.proofs.lemmas.Bool.Decides.{nat_tests}
use Rattle.std.specs.Prelude.{◌==◌}
use Rattle.std.specs.Global.{Vec}
use Rattle.task.specs.declared.schemas.Formula.{Formula}
use Rattle.task.specs.declared.schemas.Formula as formula
use Rattle.task.specs.TaskParts.{formula_of}
use Rattle.formulas.proofs.Trees.{formulas_in, formula_of-And}
use Rattle.model.specs.Task as task
use Rattle.explain_tasks.specs.StartGoal.{is_empty}

empty_list : (parts : List Formula) → (length parts == 0) ≡ is_empty (task.and (formulas_in parts))
empty_list [] = refl
empty_list (part ∷ rest) =
    let no : (length (part ∷ rest) == 0) ≡ false = grind (arith, nat_tests) in
    no

pub empty_by_parts : (f : Formula) (parts : Vec Formula) → f ≡ formula.And parts → (length parts.items == 0) ≡ is_empty (formula_of f)
empty_by_parts f parts is = empty_list parts.items ∙ sym (ap (λ g. is_empty (formula_of g)) is ∙ ap is_empty (formula_of-And parts))
