-- The conjuncts of a conjunction are those of its parts.
use Rattle.std.proofs.Common.{◌≡◌, ◌∙◌, List, [], ◌∷◌, ◌++◌, refl, sym, ap}
use Rattle.std.specs.Global.{Vec}
use Rattle.std.specs.List.{flat_map}
use Rattle.task.specs.declared.schemas.Formula.{Formula}
use Rattle.task.specs.declared.schemas.Formula as formula
use Rattle.task.specs.TaskParts.{formula_of}
use Rattle.formulas.proofs.Trees.{formulas_in, formula_of-And}
use Rattle.symmetries_definitions.specs.Symmetries.{conjuncts, conjuncts_of_all}

conjuncts-list : (parts : List Formula) → conjuncts_of_all (formulas_in parts) ≡ flat_map (λ part. conjuncts (formula_of part)) parts
conjuncts-list [] = refl
conjuncts-list (part ∷ rest) = ap (λ l. conjuncts (formula_of part) ++ l) (conjuncts-list rest)

pub conjuncts_by_parts : (f : Formula) (parts : Vec Formula) (items : List Formula) → f ≡ formula.And parts → items ≡ parts.items
    → flat_map (λ part. conjuncts (formula_of part)) items ≡ conjuncts (formula_of f)
conjuncts_by_parts f parts items is same =
    ap (flat_map (λ part. conjuncts (formula_of part))) same ∙ sym (conjuncts-list parts.items)
    ∙ sym (ap (λ g. conjuncts (formula_of g)) is ∙ ap conjuncts (formula_of-And parts))
