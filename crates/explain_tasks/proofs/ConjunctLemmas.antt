-- Conjuncts and sure literals, part by part.
use Rattle.std.proofs.Common.{◌≡◌, ◌∙◌, Bool, ◌||◌, List, [], ◌∷◌, refl, ap, sym}
use Rattle.std.specs.Global.{Vec}
use Rattle.std.specs.List.{list_any}
use Rattle.task.specs.declared.schemas.Effect.{Effect}
use Rattle.task.specs.declared.schemas.Effect as effect
use Rattle.task.specs.declared.schemas.Formula.{Formula}
use Rattle.task.specs.declared.schemas.Formula as formula
use Rattle.task.specs.TaskParts.{effect_of, formula_of}
use Rattle.formulas.proofs.Trees.{effects_in, effect_of-And, formulas_in, formula_of-And}
use Rattle.model.specs.Task as task
use Rattle.explain_tasks.specs.Conjuncts.{has_conjunct, has_sure_literal, some_has_conjunct, some_has_sure_literal}

some_has_conjunct-list : (test : task.Formula → Bool) (parts : List Formula) → some_has_conjunct test (formulas_in parts) ≡ list_any (λ part. has_conjunct test (formula_of part)) parts
some_has_conjunct-list test [] = refl
some_has_conjunct-list test (part ∷ rest) = ap (λ b. has_conjunct test (formula_of part) || b) (some_has_conjunct-list test rest)

pub has_conjunct_by_parts : (test : task.Formula → Bool) (f : Formula) (parts : Vec Formula) (items : List Formula) → f ≡ formula.And parts → items ≡ parts.items
    → has_conjunct test (formula_of f) ≡ list_any (λ part. has_conjunct test (formula_of part)) items
has_conjunct_by_parts test f parts items is same =
    ap (λ x. has_conjunct test (formula_of x)) is ∙ ap (has_conjunct test) (formula_of-And parts) ∙ some_has_conjunct-list test parts.items
    ∙ ap (list_any (λ part. has_conjunct test (formula_of part))) (sym same)

some_has_sure_literal-list : (test : task.EffectLiteral → Bool) (parts : List Effect) → some_has_sure_literal test (effects_in parts) ≡ list_any (λ part. has_sure_literal test (effect_of part)) parts
some_has_sure_literal-list test [] = refl
some_has_sure_literal-list test (part ∷ rest) = ap (λ b. has_sure_literal test (effect_of part) || b) (some_has_sure_literal-list test rest)

pub has_sure_literal_by_parts : (test : task.EffectLiteral → Bool) (e : Effect) (parts : Vec Effect) (items : List Effect) → e ≡ effect.And parts → items ≡ parts.items
    → has_sure_literal test (effect_of e) ≡ list_any (λ part. has_sure_literal test (effect_of part)) items
has_sure_literal_by_parts test e parts items is same =
    ap (λ x. has_sure_literal test (effect_of x)) is ∙ ap (has_sure_literal test) (effect_of-And parts) ∙ some_has_sure_literal-list test parts.items
    ∙ ap (list_any (λ part. has_sure_literal test (effect_of part))) (sym same)
