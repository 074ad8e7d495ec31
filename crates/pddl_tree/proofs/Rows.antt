-- The parts of a formula or an effect as lists.
use Rattle.std.proofs.Common.{◌≡◌, map, refl, ◌∙◌, ap}
use Rattle.std.specs.Global.{Vec}
use mathlib.Core.Former.{Count}
use Rattle.pddl_tree.specs.declared.tree.Formula.{Formula, And', Or', Row_of-Formula, end_of-Formula, more_of-Formula, items-the_row-Formula, items_hidden-the_row-Formula-0}
use Rattle.pddl_tree.specs.declared.tree.Formula as formula
use Rattle.pddl_tree.specs.declared.tree.Effect.{Effect, Row_of-Effect, end_of-Effect, more_of-Effect, items-the_row-Effect, items_hidden-the_row-Effect-0}
use Rattle.pddl_tree.specs.declared.tree.Effect as effect
use Rattle.pddl_tree.specs.Tree.{formula_of, formulas_of, effect_of, effects_of}
use Rattle.model.specs.Trees.{formulas, effects}
use Rattle.model.specs.Trees as tree

formulas_row : (n : _) (row : Row_of-Formula n) → formulas_of row ≡ formulas (map formula_of (items-the_row-Formula n row))
formulas_row n end_of-Formula = refl
formulas_row n (more_of-Formula part rest) = ap (tree.more_formulas (formula_of part)) (formulas_row _ rest)

abbrev formula_row : Formula → (n : Count) × Row_of-Formula n
formula_row (formula.And' _ row) = (_, row)
formula_row (formula.Or' _ row) = (_, row)
formula_row _ = (_, end_of-Formula)

pub formula_of-And : (parts : Vec Formula) → formula_of (formula.And parts) ≡ tree.and (formulas (map formula_of parts.items))
formula_of-And parts =
    let row = formula_row (formula.And parts) in
    ap tree.and (formulas_row row.0 row.1 ∙ ap (λ fs. formulas (map formula_of fs)) (items_hidden-the_row-Formula-0 parts))

pub formula_of-Or : (parts : Vec Formula) → formula_of (formula.Or parts) ≡ tree.or (formulas (map formula_of parts.items))
formula_of-Or parts =
    let row = formula_row (formula.Or parts) in
    ap tree.or (formulas_row row.0 row.1 ∙ ap (λ fs. formulas (map formula_of fs)) (items_hidden-the_row-Formula-0 parts))

effects_row : (n : _) (row : Row_of-Effect n) → effects_of row ≡ effects (map effect_of (items-the_row-Effect n row))
effects_row n end_of-Effect = refl
effects_row n (more_of-Effect part rest) = ap (tree.more_effects (effect_of part)) (effects_row _ rest)

abbrev effect_row : Effect → (n : Count) × Row_of-Effect n
effect_row (effect.And' _ row) = (_, row)
effect_row _ = (_, end_of-Effect)

pub effect_of-And : (parts : Vec Effect) → effect_of (effect.And parts) ≡ tree.both (effects (map effect_of parts.items))
effect_of-And parts =
    let row = effect_row (effect.And parts) in
    ap tree.both (effects_row row.0 row.1 ∙ ap (λ es. effects (map effect_of es)) (items_hidden-the_row-Effect-0 parts))
