-- The names of quantified variables, part by part.
use Rattle.std.proofs.Common.{◌≡◌, List, [], ◌∷◌, ◌++◌, map, refl, ap, sym, ◌∙◌}
use Rattle.std.proofs.lemmas.List.{map-append}
use Rattle.std.specs.Global.{Vec}
use Rattle.std.specs.List.{flat_map}
use Rattle.pddl_tree.specs.declared.tree.Formula.{Formula}
use Rattle.pddl_tree.specs.declared.tree.Formula as formula
use Rattle.pddl_tree.specs.Tree.{formula_of}
use Rattle.pddl_tree.proofs.Rows.{formula_of-And, formula_of-Or}
use Rattle.typing.specs.QuantifiedNames.{declared_names, quantified_names, quantified_names_in_all}
use Rattle.typing.specs.TypedLists.{declared_of}
use Rattle.typing.specs.declared.typed_lists.Declared.{Declared}
use Rattle.typing.proofs.Found.{map-map}
use Rattle.model.specs.Trees as tree
use Rattle.model.specs.Trees.{TaskFile, formulas}
use Rattle.model.specs.Typing as typing

each_part : (parts : List Formula) → quantified_names_in_all (formulas (map formula_of parts)) ≡ flat_map (λ part. quantified_names (formula_of part)) parts
each_part [] = refl
each_part (part ∷ rest) = ap (λ l. quantified_names (formula_of part) ++ l) (each_part rest)

module _ (f : Formula) (parts : Vec Formula) (items : List Formula) where
  pub names_by_and : f ≡ formula.And parts → items ≡ parts.items → quantified_names (formula_of f) ≡ flat_map (λ part. quantified_names (formula_of part)) items
  names_by_and is same =
      ap (λ g. quantified_names (formula_of g)) is ∙ ap quantified_names (formula_of-And parts) ∙ each_part parts.items
      ∙ ap (flat_map (λ part. quantified_names (formula_of part))) (sym same)

  pub names_by_or : f ≡ formula.Or parts → items ≡ parts.items → quantified_names (formula_of f) ≡ flat_map (λ part. quantified_names (formula_of part)) items
  names_by_or is same =
      ap (λ g. quantified_names (formula_of g)) is ∙ ap quantified_names (formula_of-Or parts) ∙ each_part parts.items
      ∙ ap (flat_map (λ part. quantified_names (formula_of part))) (sym same)

-- ---- the declarations of a quantifier

texts_declared : (file : TaskFile) (groups : List tree.Group) → map (λ (d : typing.Declared). d.name.text) (typing.declared file groups) ≡ declared_names groups
texts_declared file [] = refl
texts_declared file (g ∷ groups) =
    let one : tree.Name → typing.Declared = λ name. record { file = file; name = name; types = g.types } in
    map-append (λ (d : typing.Declared). d.name.text) (map one g.names) (typing.declared file groups)
    ∙ (λ i. map-map (λ (d : typing.Declared). d.name.text) one g.names i ++ texts_declared file groups i)

-- the names of a quantifier's declarations, as written
pub names_declared : (file : TaskFile) (groups : List tree.Group) (declared : List Declared) → map declared_of declared ≡ typing.declared file groups
    → map (λ (d : Declared). d.placed.name.text.now) declared ≡ declared_names groups
names_declared file groups declared is =
    sym (map-map (λ (d : typing.Declared). d.name.text) declared_of declared) ∙ ap (map (λ (d : typing.Declared). d.name.text)) is ∙ texts_declared file groups
