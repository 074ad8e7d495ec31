-- Conjunctions and disjunctions by the lists of their parts.
use Rattle.std.specs.Prelude.{◌≡◌, ℕ, ◌+◌, ◌<◌, List, [], ◌∷◌, drop, get_or, length, map, refl}
use Rattle.std.proofs.Common.{ap, sym, ◌∙◌}
use Rattle.std.proofs.lemmas.List.{at_drop_more}
use Rattle.std.specs.Global.{Vec}
use Rattle.task.specs.declared.schemas.Formula.{Formula}
use Rattle.task.specs.declared.schemas.Formula as formula
use Rattle.task.specs.TaskParts.{formula_of}
use Rattle.formulas.proofs.Trees.{formulas_in, formula_of-And, formula_of-Or}
use Rattle.explain_plans.specs.NamesLeft.{formulas}
use Rattle.model.specs.Task as task

in_a_list : (parts : List Formula) → formulas_in parts ≡ formulas (map formula_of parts)
in_a_list [] = refl
in_a_list (part ∷ rest) = ap (task.more_formulas (formula_of part)) (in_a_list rest)

-- the remaining parts, of which this is the first
pub next_left : {Y : Type 0} (F : List Formula → Y) (parts : List Formula) (i : ℕ) (part : Formula) → i < length parts → part ≡ get_or parts i part
    → F (drop i parts) ≡ F (part ∷ drop (i + 1) parts)
next_left F parts i part lt at = at_drop_more F parts i part lt ∙ ap (λ x. F (x ∷ drop (i + 1) parts)) (sym at)

module _ (f : Formula) (parts : Vec Formula) (items : List Formula) where
  pub conjunction : f ≡ formula.And parts → items ≡ parts.items → formula_of f ≡ task.and (formulas (map formula_of items))
  conjunction is same =
      ap formula_of is ∙ formula_of-And parts ∙ ap task.and (in_a_list parts.items) ∙ ap (λ l. task.and (formulas (map formula_of l))) (sym same)

  pub disjunction : f ≡ formula.Or parts → items ≡ parts.items → formula_of f ≡ task.or (formulas (map formula_of items))
  disjunction is same =
      ap formula_of is ∙ formula_of-Or parts ∙ ap task.or (in_a_list parts.items) ∙ ap (λ l. task.or (formulas (map formula_of l))) (sym same)
