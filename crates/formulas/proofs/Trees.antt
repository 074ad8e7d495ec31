-- The parts of formulas and effects as lists, and their meaning part by part.
use Rattle.std.specs.Prelude.{◌≡◌, ℕ, Bool, true, ◌&&◌, ◌||◌, List, [], ◌∷◌, ◌++◌, map, IsTrue, refl}
use Rattle.std.proofs.Common.{sym, ◌∙◌, ap}
use Rattle.std.specs.Global.{Vec}
use Rattle.std.specs.List.{list_all, list_any, flat_map}
use mathlib.Core.Former.{Count}
use Rattle.task.specs.declared.schemas.Formula.{Formula, Row_of-Formula, end_of-Formula, more_of-Formula, items-the_row-Formula, items_hidden-the_row-Formula-0}
use Rattle.task.specs.declared.schemas.Formula as formula
use Rattle.task.specs.declared.schemas.Effect.{Effect, Row_of-Effect, end_of-Effect, more_of-Effect, items-the_row-Effect, items_hidden-the_row-Effect-0}
use Rattle.task.specs.declared.schemas.Effect as effect
use Rattle.task.specs.TaskParts.{formula_of, formulas_of, effect_of, effects_of}
use Rattle.model.specs.Task as task
use Rattle.model.specs.WellTyped.{is_formula, are_formulas, is_effect, are_effects}
use Rattle.model.specs.Meaning.{State, holds, all_hold, some_holds, changes_of, changes_of_all}
use Rattle.model.specs.SureLiterals.{sure, all_sure}

-- ---- formulas

abbrev pub formulas_in : List Formula → task.Formulas
formulas_in [] = task.no_formula
formulas_in (part ∷ rest) = task.more_formulas (formula_of part) (formulas_in rest)

formulas_row : (n : _) (row : Row_of-Formula n) → formulas_of row ≡ formulas_in (items-the_row-Formula n row)
formulas_row n end_of-Formula = refl
formulas_row n (more_of-Formula part rest) = ap (task.more_formulas (formula_of part)) (formulas_row _ rest)

abbrev formula_row : Formula → (n : Count) × Row_of-Formula n
formula_row (formula.And' _ row) = (_, row)
formula_row (formula.Or' _ row) = (_, row)
formula_row _ = (_, end_of-Formula)

pub formula_of-And : (parts : Vec Formula) → formula_of (formula.And parts) ≡ task.and (formulas_in parts.items)
formula_of-And parts =
    let row = formula_row (formula.And parts) in
    ap task.and (formulas_row row.0 row.1 ∙ ap formulas_in (items_hidden-the_row-Formula-0 parts))

pub formula_of-Or : (parts : Vec Formula) → formula_of (formula.Or parts) ≡ task.or (formulas_in parts.items)
formula_of-Or parts =
    let row = formula_row (formula.Or parts) in
    ap task.or (formulas_row row.0 row.1 ∙ ap formulas_in (items_hidden-the_row-Formula-0 parts))

all_hold-list : (t : task.Task) (binding : List ℕ) (s : State) (parts : List Formula) → all_hold t (formulas_in parts) binding s ≡ list_all (λ part. holds t part binding s) (map formula_of parts)
all_hold-list t binding s [] = refl
all_hold-list t binding s (part ∷ rest) = ap (λ b. holds t (formula_of part) binding s && b) (all_hold-list t binding s rest)

pub list_any_map : {X Y : Type 0} (p : Y → Bool) (f : X → Y) (xs : List X) → list_any p (map f xs) ≡ list_any (λ x. p (f x)) xs
list_any_map p f [] = refl
list_any_map p f (x ∷ xs) = ap (λ b. p (f x) || b) (list_any_map p f xs)

some_holds-list : (t : task.Task) (binding : List ℕ) (s : State) (parts : List Formula) → some_holds t (formulas_in parts) binding s ≡ list_any (λ part. holds t part binding s) (map formula_of parts)
some_holds-list t binding s [] = refl
some_holds-list t binding s (part ∷ rest) = ap (λ b. holds t (formula_of part) binding s || b) (some_holds-list t binding s rest)

are_formulas-list : (t : task.Task) (scope : List task.Union) (parts : List Formula) → are_formulas t scope (formulas_in parts) ≡ list_all (is_formula t scope) (map formula_of parts)
are_formulas-list t scope [] = refl
are_formulas-list t scope (part ∷ rest) = ap (λ b. is_formula t scope (formula_of part) && b) (are_formulas-list t scope rest)

all_sure-list : (t : task.Task) (binding : List ℕ) (parts : List Formula) → all_sure t (formulas_in parts) binding ≡ flat_map (λ part. sure t (formula_of part) binding) parts
all_sure-list t binding [] = refl
all_sure-list t binding (part ∷ rest) = ap (λ l. sure t (formula_of part) binding ++ l) (all_sure-list t binding rest)

-- a conjunction, by the list of its parts
module _ (f : Formula) (parts : Vec Formula) (items : List Formula) (is : f ≡ formula.And parts) (same : items ≡ parts.items) where
  conjunction : formula_of f ≡ task.and (formulas_in items)
  conjunction = ap formula_of is ∙ formula_of-And parts ∙ ap (λ l. task.and (formulas_in l)) (sym same)

  pub holds_by_all : (t : task.Task) (binding : List ℕ) (s : State) → holds t (formula_of f) binding s ≡ list_all (λ part. holds t part binding s) (map formula_of items)
  holds_by_all t binding s = ap (λ g. holds t g binding s) conjunction ∙ all_hold-list t binding s items

  pub typed_by_all : (t : task.Task) (scope : List task.Union) → IsTrue (is_formula t scope (formula_of f)) → IsTrue (list_all (is_formula t scope) (map formula_of items))
  typed_by_all t scope typed = sym (ap (is_formula t scope) conjunction ∙ are_formulas-list t scope items) ∙ typed

  pub sure_by_parts : (t : task.Task) (binding : List ℕ) → sure t (formula_of f) binding ≡ flat_map (λ part. sure t (formula_of part) binding) items
  sure_by_parts t binding = ap (λ g. sure t g binding) conjunction ∙ all_sure-list t binding items

-- and a disjunction
module _ (f : Formula) (parts : Vec Formula) (items : List Formula) (is : f ≡ formula.Or parts) (same : items ≡ parts.items) where
  disjunction : formula_of f ≡ task.or (formulas_in items)
  disjunction = ap formula_of is ∙ formula_of-Or parts ∙ ap (λ l. task.or (formulas_in l)) (sym same)

  pub holds_by_some : (t : task.Task) (binding : List ℕ) (s : State) → holds t (formula_of f) binding s ≡ list_any (λ part. holds t part binding s) (map formula_of items)
  holds_by_some t binding s = ap (λ g. holds t g binding s) disjunction ∙ some_holds-list t binding s items

  pub typed_by_some : (t : task.Task) (scope : List task.Union) → IsTrue (is_formula t scope (formula_of f)) → IsTrue (list_all (is_formula t scope) (map formula_of items))
  typed_by_some t scope typed = sym (ap (is_formula t scope) disjunction ∙ are_formulas-list t scope items) ∙ typed

-- ---- effects

abbrev pub effects_in : List Effect → task.Effects
effects_in [] = task.no_effect
effects_in (part ∷ rest) = task.more_effects (effect_of part) (effects_in rest)

effects_row : (n : _) (row : Row_of-Effect n) → effects_of row ≡ effects_in (items-the_row-Effect n row)
effects_row n end_of-Effect = refl
effects_row n (more_of-Effect part rest) = ap (task.more_effects (effect_of part)) (effects_row _ rest)

abbrev effect_row : Effect → (n : Count) × Row_of-Effect n
effect_row (effect.And' _ row) = (_, row)
effect_row _ = (_, end_of-Effect)

pub effect_of-And : (parts : Vec Effect) → effect_of (effect.And parts) ≡ task.both (effects_in parts.items)
effect_of-And parts =
    let row = effect_row (effect.And parts) in
    ap task.both (effects_row row.0 row.1 ∙ ap effects_in (items_hidden-the_row-Effect-0 parts))

pub are_effects-list : (t : task.Task) (scope : List task.Union) (parts : List Effect) → are_effects t scope (effects_in parts) ≡ list_all (λ part. is_effect t scope (effect_of part)) parts
are_effects-list t scope [] = refl
are_effects-list t scope (part ∷ rest) = ap (λ b. is_effect t scope (effect_of part) && b) (are_effects-list t scope rest)

pub is_effect-And : (t : task.Task) (scope : List task.Union) (parts : Vec Effect) → is_effect t scope (effect_of (effect.And parts)) ≡ list_all (λ part. is_effect t scope (effect_of part)) parts.items
is_effect-And t scope parts = ap (is_effect t scope) (effect_of-And parts) ∙ are_effects-list t scope parts.items

changes_of_all-list : (t : task.Task) (binding : List ℕ) (parts : List Effect) → changes_of_all t (effects_in parts) binding ≡ flat_map (λ part. changes_of t (effect_of part) binding) parts
changes_of_all-list t binding [] = refl
changes_of_all-list t binding (part ∷ rest) = ap (λ l. changes_of t (effect_of part) binding ++ l) (changes_of_all-list t binding rest)

-- the changes of a conjunction are those of its parts, one part after another
pub changes_of-And : (t : task.Task) (binding : List ℕ) (parts : Vec Effect) → changes_of t (effect_of (effect.And parts)) binding ≡ flat_map (λ part. changes_of t (effect_of part) binding) parts.items
changes_of-And t binding parts = ap (λ e. changes_of t e binding) (effect_of-And parts) ∙ changes_of_all-list t binding parts.items

-- the same for an effect that is a conjunction
pub changes_by_parts : (t : task.Task) (binding : List ℕ) (e : Effect) (parts : Vec Effect) (items : List Effect) → e ≡ effect.And parts → items ≡ parts.items
    → changes_of t (effect_of e) binding ≡ flat_map (λ part. changes_of t (effect_of part) binding) items
changes_by_parts t binding e parts items is same =
    ap (λ g. changes_of t (effect_of g) binding) is ∙ changes_of-And t binding parts ∙ ap (flat_map (λ part. changes_of t (effect_of part) binding)) (sym same)

pub typed_by_effects : (t : task.Task) (scope : List task.Union) (e : Effect) (parts : Vec Effect) (items : List Effect) → e ≡ effect.And parts → items ≡ parts.items
    → IsTrue (is_effect t scope (effect_of e)) → list_all (λ part. is_effect t scope (effect_of part)) items ≡ true
typed_by_effects t scope e parts items is same typed =
    ap (list_all (λ part. is_effect t scope (effect_of part))) same ∙ sym (ap (λ g. is_effect t scope (effect_of g)) is ∙ is_effect-And t scope parts) ∙ typed
