-- The mentions found part by part are those of the whole.
use Rattle.std.proofs.Common.{◌≡◌, ℕ, ◌+◌, ◌<◌, ◌≤◌, inl, inr, List, [], ◌∷◌, ◌++◌, length, take, map, get_or, refl, sym, ◌∙◌, ap, append_assoc, append-nil, arith}
use Rattle.std.specs.Prelude.{slice_get}
use Rattle.std.specs.Global.{Vec}
use Rattle.std.specs.List.{flat_map}
use Rattle.std.specs.Option.{option_map_or}
use Rattle.std.proofs.lemmas.Grind.{flat_map-append}
use Rattle.std.proofs.lemmas.List.{take_all, take_more}
use Rattle.std.proofs.lemmas.Option.{slice_get_cases}
use Rattle.task.specs.declared.schemas.Formula.{Formula}
use Rattle.task.specs.declared.schemas.Formula as formula
use Rattle.task.specs.declared.schemas.Effect.{Effect}
use Rattle.task.specs.declared.schemas.Effect as effect
use Rattle.task.specs.TaskParts.{effect_of, formula_of}
use Rattle.formulas.proofs.Trees.{effects_in, effect_of-And, formulas_in, formula_of-And, formula_of-Or}
use Rattle.formulas.specs.Mentions.{all_mentions, effect_mentions, effects_mentions, mentions}

-- ---- the parts of a formula or an effect

all_mentions-list : (parts : List Formula) → all_mentions (formulas_in parts) ≡ flat_map (λ part. mentions (formula_of part)) parts
all_mentions-list [] = refl
all_mentions-list (part ∷ rest) = ap (λ l. mentions (formula_of part) ++ l) (all_mentions-list rest)

effects_mentions-list : (parts : List Effect) → effects_mentions (effects_in parts) ≡ flat_map (λ part. effect_mentions (effect_of part)) parts
effects_mentions-list [] = refl
effects_mentions-list (part ∷ rest) = ap (λ l. effect_mentions (effect_of part) ++ l) (effects_mentions-list rest)

pub mentions_by_and : (f : Formula) (parts : Vec Formula) (items : List Formula) → f ≡ formula.And parts → items ≡ parts.items
    → mentions (formula_of f) ≡ flat_map (λ part. mentions (formula_of part)) items
mentions_by_and f parts items is same =
    ap (λ g. mentions (formula_of g)) is ∙ ap mentions (formula_of-And parts) ∙ all_mentions-list parts.items
    ∙ ap (flat_map (λ part. mentions (formula_of part))) (sym same)

pub mentions_by_or : (f : Formula) (parts : Vec Formula) (items : List Formula) → f ≡ formula.Or parts → items ≡ parts.items
    → mentions (formula_of f) ≡ flat_map (λ part. mentions (formula_of part)) items
mentions_by_or f parts items is same =
    ap (λ g. mentions (formula_of g)) is ∙ ap mentions (formula_of-Or parts) ∙ all_mentions-list parts.items
    ∙ ap (flat_map (λ part. mentions (formula_of part))) (sym same)

pub mentions_by_both : (e : Effect) (parts : Vec Effect) (items : List Effect) → e ≡ effect.And parts → items ≡ parts.items
    → effect_mentions (effect_of e) ≡ flat_map (λ part. effect_mentions (effect_of part)) items
mentions_by_both e parts items is same =
    ap (λ g. effect_mentions (effect_of g)) is ∙ ap effect_mentions (effect_of-And parts) ∙ effects_mentions-list parts.items
    ∙ ap (flat_map (λ part. effect_mentions (effect_of part))) (sym same)

-- ---- one part after another

module _ {X Y : Type 0} (f : X → List Y) (xs : List X) (i : ℕ) (start : List Y) where
  -- the mentions in the parts so far, and those in the next one
  pub come_next : (x : X) (now next : List Y) → i < length xs → x ≡ get_or xs i x → next ≡ now ++ f x → now ≡ start ++ flat_map f (take i xs)
      → next ≡ start ++ flat_map f (take (i + 1) xs)
  come_next x now next within at here before =
      here ∙ ap (λ l. l ++ f x) before ∙ append_assoc start (flat_map f (take i xs)) (f x)
      ∙ ap (λ l. start ++ (flat_map f (take i xs) ++ l)) (sym (append-nil (f x)))
      ∙ ap (λ l. start ++ l) (sym (flat_map-append f (take i xs) (x ∷ [])))
      ∙ ap (λ l. start ++ flat_map f l) (ap (λ y. take i xs ++ y ∷ []) at ∙ sym (take_more xs i x within))

  pub come_all : (now : List Y) → length xs ≤ i → now ≡ start ++ flat_map f (take i xs) → now ≡ start ++ flat_map f xs
  come_all now past before = before ∙ ap (λ l. start ++ flat_map f l) (take_all i xs past)

-- the mentions in the element at an index
pub come_at : {X Y : Type 0} (f : X → List Y) (xs : List X) (i : ℕ) (start now next : List Y) → i < length xs
    → next ≡ now ++ option_map_or f (slice_get xs i) [] → now ≡ start ++ flat_map f (take i xs) → next ≡ start ++ flat_map f (take (i + 1) xs)
come_at f xs i start now next within here before =
    elim (slice_get_cases xs i).1 [
      | inl found ↦ come_next f xs i start found.0 now next within (sym found.3) (here ∙ ap (λ o. now ++ option_map_or f o []) found.2) before
      | inr past ↦ absurd (let beyond = past.0 in omega (arith, within, beyond))
    ]

-- ---- views

pub flat_map_map : {X Y Z : Type 0} (f : Y → List Z) (g : X → Y) (xs : List X) → flat_map f (map g xs) ≡ flat_map (λ x. f (g x)) xs
flat_map_map f g [] = refl
flat_map_map f g (x ∷ xs) = ap (λ l. f (g x) ++ l) (flat_map_map f g xs)

pub map_map : {X Y Z : Type 0} (f : Y → Z) (g : X → Y) (xs : List X) → map f (map g xs) ≡ map (λ x. f (g x)) xs
map_map f g [] = refl
map_map f g (x ∷ xs) = ap (λ l. f (g x) ∷ l) (map_map f g xs)
