-- Lists of changes, one after another.
use Rattle.std.specs.Prelude.{◌≡◌, ℕ, ◌+◌, ◌<◌, ◌≤◌, List, [], ◌∷◌, ◌++◌, length, map, take, refl}
use Rattle.std.proofs.Common.{sym, ◌∙◌, ap, get_or}
use Rattle.std.specs.Global.{Vec}
use Rattle.std.proofs.lemmas.List.{take_all, take_more, map-append, append_assoc}
use Rattle.task.specs.declared.schemas.EffectLiteral.{EffectLiteral}
use Rattle.task.specs.declared.schemas.Formula.{Formula}
use Rattle.task.specs.declared.schemas.Effect.{Effect}
use Rattle.task.specs.declared.schemas.Effect as effect
use Rattle.task.specs.TaskParts.{effect_literal_of, effect_of, formula_of}
use Rattle.model.specs.Task as task
use Rattle.model.specs.Meaning.{change_under, changes_of}

-- one more for each element
module _ {X Y : Type 0} (f : X → Y) (first : List Y) (xs : List X) (i : ℕ) where
  pub mapped_more : (x : X) (before after : List Y) → i < length xs → x ≡ get_or xs i x → before ≡ first ++ map f (take i xs) → after ≡ before ++ f x ∷ []
      → after ≡ first ++ map f (take (i + 1) xs)
  mapped_more x before after lt at so here =
      here ∙ ap (λ l. l ++ f x ∷ []) so ∙ append_assoc first (map f (take i xs)) (f x ∷ [])
      ∙ ap (λ l. first ++ l) (sym (ap (map f) (take_more xs i x lt ∙ ap (λ y. take i xs ++ y ∷ []) (sym at)) ∙ map-append f (take i xs) (x ∷ [])))

  -- all elements
  pub mapped_whole : (after : List Y) → length xs ≤ i → after ≡ first ++ map f (take i xs) → after ≡ first ++ map f xs
  mapped_whole after past so = so ∙ ap (λ l. first ++ map f l) (take_all i xs past)

pub map_twice : {X Y Z : Type 0} (g : Y → Z) (f : X → Y) (xs : List X) → map (λ x. g (f x)) xs ≡ map g (map f xs)
map_twice g f [] = refl
map_twice g f (x ∷ xs) = ap (λ l. g (f x) ∷ l) (map_twice g f xs)

-- the changes of an effect under a condition
pub changes_when : (t : task.Task) (b : List ℕ) (e : Effect) (condition : Formula) (ls : Vec EffectLiteral) (items : List EffectLiteral) → e ≡ effect.When condition ls → items ≡ ls.items
    → map (λ l. change_under (formula_of condition) b (effect_literal_of l)) items ≡ changes_of t (effect_of e) b
changes_when t b e condition ls items is same =
    map_twice (change_under (formula_of condition) b) effect_literal_of items
    ∙ ap (λ l. map (change_under (formula_of condition) b) (map effect_literal_of l)) same
    ∙ sym (ap (λ g. changes_of t (effect_of g) b) is)
