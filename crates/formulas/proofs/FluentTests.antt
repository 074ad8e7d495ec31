-- Which predicates an effect touches, part by part, and the arguments of a predicate.
use Rattle.std.proofs.Common.{◌≡◌, ℕ, ◌+◌, ◌<◌, ◌≤◌, Bool, true, false, ◌||◌, List, [], ◌∷◌, length, take, drop, get_or, Option, None, Some, refl, sym, ap, ◌∙◌, subst}
use Rattle.std.specs.Prelude.{slice_get}
use Rattle.std.specs.Cmp.Lexicographic.{pointwise}
use Rattle.std.specs.Option.{option_map, option_map_or}
use Rattle.std.specs.Global.{Vec}
use Rattle.std.specs.List.{list_any}
use Rattle.std.proofs.lemmas.List.{take_all}
use Rattle.std.proofs.lemmas.List.Folds.{list_any_more, list_any_at}
use Rattle.task.specs.declared.schemas.Effect.{Effect}
use Rattle.task.specs.declared.schemas.Effect as effect
use Rattle.task.specs.TaskParts.{effect_of}
use Rattle.formulas.proofs.Trees.{effects_in, effect_of-And}
use Rattle.model.specs.Task.{Union, Schema, Task, Predicate, Atom}
use Rattle.model.specs.Meaning.{is_of}
use Rattle.model.specs.WellTyped.{is_atom}
use Rattle.model.specs.Fluents.{touches, any_touches, is_fluent}
use Rattle.model.proofs.ListLemmas.{drop-here}

any_touches-list : (predicate : ℕ) (parts : List Effect) → any_touches predicate (effects_in parts) ≡ list_any (λ part. touches predicate (effect_of part)) parts
any_touches-list predicate [] = refl
any_touches-list predicate (part ∷ rest) = ap (λ b. touches predicate (effect_of part) || b) (any_touches-list predicate rest)

-- a conjunction of effects touches what some part does
pub touches_by_parts : (predicate : ℕ) (e : Effect) (parts : Vec Effect) (items : List Effect) → e ≡ effect.And parts → items ≡ parts.items
    → touches predicate (effect_of e) ≡ list_any (λ part. touches predicate (effect_of part)) items
touches_by_parts predicate e parts items is same =
    ap (λ x. touches predicate (effect_of x)) is ∙ ap (touches predicate) (effect_of-And parts) ∙ any_touches-list predicate parts.items
    ∙ ap (list_any (λ part. touches predicate (effect_of part))) (sym same)

pub any_more : {X : Type 0} (p : X → Bool) (xs : List X) (i : ℕ) (x : X) → i < length xs → x ≡ get_or xs i x → list_any p (take i xs) ≡ false → p x ≡ false → list_any p (take (i + 1) xs) ≡ false
any_more p xs i x lt at before here = list_any_more p xs i x lt ∙ (λ j. before j || subst (λ y. p y ≡ false) at here j)

pub any_here : {X : Type 0} (p : X → Bool) (xs : List X) (i : ℕ) (x : X) → i < length xs → x ≡ get_or xs i x → p x ≡ true → true ≡ list_any p xs
any_here p xs i x lt at here = sym (list_any_at p xs i x lt (subst (λ y. p y ≡ true) at here))

pub any_nowhere : {X : Type 0} (p : X → Bool) (xs : List X) (i : ℕ) → length xs ≤ i → list_any p (take i xs) ≡ false → false ≡ list_any p xs
any_nowhere p xs i past before = sym before ∙ ap (list_any p) (take_all i xs past)

-- ---- the schemas, one after another

abbrev pub schema_touches : ℕ → Schema → Bool
schema_touches predicate s = touches predicate s.effect

pub fluent_here : (t : Task) (predicate number : ℕ) (s : Schema) → slice_get t.schemas number ≡ Some s → is_fluent t predicate ≡ list_any (schema_touches predicate) (drop number t.schemas)
    → true ≡ touches predicate s.effect → true ≡ is_fluent t predicate
fluent_here t predicate number s at so here =
    sym (so ∙ ap (list_any (schema_touches predicate)) (drop-here t.schemas number s at) ∙ ap (λ b. b || list_any (schema_touches predicate) (drop (number + 1) t.schemas)) (sym here))

pub fluent_later : (t : Task) (predicate number : ℕ) (s : Schema) → slice_get t.schemas number ≡ Some s → is_fluent t predicate ≡ list_any (schema_touches predicate) (drop number t.schemas)
    → false ≡ touches predicate s.effect → is_fluent t predicate ≡ list_any (schema_touches predicate) (drop (number + 1) t.schemas)
fluent_later t predicate number s at so here =
    so ∙ ap (list_any (schema_touches predicate)) (drop-here t.schemas number s at) ∙ ap (λ b. b || list_any (schema_touches predicate) (drop (number + 1) t.schemas)) (sym here)

-- ---- the arguments of a predicate

pub arguments_found : (o : Option Predicate) (arguments : List Union) → Some arguments ≡ option_map (λ (p : Predicate). p.arguments) o → (p : Predicate) × (o ≡ Some p) × (arguments ≡ p.arguments)
arguments_found None arguments is = absurd (cc)
arguments_found (Some p) arguments is = (p, refl, cc)

-- only the objects matter
pub atom_by_objects : (t : Task) (a : Atom) (arguments : List Union) → Some arguments ≡ option_map (λ (p : Predicate). p.arguments) (slice_get t.predicates a.predicate)
    → pointwise (is_of t) arguments a.objects ≡ is_atom t a
atom_by_objects t a arguments is =
    let p = arguments_found (slice_get t.predicates a.predicate) arguments is in
    ap (λ unions. pointwise (is_of t) unions a.objects) p.2 ∙ sym (ap (λ o. option_map_or (λ (p : Predicate). pointwise (is_of t) p.arguments a.objects) o false) p.1)
