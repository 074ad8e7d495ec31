-- What effects make of predicates, part by part, and one schema after another.
use Rattle.std.proofs.Common.{◌≡◌, ℕ, ◌+◌, ◌≤◌, Bool, true, false, ◌||◌, List, [], ◌∷◌, ◌++◌, length, drop, Some, refl, sym, ap, ◌∙◌}
use Rattle.std.specs.Prelude.{filter, slice_get}
use Rattle.std.specs.Global.{Vec}
use Rattle.std.specs.List.{list_any, range_with_len}
use Rattle.std.proofs.lemmas.List.{drop_all}
use Rattle.task.proofs.Lists.{filter_range_more}
use Rattle.task.specs.declared.schemas.Effect.{Effect}
use Rattle.task.specs.declared.schemas.Effect as effect
use Rattle.task.specs.TaskParts.{effect_of}
use Rattle.formulas.specs.Marks.{Marks, is_marked}
use Rattle.formulas.proofs.Trees.{effects_in, effect_of-And}
use Rattle.model.specs.Task as task
use Rattle.model.proofs.ListLemmas.{drop-here}
use Rattle.model.proofs.StaticLemmas.{or_false}
use Rattle.explain_tasks.specs.Predicates.{has_literal, some_has_literal}

-- ---- the parts of an effect

some_has_literal-list : (test : task.EffectLiteral → Bool) (parts : List Effect) → some_has_literal test (effects_in parts) ≡ list_any (λ part. has_literal test (effect_of part)) parts
some_has_literal-list test [] = refl
some_has_literal-list test (part ∷ rest) = ap (λ b. has_literal test (effect_of part) || b) (some_has_literal-list test rest)

pub has_literal_by_parts : (test : task.EffectLiteral → Bool) (e : Effect) (parts : Vec Effect) (items : List Effect) → e ≡ effect.And parts → items ≡ parts.items
    → has_literal test (effect_of e) ≡ list_any (λ part. has_literal test (effect_of part)) items
has_literal_by_parts test e parts items is same =
    ap (λ x. has_literal test (effect_of x)) is ∙ ap (has_literal test) (effect_of-And parts) ∙ some_has_literal-list test parts.items
    ∙ ap (list_any (λ part. has_literal test (effect_of part))) (sym same)

-- ---- one schema after another

or_assoc : (a b c : Bool) → ((a || b) || c) ≡ (a || (b || c))
or_assoc true b c = refl
or_assoc false b c = refl

-- the numbers that schemas from this one on give are added to the table, and then it is complete
abbrev pub Lacks : (test : ℕ → task.Schema → Bool) → (schemas : List task.Schema) → ℕ → List Bool → Type 0
Lacks test schemas number table = (n : ℕ) → list_any (test n) schemas ≡ (is_marked table n || list_any (test n) (drop number schemas))

pub lacks_fewer : (test : ℕ → task.Schema → Bool) (schemas : List task.Schema) (number : ℕ) (s : task.Schema) (old new : List Bool) → slice_get schemas number ≡ Some s
    → Lacks test schemas number old → Marks (λ n. test n s) old new → Lacks test schemas (number + 1) new
lacks_fewer test schemas number s old new at so here n =
    so n ∙ ap (λ l. is_marked old n || list_any (test n) l) (drop-here schemas number s at)
    ∙ sym (or_assoc (is_marked old n) (test n s) (list_any (test n) (drop (number + 1) schemas)))
    ∙ ap (λ b. b || list_any (test n) (drop (number + 1) schemas)) (sym (here n))

pub lacks_none : (test : ℕ → task.Schema → Bool) (schemas : List task.Schema) (number : ℕ) (table : List Bool) → length schemas ≤ number → Lacks test schemas number table
    → (n : ℕ) → is_marked table n ≡ list_any (test n) schemas
lacks_none test schemas number table past so n =
    sym (so n ∙ ap (λ l. is_marked table n || list_any (test n) l) (drop_all number schemas past) ∙ or_false (is_marked table n))

-- ---- one number after another

pub passing_more : (p : ℕ → Bool) (n : ℕ) (found next : List ℕ) → next ≡ found ++ filter p (n ∷ []) → found ≡ filter p (range_with_len 0 n) → next ≡ filter p (range_with_len 0 (n + 1))
passing_more p n found next more so = more ∙ ap (λ l. l ++ filter p (n ∷ [])) so ∙ sym (filter_range_more p n)
