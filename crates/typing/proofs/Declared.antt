-- The faults found for declared variables, and the names of types if none is declared twice.
use Rattle.std.proofs.Common.{◌≡◌, ℕ, cond, Bool, true, false, List, [], ◌∷◌, ◌++◌, codes, map, fold, take, length, refl, ap, sym, ◌∙◌, if◌then◌else◌}
use Rattle.std.specs.List.{flat_map}
use Rattle.std.proofs.lemmas.List.{append_assoc}
use Rattle.std.specs.Global.{Vec}
use Rattle.task.specs.declared.schemas.TypeUnion.{TypeUnion}
use Rattle.typing.specs.Scope.{BeginsWith}
use Rattle.model.specs.Task as task
use Rattle.model.specs.Typing.{Declared, Placed, TypingFault, is_known, folded, with_name, known_among, names_of, words_of, refused, refused_word, repeated_after}
use Rattle.typing.proofs.Empty.{not_repeated}
use Rattle.typing.proofs.Found.{map-map}

-- the fault of a variable whose name is in scope
abbrev pub shadow_faults : List task.Name → Declared → List TypingFault
shadow_faults names x = if is_known names x.name then refused_word x.file 20 x.name else []

-- they are found one after another
pub among_one_by_one : (names : List task.Name) (xs : List Declared) → flat_map (shadow_faults names) xs ≡ refused 20 (known_among names (words_of xs))
among_one_by_one names [] = refl
among_one_by_one names (x ∷ xs) = by (is_known names x.name) (among_one_by_one names xs)
  where
    by : (b : Bool) → flat_map (shadow_faults names) xs ≡ refused 20 (known_among names (words_of xs))
        → (if b then refused_word x.file 20 x.name else []) ++ flat_map (shadow_faults names) xs
        ≡ refused 20 (cond b (record { file = x.file; word = x.name } ∷ known_among names (words_of xs)) (known_among names (words_of xs)))
    by true e = ap (λ fs. refused_word x.file 20 x.name ++ fs) e
    by false e = e

-- prefixes of prefixes
pub begins_further : (before middle after : List (Vec ℕ × TypeUnion)) → BeginsWith before middle → BeginsWith middle after → BeginsWith before after
begins_further before middle after first second = (first.0 ++ second.0, second.1 ∙ ap (λ vs. vs ++ second.0) first.1 ∙ append_assoc before first.0 second.0)

-- and the first of them again
pub taken_again : (before after : List (Vec ℕ × TypeUnion)) → BeginsWith before after → take (length before) after ≡ before
taken_again before after begins = ap (take (length before)) begins.1 ∙ taken before begins.0
  where
    taken : {X : Type 0} (xs ys : List X) → take (length xs) (xs ++ ys) ≡ xs
    taken [] ys = refl
    taken (x ∷ xs) ys = ap (λ zs. x ∷ zs) (taken xs ys)

-- the names of the types, if none is declared twice
pub names_are : (xs : List Declared) → repeated_after (codes "object" ∷ []) (words_of xs) ≡ []
    → fold with_name (codes "object" ∷ []) (names_of xs) ≡ codes "object" ∷ map folded (names_of xs)
names_are xs e =
    ap (fold with_name (codes "object" ∷ [])) (sym (map-map (λ (w : Placed). w.word) (λ (x : Declared). record { file = x.file; word = x.name }) xs))
    ∙ not_repeated (codes "object" ∷ []) (words_of xs) e
    ∙ ap (λ ns. codes "object" ∷ ns) (map-map (λ (w : Placed). folded w.word) (λ (x : Declared). record { file = x.file; word = x.name }) xs ∙ sym (map-map folded (λ (x : Declared). x.name) xs))
