-- Two lists whose pairs all pass a test, pair by pair.
use Rattle.std.proofs.Common.{◌≡◌, ℕ, ◌+◌, ◌<◌, ◌≤◌, Bool, true, false, ◌&&◌, List, [], ◌∷◌, length, map, drop, get_or, refl, sym, ap, ◌∙◌}
use Rattle.std.specs.Cmp.Lexicographic.{pointwise}
use Rattle.std.proofs.lemmas.List.{drop_more, drop_all}
use Rattle.task.specs.declared.atoms.ObjectId.{ObjectId}
use Rattle.task.specs.declared.schemas.TypeUnion.{TypeUnion}
use Rattle.task.specs.TaskParts.{object_of, union_of}
use Rattle.model.specs.Task.{Task}
use Rattle.model.specs.Meaning.{is_of}

pub pointwise-both : {A B X Y : Type 0} (p : X → Y → Bool) (f : A → X) (g : B → Y) (xs : List A) (ys : List B) → pointwise p (map f xs) (map g ys) ≡ pointwise (λ x y. p (f x) (g y)) xs ys
pointwise-both p f g [] [] = refl
pointwise-both p f g [] (y ∷ ys) = refl
pointwise-both p f g (x ∷ xs) [] = refl
pointwise-both p f g (x ∷ xs) (y ∷ ys) = ap (λ b. p (f x) (g y) && b) (pointwise-both p f g xs ys)

-- the first of the remaining pairs, and the others
pub pointwise-drop : {A B : Type 0} (p : A → B → Bool) (xs : List A) (ys : List B) (i : ℕ) (d : A) (e : B) → i < length xs → i < length ys
    → pointwise p (drop i xs) (drop i ys) ≡ (p (get_or xs i d) (get_or ys i e) && pointwise p (drop (i + 1) xs) (drop (i + 1) ys))
pointwise-drop p xs ys i d e inside within = λ j. pointwise p (drop_more xs i d inside j) (drop_more ys i e within j)

-- the object is of one of these types
abbrev pub code_is_of : Task → TypeUnion → ObjectId → Bool
code_is_of t types object = is_of t (union_of types) (object_of object)

-- the pairs before this index pass, and the one here does not
pub pair_fails : {A B : Type 0} (p : A → B → Bool) (xs : List A) (ys : List B) (i : ℕ) (d : A) (e : B) → i < length xs → i < length ys → pointwise p (drop i xs) (drop i ys) ≡ pointwise p xs ys
    → p (get_or xs i d) (get_or ys i e) ≡ false → false ≡ pointwise p xs ys
pair_fails p xs ys i d e inside within so here =
    ap (λ b. b && pointwise p (drop (i + 1) xs) (drop (i + 1) ys)) (sym here) ∙ sym (pointwise-drop p xs ys i d e inside within) ∙ so

-- all pairs pass
pub pairs_pass : {A B : Type 0} (p : A → B → Bool) (xs : List A) (ys : List B) (i : ℕ) → length xs ≤ i → length ys ≤ i → pointwise p (drop i xs) (drop i ys) ≡ pointwise p xs ys → true ≡ pointwise p xs ys
pairs_pass p xs ys i past beyond so = sym (λ j. pointwise p (drop_all i xs past j) (drop_all i ys beyond j)) ∙ so
