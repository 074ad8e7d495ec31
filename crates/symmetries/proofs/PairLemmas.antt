-- A table's image of an object, and lists without repeated objects.
use Rattle.std.proofs.Common.{◌≡◌, ◌∙◌, ℕ, ◌+◌, ◌<◌, Bool, true, false, not, ◌&&◌, ◌||◌, List, [], ◌∷◌, ◌++◌, length, map, take, drop, get_or, Option, None, Some, refl, sym, ap}
use Rattle.std.specs.Prelude.{◌==◌, cond, if◌then◌else◌}
use Rattle.std.specs.List.{list_any}
use Rattle.std.specs.Map.{lookup}
use Rattle.std.specs.Option.{option_map, option_map_or}
use Rattle.std.proofs.lemmas.Bool.{eqb-true, eq-eqb, cond-true, cond-false}
use Rattle.std.proofs.lemmas.List.{take_more, take-append-drop, map-append}
use Rattle.std.proofs.lemmas.List.Folds.{list_any-append}
use Rattle.indexmap.specs.IndexMap.{insert_entry}
use Rattle.indexmap.specs.IndexSet.{insert_key}
use Rattle.task.specs.declared.atoms.ObjectId.{ObjectId}
use Rattle.task.specs.contracts.atoms.ObjectIdPartialEq.TheImpl as object_impl
use Rattle.task.specs.TaskParts.{object_of}
use Rattle.model.proofs.StaticLemmas.{or_false}
use Rattle.symmetries_definitions.specs.Exchanges.{Exchange, image_of_object, objects_in, are_different}
use Rattle.symmetries.specs.ObjectPairs.{image_in, pairs_in, two_by_two}

-- `==` of the code's objects
abbrev pub object_eq : ObjectId → ObjectId → Bool
object_eq = (object_impl.ghosts).eq

pub flip : (m n : ℕ) → (m == n) ≡ (n == m)
flip m n = by_test (m == n) refl (n == m) refl
  where
    by_test : (b : Bool) → (m == n) ≡ b → (c : Bool) → (n == m) ≡ c → (m == n) ≡ (n == m)
    by_test true is true also = is ∙ sym also
    by_test true is false other = is ∙ sym (eq-eqb n m (sym (eqb-true m n is)))
    by_test false other true is = eq-eqb m n (sym (eqb-true n m is)) ∙ sym is
    by_test false is false also = is ∙ sym also

-- ---- tables of images

pub image_by : (q : ObjectId) (entries : List (ObjectId × ObjectId)) → option_map_or object_of (lookup (object_eq q) entries) (object_of q) ≡ image_in entries (object_of q)
image_by q [] = refl
image_by q (entry ∷ entries) = by_tie (image_by q entries) (object_of q == object_of entry.0) refl
  where
    by_tie : option_map_or object_of (lookup (object_eq q) entries) (object_of q) ≡ image_in entries (object_of q) → (tie : Bool) → (object_of q == object_of entry.0) ≡ tie
        → option_map_or object_of (cond tie (Some entry.1) (lookup (object_eq q) entries)) (object_of q) ≡ image_in (entry ∷ entries) (object_of q)
    by_tie rest true is = sym (cond-true (object_of entry.0 == object_of q) (object_of entry.1) (image_in entries (object_of q)) (flip (object_of entry.0) (object_of q) ∙ is))
    by_tie rest false is = rest ∙ sym (cond-false (object_of entry.0 == object_of q) (object_of entry.1) (image_in entries (object_of q)) (flip (object_of entry.0) (object_of q) ∙ is))

-- one more image
pub image_inserted : (k v : ObjectId) (entries : List (ObjectId × ObjectId)) (o : ℕ)
    → image_in (insert_entry object_eq entries k v) o ≡ cond (object_of k == o) (object_of v) (image_in entries o)
image_inserted k v [] o = refl
image_inserted k v (entry ∷ entries) o = by_tie (image_inserted k v entries o) (object_of k == object_of entry.0) refl
  where
    by_place : (first : Bool) → (object_of k == o) ≡ first → (here : Bool) → (object_of entry.0 == o) ≡ here → (object_of k == object_of entry.0) ≡ false
        → cond here (object_of entry.1) (cond first (object_of v) (image_in entries o)) ≡ cond first (object_of v) (cond here (object_of entry.1) (image_in entries o))
    by_place true is true same other =
        absurd (let both = eq-eqb (object_of k) (object_of entry.0) (eqb-true (object_of k) o is ∙ sym (eqb-true (object_of entry.0) o same)) in cc)
    by_place true is false same other = refl
    by_place false is true same other = refl
    by_place false is false same other = refl

    by_tie : image_in (insert_entry object_eq entries k v) o ≡ cond (object_of k == o) (object_of v) (image_in entries o) → (tie : Bool) → (object_of k == object_of entry.0) ≡ tie
        → image_in (cond tie ((entry.0, v) ∷ entries) (entry ∷ insert_entry object_eq entries k v)) o ≡ cond (object_of k == o) (object_of v) (image_in (entry ∷ entries) o)
    by_tie rest true is =
        ap (λ n. cond (n == o) (object_of v) (image_in entries o)) (sym (eqb-true (object_of k) (object_of entry.0) is))
        ∙ by_here (object_of k == o) refl
      where
        by_here : (here : Bool) → (object_of k == o) ≡ here → cond here (object_of v) (image_in entries o) ≡ cond here (object_of v) (image_in (entry ∷ entries) o)
        by_here true h = refl
        by_here false h = sym (cond-false (object_of entry.0 == o) (object_of entry.1) (image_in entries o) (ap (λ n. n == o) (sym (eqb-true (object_of k) (object_of entry.0) is)) ∙ h))
    by_tie rest false is =
        ap (cond (object_of entry.0 == o) (object_of entry.1)) rest
        ∙ by_place (object_of k == o) refl (object_of entry.0 == o) refl is

-- the images of one more pair, before those of later ones
pub pair_inserted : (pairs : List (ObjectId × ObjectId)) (n i : ℕ) (pair : ObjectId × ObjectId) (entries more all : List (ObjectId × ObjectId))
    → drop n pairs ≡ pair ∷ drop i pairs
    → more ≡ insert_entry object_eq entries pair.1 pair.0 → all ≡ insert_entry object_eq more pair.0 pair.1
    → ((o : ℕ) → image_in entries o ≡ image_of_object (pairs_in (drop i pairs)) o) → (o : ℕ) → image_in all o ≡ image_of_object (pairs_in (drop n pairs)) o
pair_inserted pairs n i pair entries more all here second first so o =
    ap (λ l. image_in l o) first
    ∙ image_inserted pair.0 pair.1 more o
    ∙ ap (cond (object_of pair.0 == o) (object_of pair.1))
    (ap (λ l. image_in l o) second ∙ image_inserted pair.1 pair.0 entries o ∙ ap (cond (object_of pair.1 == o) (object_of pair.0)) (so o))
    ∙ ap (λ l. image_of_object (pairs_in l) o) (sym here)

-- ---- different objects

pub different_more : (xs : List ℕ) (x : ℕ) → are_different (xs ++ x ∷ []) ≡ (are_different xs && not (list_any (λ other. other == x) xs))
different_more [] x = refl
different_more (y ∷ xs) x =
    (λ i. not ((list_any-append (λ other. other == y) xs (x ∷ []) ∙ ap (λ b. list_any (λ other. other == y) xs || b) (or_false (x == y) ∙ flip x y)) i) && different_more xs x i)
    ∙ regrouped (list_any (λ other. other == y) xs) (y == x) (are_different xs) (list_any (λ other. other == x) xs)
  where
    regrouped : (a b c d : Bool) → (not (a || b) && (c && not d)) ≡ ((not a && c) && not (b || d))
    regrouped true b c d = refl
    regrouped false true true d = refl
    regrouped false true false d = refl
    regrouped false false c d = refl

pub repeats_go_on : (xs ys : List ℕ) → are_different xs ≡ false → are_different (xs ++ ys) ≡ false
repeats_go_on [] ys twice = absurd (cc)
repeats_go_on (x ∷ xs) ys twice = by_here (repeats_go_on xs ys) (list_any (λ other. other == x) xs) refl twice
  where
    by_here : (are_different xs ≡ false → are_different (xs ++ ys) ≡ false) → (here : Bool) → list_any (λ other. other == x) xs ≡ here → (not here && are_different xs) ≡ false → are_different (x ∷ (xs ++ ys)) ≡ false
    by_here rest true is _ =
        ap (λ b. not b && are_different (xs ++ ys)) (list_any-append (λ other. other == x) xs ys ∙ ap (λ b. b || list_any (λ other. other == x) ys) is)
    by_here rest false is later =
        ap (λ b. not (list_any (λ other. other == x) (xs ++ ys)) && b) (rest later) ∙ and_none (not (list_any (λ other. other == x) (xs ++ ys)))
      where
        and_none : (b : Bool) → (b && false) ≡ false
        and_none true = refl
        and_none false = refl

-- the elements of the set of the objects so far
among : (o : ObjectId) (keys : List ObjectId) → list_any (object_eq o) keys ≡ list_any (λ other. other == object_of o) (map object_of keys)
among o [] = refl
among o (key ∷ keys) = λ i. flip (object_of o) (object_of key) i || among o keys i

module _ (objects : List ObjectId) (i : ℕ) (d : ObjectId) (within : i < length objects) where
  abbrev here : ObjectId
  here = get_or objects i d

  one_more : map object_of (take (i + 1) objects) ≡ map object_of (take i objects) ++ object_of here ∷ []
  one_more = ap (map object_of) (take_more objects i d within) ∙ map-append object_of (take i objects) (here ∷ [])

  -- an object that is new
  pub new_object : (keys after : List ObjectId) → keys ≡ take i objects → after ≡ insert_key object_eq keys here → not (list_any (object_eq here) keys) ≡ true
      → are_different (map object_of (take i objects)) ≡ true → (after ≡ take (i + 1) objects) × (are_different (map object_of (take (i + 1) objects)) ≡ true)
  new_object keys after so is new before =
      let none : list_any (object_eq here) keys ≡ false = not_any (list_any (object_eq here) keys) new in (
        is ∙ ap (λ b. if b then keys else keys ++ here ∷ []) none ∙ ap (λ l. l ++ here ∷ []) so ∙ sym (take_more objects i d within),
        ap are_different one_more ∙ different_more (map object_of (take i objects)) (object_of here)
            ∙ (λ j. before j && not ((sym (among here (take i objects)) ∙ ap (list_any (object_eq here)) (sym so) ∙ none) j)),
      )
    where
      not_any : (b : Bool) → not b ≡ true → b ≡ false
      not_any true is = absurd (cc)
      not_any false is = refl

  -- and one that is there already
  pub known_object : (keys : List ObjectId) → keys ≡ take i objects → not (list_any (object_eq here) keys) ≡ false → false ≡ are_different (map object_of objects)
  known_object keys so known =
      let twice : are_different (map object_of (take (i + 1) objects)) ≡ false =
      ap are_different one_more ∙ different_more (map object_of (take i objects)) (object_of here)
      ∙ ap (λ b. are_different (map object_of (take i objects)) && not b) (sym (among here (take i objects)) ∙ ap (list_any (object_eq here)) (sym so))
      ∙ ap (λ b. are_different (map object_of (take i objects)) && b) known ∙ and_none (are_different (map object_of (take i objects))) in
      sym (ap are_different (ap (map object_of) (sym (take-append-drop (i + 1) objects)) ∙ map-append object_of (take (i + 1) objects) (drop (i + 1) objects))
      ∙ repeats_go_on (map object_of (take (i + 1) objects)) (map object_of (drop (i + 1) objects)) twice)
    where
      and_none : (b : Bool) → (b && false) ≡ false
      and_none true = refl
      and_none false = refl

-- ---- pairs

-- the objects of the pairs are the given ones
pub objects_paired : (objects : List ℕ) (pairs : Exchange) → two_by_two objects ≡ Some pairs → objects_in pairs ≡ objects
objects_paired [] pairs is = ap objects_in (sym (same pairs is))
  where
    same : (pairs : Exchange) → Some [] ≡ Some pairs → [] ≡ pairs
    same pairs is = cc
objects_paired (last ∷ []) pairs is = absurd (cc)
objects_paired (first ∷ second ∷ rest) pairs is = by_rest (objects_paired rest) (two_by_two rest) refl is
  where
    by_rest : ((more : Exchange) → two_by_two rest ≡ Some more → objects_in more ≡ rest) → (o : Option Exchange) → two_by_two rest ≡ o → option_map (λ more. (first, second) ∷ more) o ≡ Some pairs → objects_in pairs ≡ first ∷ second ∷ rest
    by_rest paired None none said = absurd (cc)
    by_rest paired (Some later) found said =
        let same : (first, second) ∷ later ≡ pairs = cc in
        ap objects_in (sym same) ∙ ap (λ l. first ∷ second ∷ l) (paired later found)
