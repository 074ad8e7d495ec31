-- One more variable and its objects, one after another.
use Rattle.std.proofs.Common.{◌≡◌, ℕ, ◌<◌, Bool, true, ◌&&◌, List, [], ◌∷◌, ◌++◌, length, map, take, nat_lt, ap, ◌∙◌, arith}
use Rattle.std.specs.Prelude.{filter}
use Rattle.std.specs.Cmp.{first_so, second_so}
use Rattle.std.specs.Cmp.Lexicographic.{pointwise, as_long}
use Rattle.std.specs.List.{range_with_len}
use Rattle.std.proofs.lemmas.Bool.Decides.{nat_tests}
use Rattle.std.proofs.lemmas.List.{length-map, map_push}
use Rattle.std.proofs.Math.Seq.{take-append_seam}
use Rattle.task.specs.declared.atoms.ObjectId.{ObjectId}
use Rattle.task.specs.TaskParts.{object_of}
use Rattle.formulas.specs.State.{FitsFormula, FitsEffect}
use Rattle.model.specs.Task as task
use Rattle.model.specs.WellTyped.{is_formula, is_effect, max_variables}
use Rattle.model.specs.Meaning.{is_of}

-- the numbers below one that pass a test
abbrev pub among : (ℕ → Bool) → ℕ → List ℕ
among p n = filter p (range_with_len 0 n)

-- ---- the objects of the variables in scope, and one more

-- the objects after one more
pub one_more : (before after : List ObjectId) (o : ObjectId) (objects : List ObjectId) → before ≡ objects → after ≡ before ++ o ∷ []
    → map object_of after ≡ map object_of objects ++ o.0 ∷ []
one_more before after o objects same is = ap (map object_of) (is ∙ ap (λ l. l ++ o ∷ []) same) ∙ map_push object_of objects o

-- and without it
pub one_less : (before after rest : List ObjectId) (o : ObjectId) (objects : List ObjectId) → before ≡ objects → after ≡ before ++ o ∷ []
    → (n : ℕ) → n ≡ length before → rest ≡ take n after → rest ≡ objects
one_less before after rest o objects same is n count so =
    so ∙ (λ i. take (count i) (is i)) ∙ take-append_seam before (o ∷ []) ∙ same

pub pointwise_push : {A B : Type 0} (p : A → B → Bool) (xs : List A) (ys : List B) (x : A) (y : B) → pointwise p xs ys ≡ true → p x y ≡ true → pointwise p (xs ++ x ∷ []) (ys ++ y ∷ []) ≡ true
pointwise_push p [] [] x y all here = λ i. here i && true
pointwise_push p [] (z ∷ ys) x y all here = absurd (cc)
pointwise_push p (z ∷ xs) [] x y all here = absurd (cc)
pointwise_push p (a ∷ xs) (b ∷ ys) x y all here =
    λ i. first_so (p a b) (pointwise p xs ys) all i && pointwise_push p xs ys x y (second_so (p a b) (pointwise p xs ys) all) here i

below : (count : ℕ) → nat_lt count max_variables ≡ true → count < max_variables
below count lt = grind (arith, nat_tests)

module _ (t : task.Task) (types : task.Union) (part : task.Formula) (objects : List ObjectId) (given : FitsFormula t (task.forall types part) (map object_of objects)) where
  -- there is room for the object of one more variable
  pub room : length objects < 16
  room =
      let few = below (length given.scope) (first_so (nat_lt (length given.scope) max_variables) (is_formula t (given.scope ++ types ∷ []) part) given.typed) in
      let counts = as_long (is_of t) given.scope (map object_of objects) given.fits ∙ length-map objects object_of in
      omega (arith, few, counts)

  -- and if it is of the variable's types, the objects fit the formula
  pub extended_fits : (one : ℕ) → is_of t types one ≡ true → FitsFormula t part (map object_of objects ++ one ∷ [])
  extended_fits one is = record {
    scope = given.scope ++ types ∷ [];
    typed = second_so (nat_lt (length given.scope) max_variables) (is_formula t (given.scope ++ types ∷ []) part) given.typed;
    fits = pointwise_push (is_of t) given.scope (map object_of objects) types one given.fits is;
  }

-- the same for an effect
module _ (t : task.Task) (types : task.Union) (part : task.Effect) (objects : List ObjectId) (given : FitsEffect t (task.each types part) (map object_of objects)) where
  pub effect_room : length objects < 16
  effect_room =
      let few = below (length given.scope) (first_so (nat_lt (length given.scope) max_variables) (is_effect t (given.scope ++ types ∷ []) part) given.typed) in
      let counts = as_long (is_of t) given.scope (map object_of objects) given.fits ∙ length-map objects object_of in
      omega (arith, few, counts)

  pub extended_effect_fits : (one : ℕ) → is_of t types one ≡ true → FitsEffect t part (map object_of objects ++ one ∷ [])
  extended_effect_fits one is = record {
    scope = given.scope ++ types ∷ [];
    typed = second_so (nat_lt (length given.scope) max_variables) (is_effect t (given.scope ++ types ∷ []) part) given.typed;
    fits = pointwise_push (is_of t) given.scope (map object_of objects) types one given.fits is;
  }
