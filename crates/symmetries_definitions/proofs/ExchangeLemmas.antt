-- An exchange of different objects is its own inverse: the objects of a pair are mapped to each other, and all others are fixed.
use Rattle.std.proofs.Common.{◌≡◌, ◌∙◌, ℕ, inl, inr, Bool, true, false, not, ◌&&◌, ◌||◌, [], ◌∷◌, refl, sym, ap}
use Rattle.std.specs.Prelude.{◌==◌, cond, Contains}
use Rattle.std.specs.List.{list_any}
use Rattle.std.proofs.lemmas.Bool.{and_parts, or_parts, not-true, eqb-true, eq-eqb, cond-true, cond-false, false_from_ne_true}
use Rattle.model.proofs.ListLemmas.{Contains-cases, Contains-none}
use Rattle.symmetries_definitions.specs.Exchanges.{Exchange, image_of_object, objects_in, are_different}

-- the object is in none of the pairs
abbrev is_apart : ℕ → Exchange → Bool
is_apart o exchange = not (list_any (λ other. other == o) (objects_in exchange))

flip : (m n : ℕ) → (m == n) ≡ false → (n == m) ≡ false
flip m n other = false_from_ne_true (n == m) (λ same. let is = eq-eqb m n (sym (eqb-true n m same)) in absurd (cc))

-- what it means that all objects of the pairs are different
record AreApart (p q : ℕ) (rest : Exchange) : Type 0 where
  other : (q == p) ≡ false
  first : is_apart p rest ≡ true
  second : is_apart q rest ≡ true
  rest_different : are_different (objects_in rest) ≡ true

apart : (p q : ℕ) (rest : Exchange) → are_different (objects_in ((p, q) ∷ rest)) ≡ true → AreApart p q rest
apart p q rest different =
    let parts = and_parts (not ((q == p) || list_any (λ other. other == p) (objects_in rest))) (is_apart q rest && are_different (objects_in rest)) different in
    let later = and_parts (is_apart q rest) (are_different (objects_in rest)) parts.1 in
    let here = or_parts (q == p) (list_any (λ other. other == p) (objects_in rest)) (not-true _ parts.0) in
    record { other = here.0; first = ap not here.1; second = later.0; rest_different = later.1 }

-- ---- one pair

at_first : (p q : ℕ) (rest : Exchange) → image_of_object ((p, q) ∷ rest) p ≡ q
at_first p q rest = cond-true (p == p) q (cond (q == p) p (image_of_object rest p)) (eq-eqb p p refl)

at_second : (p q : ℕ) (rest : Exchange) → (q == p) ≡ false → image_of_object ((p, q) ∷ rest) q ≡ p
at_second p q rest other =
    cond-false (p == q) q (cond (q == q) p (image_of_object rest q)) (flip q p other) ∙ cond-true (q == q) p (image_of_object rest q) (eq-eqb q q refl)

-- an object that is not in the pair
past : (p q : ℕ) (rest : Exchange) (o : ℕ) → (p == o) ≡ false → (q == o) ≡ false → image_of_object ((p, q) ∷ rest) o ≡ image_of_object rest o
past p q rest o first second =
    cond-false (p == o) q (cond (q == o) p (image_of_object rest o)) first ∙ cond-false (q == o) p (image_of_object rest o) second

-- an object in none of the pairs is fixed
stays : (exchange : Exchange) (o : ℕ) → is_apart o exchange ≡ true → image_of_object exchange o ≡ o
stays [] o none = refl
stays ((p, q) ∷ rest) o none =
    let here = or_parts (p == o) ((q == o) || list_any (λ other. other == o) (objects_in rest)) (not-true _ none) in
    let later = or_parts (q == o) (list_any (λ other. other == o) (objects_in rest)) here.1 in
    past p q rest o here.0 later.0 ∙ stays rest o (ap not later.1)

-- ---- the whole

-- no other object is mapped to one that is in none of the pairs
not_there : (exchange : Exchange) (p o : ℕ) → is_apart p exchange ≡ true → ((q : ℕ) → image_of_object exchange (image_of_object exchange q) ≡ q) → (p == o) ≡ false
    → (p == image_of_object exchange o) ≡ false
not_there exchange p o none back other =
    elim (p == image_of_object exchange o) as (λ t. (p == image_of_object exchange o) ≡ t → t ≡ false) [
      | true ↦ λ is. sym (eq-eqb p o (sym (stays exchange p none) ∙ ap (image_of_object exchange) (eqb-true p (image_of_object exchange o) is) ∙ back o)) ∙ other
      | false ↦ λ _. refl
    ] refl

pub own_inverse : (exchange : Exchange) → are_different (objects_in exchange) ≡ true → (o : ℕ) → image_of_object exchange (image_of_object exchange o) ≡ o
own_inverse [] different o = refl
own_inverse ((p, q) ∷ rest) different o =
    let a = apart p q rest different in
    by_place a (own_inverse rest a.rest_different) (p == o) refl (q == o) refl
  where
    by_place : AreApart p q rest → ((o : ℕ) → image_of_object rest (image_of_object rest o) ≡ o)
        → (first : Bool) → (p == o) ≡ first → (second : Bool) → (q == o) ≡ second → image_of_object ((p, q) ∷ rest) (image_of_object ((p, q) ∷ rest) o) ≡ o
    by_place a back true first second _ =
        let is = eqb-true p o first in
        ap (λ x. image_of_object ((p, q) ∷ rest) (image_of_object ((p, q) ∷ rest) x)) (sym is)
        ∙ ap (image_of_object ((p, q) ∷ rest)) (at_first p q rest) ∙ at_second p q rest a.other ∙ is
    by_place a back false first true second =
        let is = eqb-true q o second in
        ap (λ x. image_of_object ((p, q) ∷ rest) (image_of_object ((p, q) ∷ rest) x)) (sym is)
        ∙ ap (image_of_object ((p, q) ∷ rest)) (at_second p q rest a.other) ∙ at_first p q rest ∙ is
    by_place a back false first false second =
        ap (image_of_object ((p, q) ∷ rest)) (past p q rest o first second)
        ∙ past p q rest (image_of_object rest o) (not_there rest p o a.first back first) (not_there rest q o a.second back second)
        ∙ back o

-- the objects of a pair are among those of all pairs
neither : (exchange : Exchange) (n : ℕ) (pair : ℕ × ℕ) → is_apart n exchange ≡ true → Contains exchange pair → ((pair.0 == n) ≡ false) × ((pair.1 == n) ≡ false)
neither [] n pair none at = absurd (Contains-none pair at)
neither ((p, q) ∷ rest) n pair none at =
    let here = or_parts (p == n) ((q == n) || list_any (λ other. other == n) (objects_in rest)) (not-true _ none) in
    let later = or_parts (q == n) (list_any (λ other. other == n) (objects_in rest)) here.1 in
    elim (Contains-cases (p, q) rest pair at) [
      | inl is ↦ (ap (λ (x : ℕ × ℕ). x.0 == n) (sym is) ∙ here.0, ap (λ (x : ℕ × ℕ). x.1 == n) (sym is) ∙ later.0)
      | inr there ↦ neither rest n pair (ap not later.1) there
    ]

pub image_of_first : (exchange : Exchange) → are_different (objects_in exchange) ≡ true → (pair : ℕ × ℕ) → Contains exchange pair → image_of_object exchange pair.0 ≡ pair.1
image_of_first [] different pair at = absurd (Contains-none pair at)
image_of_first ((p, q) ∷ rest) different pair at =
    let a = apart p q rest different in
    elim (Contains-cases (p, q) rest pair at) [
      | inl is ↦ ap (λ (x : ℕ × ℕ). image_of_object ((p, q) ∷ rest) x.0) (sym is) ∙ at_first p q rest ∙ ap (λ (x : ℕ × ℕ). x.1) is
      | inr there ↦
          past p q rest pair.0 (flip pair.0 p (neither rest p pair a.first there).0) (flip pair.0 q (neither rest q pair a.second there).0)
          ∙ image_of_first rest a.rest_different pair there
    ]
