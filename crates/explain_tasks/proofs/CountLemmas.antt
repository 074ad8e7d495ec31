-- The number of instances, parameter by parameter.
use Rattle.std.proofs.Common.{◌≡◌, ◌∙◌, ℕ, zero, suc, ◌+◌, ◌*◌, ◌/◌, ◌<◌, ◌≤◌, true, false, List, [], ◌∷◌, length, map, refl, sym, ap, arith}
use Rattle.std.specs.Prelude.{nat_lt}
use Rattle.std.specs.List.{flat_map}
use Rattle.std.proofs.Math.Nat.{suc-mul, le-div_iff_mul-le}
use Rattle.std.proofs.lemmas.List.{length-append, length-map}
use Rattle.std.proofs.lemmas.Bool.Decides.{nat_tests}
use Rattle.model.specs.Instances.{product}

pub positive : (n : ℕ) → (n ≡ 0 → ⊥) → 0 < n
positive zero nonzero = absurd (nonzero refl)
positive (suc n) nonzero = omega arith

-- one list for each first element and each of the other lists
length-product : (firsts : List ℕ) (rests : List (List ℕ)) → length (flat_map (λ first. map (λ rest. first ∷ rest) rests) firsts) ≡ length firsts * length rests
length-product [] rests = omega arith
length-product (first ∷ firsts) rests =
    let both = length-append (map (λ rest. first ∷ rest) rests) (flat_map (λ one. map (λ rest. one ∷ rest) rests) firsts) in
    let here = length-map rests (λ (rest : List ℕ). first ∷ rest) in
    let later = length-product firsts rests in
    let more = suc-mul (length firsts) (length rests) in
    both ∙ (λ i. here i + later i) ∙ plus_comm (length rests) (length firsts * length rests) ∙ sym more
  where
    plus_comm : (a b : ℕ) → a + b ≡ b + a
    plus_comm a b = omega arith

-- two equivalent tests of numbers
same_test : (a b x y : ℕ) → (a ≤ b → x ≤ y) → (x ≤ y → a ≤ b) → nat_lt b a ≡ nat_lt y x
same_test a b x y to from =
    elim (nat_lt b a) as (λ u. nat_lt b a ≡ u → u ≡ nat_lt y x) [
      | true ↦ λ is.
          elim (nat_lt y x) as (λ v. nat_lt y x ≡ v → true ≡ v) [
            | true ↦ λ _. refl
            | false ↦ λ no.
                let less : b < a = grind (arith, nat_tests) in
                let few : x ≤ y = grind (arith, nat_tests) in
                let back = from few in
                absurd (omega (arith, less, back))
          ] refl
      | false ↦ λ is.
          elim (nat_lt y x) as (λ v. nat_lt y x ≡ v → false ≡ v) [
            | false ↦ λ _. refl
            | true ↦ λ so.
                let less : y < x = grind (arith, nat_tests) in
                let few : a ≤ b = grind (arith, nat_tests) in
                let forth = to few in
                absurd (omega (arith, less, forth))
          ] refl
    ] refl

-- there are more lists than the limit if there are more of the others than the share of each first element
pub within_next : (firsts : List ℕ) (others : List (List ℕ)) (most : ℕ) → 0 < length firsts
    → nat_lt (most / length firsts) (length (product others)) ≡ nat_lt most (length (product (firsts ∷ others)))
within_next firsts others most some =
    let count = length (product others) in
    let shares = le-div_iff_mul-le {k = length firsts} {x = count} {y = most} some in
    same_test count (most / length firsts) (count * length firsts) most (λ few. shares.0 few) (λ few. shares.1 few)
    ∙ ap (nat_lt most) (mul_comm count (length firsts) ∙ sym (length-product firsts (product others)))
  where
    mul_comm : (a b : ℕ) → a * b ≡ b * a
    mul_comm a b = grind arith
