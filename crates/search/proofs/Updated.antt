-- A function on states that has another value at one of them.
use Rattle.std.proofs.Common.{◌≡◌, ◌≢◌, ◌⊎◌, inl, inr, List, [], ◌∷◌, Bool, true, false, refl, ap, ◌∙◌}

same_bit : (a b : Bool) → (a ≡ b) ⊎ (a ≢ b)
same_bit true true = inl refl
same_bit true false = inr (λ is. absurd (cc))
same_bit false true = inr (λ is. absurd (cc))
same_bit false false = inl refl

-- two states are equal, or they differ
pub same_bits : (s r : List Bool) → (s ≡ r) ⊎ (s ≢ r)
same_bits [] [] = inl refl
same_bits [] (b ∷ r) = inr (λ is. absurd (cc))
same_bits (a ∷ s) [] = inr (λ is. absurd (cc))
same_bits (a ∷ s) (b ∷ r) =
    elim (same_bit a b) [
      | inl same ↦
          elim (same_bits s r) [
            | inl rest ↦ inl (ap (λ (c : Bool). c ∷ s) same ∙ ap (λ (t : List Bool). b ∷ t) rest)
            | inr other ↦ inr (λ is. other (cc))
          ]
      | inr other ↦ inr (λ is. other (cc))
    ]

first_if : {P Q T : Type 0} → P ⊎ Q → T → T → T
first_if (inl p) x y = x
first_if (inr q) x y = y

-- the function with this value at this state
pub with_at : {T : Type 0} → (List Bool → T) → List Bool → T → List Bool → T
with_at {T} f s v x = first_if (same_bits x s) v (f x)

pub with_cases : {T : Type 0} (f : List Bool → T) (s : List Bool) (v : T) (x : List Bool) → ((x ≡ s) × (with_at f s v x ≡ v)) ⊎ ((x ≢ s) × (with_at f s v x ≡ f x))
unfolding with_at first_if
with_cases {T} f s v x =
    elim (same_bits x s) as (λ (e : (x ≡ s) ⊎ (x ≢ s)). ((x ≡ s) × (first_if e v (f x) ≡ v)) ⊎ ((x ≢ s) × (first_if e v (f x) ≡ f x))) [
      | inl is ↦ inl (is, refl)
      | inr other ↦ inr (other, refl)
    ]

pub with_here : {T : Type 0} (f : List Bool → T) (s : List Bool) (v : T) → with_at f s v s ≡ v
with_here {T} f s v = elim (with_cases f s v s) [ inl is ↦ is.1 | inr other ↦ absurd (other.0 refl) ]

pub with_other : {T : Type 0} (f : List Bool → T) (s : List Bool) (v : T) (x : List Bool) → x ≢ s → with_at f s v x ≡ f x
with_other {T} f s v x other = elim (with_cases f s v x) [ inl is ↦ absurd (other is.0) | inr is ↦ is.1 ]
