-- Items that are pushed one after another, each belonging to the one in its place.
use Rattle.std.proofs.Common.{◌≡◌, ◌∙◌, ℕ, zero, suc, ◌+◌, ◌≤◌, inl, inr, ◌⊎◌, List, [], ◌∷◌, ◌++◌, length, length-append, None, Some, refl, sym, ap, subst, arith}
use Rattle.std.specs.Prelude.{slice_get}
use Rattle.grounding.specs.InPlace.{AreInPlace}

-- an item for each of the first `count` items
pub record AreSoFar {X Y : Type 0} (belongs : X → Y → Type 0) (xs : List X) (ys : List Y) (count : ℕ) : Type 0 where
  pub as_many : length ys ≡ count
  pub each : (n : ℕ) (x : X) (y : Y) → slice_get xs n ≡ Some x → slice_get ys n ≡ Some y → belongs x y

pub got-push : {Y : Type 0} (ys : List Y) (y z : Y) (n : ℕ) → slice_get (ys ++ y ∷ []) n ≡ Some z → (slice_get ys n ≡ Some z) ⊎ ((n ≡ length ys) × (y ≡ z))
got-push [] y z zero at = inr (refl, cc)
got-push [] y z (suc n) at = absurd (cc)
got-push (x ∷ ys) y z zero at = inl at
got-push (x ∷ ys) y z (suc n) at =
    elim (got-push ys y z n at) [
      | inl before ↦ inl before
      | inr last ↦ inr (omega (arith, last.0), last.1)
    ]

module _ {X Y : Type 0} (belongs : X → Y → Type 0) (xs : List X) where
  pub so_far-none : (ys : List Y) → ys ≡ [] → AreSoFar belongs xs ys 0
  so_far-none ys none = record {
    as_many = ap length none;
    each = λ n x y here there.
        let impossible : None ≡ Some y = sym (ap (λ (l : List Y). slice_get l n) none ∙ nowhere n) ∙ there in
        absurd (cc);
  }
    where
      nowhere : (n : ℕ) → slice_get {X = Y} [] n ≡ None
      nowhere n = refl

  pub so_far-more : (ys zs : List Y) (count : ℕ) (x : X) (y : Y) → slice_get xs count ≡ Some x → zs ≡ ys ++ y ∷ [] → belongs x y → AreSoFar belongs xs ys count → AreSoFar belongs xs zs (count + 1)
  so_far-more ys zs count x y at is here before = record {
    as_many = omega (arith, ap length is, length-append ys (y ∷ []), before.as_many);
    each = λ n a b first second.
        elim (got-push ys y b n (ap (λ (l : List Y). slice_get l n) (sym is) ∙ second)) [
          | inl earlier ↦ before.each n a b first earlier
          | inr last ↦
              let same : x ≡ a = some-same x a (sym at ∙ ap (slice_get xs) (sym (last.0 ∙ before.as_many)) ∙ first) in
              subst (λ z. belongs a z) last.1 (subst (λ z. belongs z y) same here)
        ];
  }
    where
      some-same : (u v : X) → Some u ≡ Some v → u ≡ v
      some-same u v e = cc

  pub so_far-end : (ys : List Y) (count : ℕ) → length xs ≤ count → count ≤ length xs → AreSoFar belongs xs ys count → AreInPlace belongs xs ys
  so_far-end ys count past within far = record { as_long = omega (arith, past, within, far.as_many); each = far.each }
