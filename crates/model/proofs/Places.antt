-- Two indices of a list: they are equal, or one comes before the other.
use Rattle.std.proofs.Common.{◌≡◌, List, [], ◌∷◌, ◌++◌, refl, sym, ap}

pub data Places {A : Type 0} (b c : List A) (w x : A) : Type 0 where
  at_one : b ≡ c → w ≡ x → Places b c w x
  comes_before : (rest : List A) → c ≡ b ++ w ∷ rest → Places b c w x
  comes_after : (rest : List A) → b ≡ c ++ x ∷ rest → Places b c w x

pub places : {A : Type 0} (b c r s : List A) (w x : A) → b ++ w ∷ r ≡ c ++ x ∷ s → Places b c w x
places [] [] r s w x e = at_one refl (cc)
places {A} [] (y ∷ c) r s w x e = comes_before c (let head : w ≡ y = cc in ap (λ (z : A). z ∷ c) (sym head))
places {A} (y ∷ b) [] r s w x e = comes_after b (let head : y ≡ x = cc in ap (λ (z : A). z ∷ b) head)
places {A} (y ∷ b) (z ∷ c) r s w x e = by_rest (places b c r s w x (cc))
  where
    head : y ≡ z
    head = cc

    by_rest : Places b c w x → Places (y ∷ b) (z ∷ c) w x
    by_rest (at_one p q) = at_one (cc) q
    by_rest (comes_before rest p) = comes_before rest (cc)
    by_rest (comes_after rest p) = comes_after rest (cc)
