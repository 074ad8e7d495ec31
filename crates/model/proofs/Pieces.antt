-- A list built piece by piece from the elements of another, of which the first are done.
use Rattle.std.proofs.Common.{◌≡◌, ℕ, ◌+◌, ◌<◌, ◌≤◌, List, [], ◌∷◌, ◌++◌, length, map, take, drop, get_or, sym, ap, ◌∙◌, append-nil, take-append-drop}
use Rattle.std.specs.List.{flat_map}
use Rattle.std.proofs.lemmas.Grind.{flat_map-append}
use Rattle.std.proofs.lemmas.List.{take_all, take_more}
use Rattle.std.proofs.lemmas.List.Folds.{flat_map-map}

-- up to an index, and from there on
module _ {Y Z : Type 0} (f : Y → List Z) (ys : List Y) (i : ℕ) where
  pub parts_split : flat_map f ys ≡ flat_map f (take i ys) ++ flat_map f (drop i ys)
  parts_split = ap (flat_map f) (sym (take-append-drop i ys)) ∙ flat_map-append f (take i ys) (drop i ys)

  pub parts_more : (y : Y) → i < length ys → get_or ys i y ≡ y → flat_map f (take (i + 1) ys) ≡ flat_map f (take i ys) ++ f y
  parts_more y within is =
      ap (flat_map f) (take_more ys i y within)
      ∙ flat_map-append f (take i ys) (get_or ys i y ∷ [])
      ∙ ap (λ y. flat_map f (take i ys) ++ (f y ++ [])) is
      ∙ ap (λ bs. flat_map f (take i ys) ++ bs) (append-nil (f y))

  pub parts_all : length ys ≤ i → flat_map f (take i ys) ≡ flat_map f ys
  parts_all past = ap (flat_map f) (take_all i ys past)

-- the same for a list viewed through a function
module _ {X Y Z : Type 0} (f : Y → List Z) (v : X → Y) (xs : List X) (i : ℕ) where
  pub pieces_split : flat_map f (map v xs) ≡ flat_map f (map v (take i xs)) ++ flat_map f (map v (drop i xs))
  pieces_split =
      flat_map-map f v xs
      ∙ ap (flat_map (λ y. f (v y))) (sym (take-append-drop i xs))
      ∙ flat_map-append (λ y. f (v y)) (take i xs) (drop i xs)
      ∙ ap (λ zs. zs ++ flat_map (λ y. f (v y)) (drop i xs)) (sym (flat_map-map f v (take i xs)))
      ∙ ap (λ zs. flat_map f (map v (take i xs)) ++ zs) (sym (flat_map-map f v (drop i xs)))

  pub pieces_more : (x : X) → i < length xs → x ≡ get_or xs i x → flat_map f (map v (take (i + 1) xs)) ≡ flat_map f (map v (take i xs)) ++ f (v x)
  pieces_more x within is =
      ap (λ ys. flat_map f (map v ys)) (take_more xs i x within)
      ∙ flat_map-map f v (take i xs ++ get_or xs i x ∷ [])
      ∙ flat_map-append (λ y. f (v y)) (take i xs) (get_or xs i x ∷ [])
      ∙ ap (λ zs. zs ++ (f (v (get_or xs i x)) ++ [])) (sym (flat_map-map f v (take i xs)))
      ∙ ap (λ y. flat_map f (map v (take i xs)) ++ (f (v y) ++ [])) (sym is)
      ∙ ap (λ zs. flat_map f (map v (take i xs)) ++ zs) (append-nil (f (v x)))

  pub pieces_all : length xs ≤ i → flat_map f (map v (take i xs)) ≡ flat_map f (map v xs)
  pieces_all past = ap (λ zs. flat_map f (map v zs)) (take_all i xs past)
