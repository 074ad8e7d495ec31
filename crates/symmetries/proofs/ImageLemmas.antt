-- Atoms and formulas and their images, part by part.
use Rattle.std.proofs.Common.{◌≡◌, ◌∙◌, ℕ, ◌+◌, ◌<◌, ◌≤◌, Bool, true, false, ◌&&◌, List, [], ◌∷◌, ◌++◌, length, map, take, drop, get_or, Option, Some, refl, sym, ap}
use Rattle.std.specs.Cmp.Lexicographic.{pointwise}
use Rattle.std.specs.Global.{Vec}
use Rattle.std.specs.Option.{option_map_or}
use Rattle.std.proofs.lemmas.List.{take_all, take_more, map-append}
use Rattle.task.specs.declared.atoms.ObjectId.{ObjectId}
use Rattle.task.specs.declared.schemas.Formula.{Formula}
use Rattle.task.specs.declared.schemas.Formula as formula
use Rattle.task.specs.TaskParts.{object_of, formula_of}
use Rattle.symmetries.specs.Lent.{listed, and_parts, or_parts}
use Rattle.formulas.proofs.Pointwise.{pointwise-drop}
use Rattle.formulas.proofs.Trees.{formulas_in, formula_of-And, formula_of-Or}
use Rattle.model.specs.Task as task
use Rattle.symmetries_definitions.specs.Exchanges.{image_of_formula, image_of_formulas}
use Rattle.symmetries_definitions.specs.SameFormula.{is_same_formula, are_same_formulas}

-- ---- the objects of an atom

module _ (to : ℕ → ℕ) (images objects : List ObjectId) (i : ℕ) where
  pub imaged_more : (d o : ObjectId) → i < length objects → map object_of images ≡ map (λ one. to (object_of one)) (take i objects) → o.0 ≡ to (object_of (get_or objects i d))
      → map object_of (images ++ o ∷ []) ≡ map (λ one. to (object_of one)) (take (i + 1) objects)
  imaged_more d o within before here =
      map-append object_of images (o ∷ []) ∙ (λ j. before j ++ here j ∷ [])
      ∙ sym (ap (map (λ one. to (object_of one))) (take_more objects i d within) ∙ map-append (λ one. to (object_of one)) (take i objects) (get_or objects i d ∷ []))

  pub imaged_whole : length objects ≤ i → map object_of images ≡ map (λ one. to (object_of one)) (take i objects) → map object_of images ≡ map to (map object_of objects)
  imaged_whole past so = so ∙ ap (map (λ one. to (object_of one))) (take_all i objects past) ∙ both objects
    where
      both : (all : List ObjectId) → map (λ one. to (object_of one)) all ≡ map to (map object_of all)
      both [] = refl
      both (one ∷ rest) = ap (λ l. to (object_of one) ∷ l) (both rest)

-- ---- two lists, index by index

pub pair_passes : {A B : Type 0} (p : A → B → Bool) (xs : List A) (ys : List B) (i : ℕ) (d : A) (e : B) → i < length xs → i < length ys → pointwise p (drop i xs) (drop i ys) ≡ pointwise p xs ys
    → p (get_or xs i d) (get_or ys i e) ≡ true → pointwise p (drop (i + 1) xs) (drop (i + 1) ys) ≡ pointwise p xs ys
pair_passes p xs ys i d e inside within so here =
    sym (ap (λ b. b && pointwise p (drop (i + 1) xs) (drop (i + 1) ys)) here) ∙ sym (pointwise-drop p xs ys i d e inside within) ∙ so

pub pointwise-map : {X Y Z W : Type 0} (p : Z → W → Bool) (f : X → Y) (g : Y → Z) (h : X → W) (xs ys : List X)
    → pointwise p (map g (map f xs)) (map h ys) ≡ pointwise (λ x y. p (g (f x)) (h y)) xs ys
pointwise-map p f g h [] [] = refl
pointwise-map p f g h [] (y ∷ ys) = refl
pointwise-map p f g h (x ∷ xs) [] = refl
pointwise-map p f g h (x ∷ xs) (y ∷ ys) = ap (λ b. p (g (f x)) (h y) && b) (pointwise-map p f g h xs ys)

-- ---- the parts of a formula

abbrev pub image_is : (ℕ → ℕ) → task.Formula → task.Formula → Bool
image_is to f g = is_same_formula (image_of_formula to f) g

listed_in : (xs : List Formula) → listed (formulas_in xs) ≡ map formula_of xs
listed_in [] = refl
listed_in (x ∷ xs) = ap (λ l. formula_of x ∷ l) (listed_in xs)

same_listed : (to : ℕ → ℕ) (fs gs : task.Formulas) → are_same_formulas (image_of_formulas to fs) gs ≡ pointwise (image_is to) (listed fs) (listed gs)
same_listed to task.no_formula task.no_formula = refl
same_listed to task.no_formula (task.more_formulas g gs) = refl
same_listed to (task.more_formulas f fs) task.no_formula = refl
same_listed to (task.more_formulas f fs) (task.more_formulas g gs) = ap (λ b. image_is to f g && b) (same_listed to fs gs)

image_of_and : (to : ℕ → ℕ) (fs : task.Formulas) (g : task.Formula) → image_is to (task.and fs) g ≡ option_map_or (pointwise (image_is to) (listed fs)) (and_parts g) false
image_of_and to fs (task.and gs) = same_listed to fs gs
image_of_and to fs (task.atom a) = refl
image_of_and to fs (task.equal t u) = refl
image_of_and to fs (task.or gs) = refl
image_of_and to fs (task.not g) = refl
image_of_and to fs (task.imply g h) = refl
image_of_and to fs (task.exists types g) = refl
image_of_and to fs (task.forall types g) = refl

image_of_or : (to : ℕ → ℕ) (fs : task.Formulas) (g : task.Formula) → image_is to (task.or fs) g ≡ option_map_or (pointwise (image_is to) (listed fs)) (or_parts g) false
image_of_or to fs (task.or gs) = same_listed to fs gs
image_of_or to fs (task.atom a) = refl
image_of_or to fs (task.equal t u) = refl
image_of_or to fs (task.and gs) = refl
image_of_or to fs (task.not g) = refl
image_of_or to fs (task.imply g h) = refl
image_of_or to fs (task.exists types g) = refl
image_of_or to fs (task.forall types g) = refl

-- a conjunction, or a disjunction, by the list of its parts
pub parts_of-And : (f : Formula) (parts : Vec Formula) → f ≡ formula.And parts → Some (map formula_of parts.items) ≡ and_parts (formula_of f)
parts_of-And f parts is = ap Some (sym (listed_in parts.items)) ∙ sym (ap (λ g. and_parts (formula_of g)) is ∙ ap and_parts (formula_of-And parts))

pub parts_of-Or : (f : Formula) (parts : Vec Formula) → f ≡ formula.Or parts → Some (map formula_of parts.items) ≡ or_parts (formula_of f)
parts_of-Or f parts is = ap Some (sym (listed_in parts.items)) ∙ sym (ap (λ g. or_parts (formula_of g)) is ∙ ap or_parts (formula_of-Or parts))

module _ (to : ℕ → ℕ) (f : Formula) (g : task.Formula) (parts : Vec Formula) (items : List Formula) (same : items ≡ parts.items) (found : Option (List task.Formula)) where
  pub image_by_and : f ≡ formula.And parts → found ≡ and_parts g → option_map_or (pointwise (image_is to) (map formula_of items)) found false ≡ image_is to (formula_of f) g
  image_by_and is so =
      ap (λ o. option_map_or (pointwise (image_is to) (map formula_of items)) o false) so
      ∙ ap (λ l. option_map_or (pointwise (image_is to) l) (and_parts g) false) (ap (map formula_of) same ∙ sym (listed_in parts.items))
      ∙ sym (ap (λ h. image_is to (formula_of h) g) is ∙ ap (λ h. image_is to h g) (formula_of-And parts) ∙ image_of_and to (formulas_in parts.items) g)

  pub image_by_or : f ≡ formula.Or parts → found ≡ or_parts g → option_map_or (pointwise (image_is to) (map formula_of items)) found false ≡ image_is to (formula_of f) g
  image_by_or is so =
      ap (λ o. option_map_or (pointwise (image_is to) (map formula_of items)) o false) so
      ∙ ap (λ l. option_map_or (pointwise (image_is to) l) (or_parts g) false) (ap (map formula_of) same ∙ sym (listed_in parts.items))
      ∙ sym (ap (λ h. image_is to (formula_of h) g) is ∙ ap (λ h. image_is to h g) (formula_of-Or parts) ∙ image_of_or to (formulas_in parts.items) g)
