-- Representatives in a form that computes on a given state: with the list of its atoms instead of their set.
use Rattle.std.proofs.Common.{◌≡◌, ◌∙◌, ℕ, zero, suc, Bool, true, false, List, [], ◌∷◌, map, Option, None, Some, refl, ap}
use Rattle.std.specs.Prelude.{cond}
use Rattle.std.specs.Bool.{beq}
use Rattle.std.specs.Option.{option_map, option_map_or}
use Rattle.std.specs.FinSet.{from_list, contains-from_list}
use Rattle.model.specs.Task.{Atom}
use Rattle.model.specs.Meaning.{atom_cmp}
use Rattle.model.specs.NumberedAtoms.{occurs_in}
use Rattle.model.proofs.Atoms.{atoms_total}
use Rattle.symmetries_definitions.specs.Exchanges.{Exchange, image_of_object, objects_in, are_different, image_of_atom, image_of_state}
use Rattle.symmetries_definitions.specs.Orbits.{comes_before, image_before, with_images}
use Rattle.symmetries_definitions.proofs.ExchangeLemmas.{own_inverse}
use Rattle.symmetries_definitions.proofs.Images.{image_of_list}

-- the order of states, on lists of their atoms
abbrev pub list_before : List Atom → List Atom → List Atom → Bool
list_before [] xs ys = false
list_before (a ∷ atoms) xs ys = cond (beq (occurs_in xs a) (occurs_in ys a)) (list_before atoms xs ys) (occurs_in xs a)

before-list : (atoms xs ys : List Atom) → comes_before atoms (from_list xs) (from_list ys) ≡ list_before atoms xs ys
before-list [] xs ys = refl
before-list (a ∷ atoms) xs ys =
    λ i. cond (beq (contains-from_list atoms_total xs a i) (contains-from_list atoms_total ys a i)) (before-list atoms xs ys i) (contains-from_list atoms_total xs a i)

-- the objects of each exchange are different
abbrev pub AreAllDifferent : List Exchange → Type 0
AreAllDifferent [] = Unit {0}
AreAllDifferent (exchange ∷ rest) = (are_different (objects_in exchange) ≡ true) × AreAllDifferent rest

-- images of states, on lists of their atoms
abbrev pub image_of_all : Exchange → List Atom → List Atom
image_of_all exchange xs = map (image_of_atom (image_of_object exchange)) xs

abbrev pub image_in : List Atom → List Exchange → List Atom → Option (List Atom)
image_in atoms [] xs = None
image_in atoms (exchange ∷ rest) xs = cond (list_before atoms (image_of_all exchange xs) xs) (Some (image_of_all exchange xs)) (image_in atoms rest xs)

abbrev pub images_in : List Atom → List Exchange → ℕ → List Atom → List Atom
images_in atoms exchanges zero xs = xs
images_in atoms exchanges (suc n) xs = option_map_or (images_in atoms exchanges n) (image_in atoms exchanges xs) xs

pushed : (b : Bool) (ys : List Atom) (o : Option (List Atom)) → cond b (Some (from_list {R = atom_cmp} ys)) (option_map from_list o) ≡ option_map from_list (cond b (Some ys) o)
pushed true ys o = refl
pushed false ys o = refl

before-list_images : (atoms : List Atom) (exchanges : List Exchange) → AreAllDifferent exchanges → (xs : List Atom)
    → image_before atoms exchanges (from_list xs) ≡ option_map from_list (image_in atoms exchanges xs)
before-list_images atoms [] different xs = refl
before-list_images atoms (exchange ∷ rest) (different, others) xs =
    (λ i. cond (comes_before atoms (is i) (from_list xs)) (Some (is i)) (before-list_images atoms rest others xs i))
    ∙ ap (λ b. cond b (Some (from_list image)) (option_map from_list (image_in atoms rest xs))) (before-list atoms image xs)
    ∙ pushed (list_before atoms image xs) image (image_in atoms rest xs)
  where
    image : List Atom
    image = image_of_all exchange xs

    is : image_of_state (image_of_object exchange) (from_list xs) ≡ from_list image
    is = image_of_list (image_of_object exchange) (own_inverse exchange different) xs

pub images-list : (atoms : List Atom) (exchanges : List Exchange) → AreAllDifferent exchanges → (n : ℕ) (xs : List Atom)
    → with_images atoms exchanges n (from_list xs) ≡ from_list (images_in atoms exchanges n xs)
images-list atoms exchanges different zero xs = refl
images-list atoms exchanges different (suc n) xs =
    ap (λ o. option_map_or (with_images atoms exchanges n) o (from_list xs)) (before-list_images atoms exchanges different xs)
    ∙ by_found (images-list atoms exchanges different n) (image_in atoms exchanges xs)
  where
    by_found : ((ys : List Atom) → with_images atoms exchanges n (from_list ys) ≡ from_list (images_in atoms exchanges n ys))
        → (o : Option (List Atom)) → option_map_or (with_images atoms exchanges n) (option_map from_list o) (from_list xs) ≡ from_list (option_map_or (images_in atoms exchanges n) o xs)
    by_found later None = refl
    by_found later (Some ys) = later ys
