-- Images under an exchange that is its own inverse: the image of an image is the original, and an atom is in a state exactly if
-- its image is in the state's image.
use Rattle.std.proofs.Common.{◌≡◌, ◌∙◌, ℕ, zero, suc, ◌<◌, Bool, true, List, [], ◌∷◌, map, length, refl, sym, ap, subst, get_or, arith}
use Rattle.std.specs.Prelude.{nat_eq}
use Rattle.std.specs.List.{list_all, list_any}
use Rattle.std.specs.Ordering.{eq_by_cmp}
use Rattle.std.specs.Cmp.{Equal-is, tied_itself}
use Rattle.std.specs.FinSet.{contains, from_list, items, contains-from_list, contains-items}
use Rattle.std.proofs.lemmas.Bool.{and_parts, eq-eqb, eqb-true, ltb-true}
use Rattle.model.specs.Task.{Atom, LiftedAtom, Term, variable, object, Instance}
use Rattle.model.specs.Meaning.{State, atom_cmp, object_of, ground_atom}
use Rattle.model.proofs.Atoms.{atoms_total, atoms_apart, same_state}
use Rattle.model.proofs.StaticLemmas.{same_atom}
use Rattle.model.proofs.EnumerationLemmas.{is_bound}
use Rattle.symmetries_definitions.proofs.Lists.{tests_alike, any-at, any-found, any-map, any-alike}
use Rattle.symmetries_definitions.specs.Exchanges.{image_of_atom, image_of_state, image_of_instance, image_of_term, image_of_lifted}

index-map : (to : ℕ → ℕ) (xs : List ℕ) (k : ℕ) → k < length xs → get_or (map to xs) k 0 ≡ to (get_or xs k 0)
index-map to [] k below = absurd (omega arith)
index-map to (x ∷ xs) zero below = refl
index-map to (x ∷ xs) (suc k) below = index-map to xs k (omega arith)

-- the object that a term denotes under the image of the binding
pub object-image : (to : ℕ → ℕ) (b : List ℕ) (t : Term) → is_bound (length b) t ≡ true → object_of (map to b) (image_of_term to t) ≡ to (object_of b t)
object-image to b (variable number) bound = index-map to b number (ltb-true number (length b) bound)
object-image to b (object number) bound = refl

objects-image : (to : ℕ → ℕ) (b : List ℕ) (ts : List Term) → list_all (is_bound (length b)) ts ≡ true
    → map (object_of (map to b)) (map (image_of_term to) ts) ≡ map to (map (object_of b) ts)
objects-image to b [] bound = refl
objects-image to b (t ∷ ts) bound =
    let parts = and_parts (is_bound (length b) t) (list_all (is_bound (length b)) ts) bound in
    λ i. object-image to b t parts.0 i ∷ objects-image to b ts parts.1 i

pub atom-image : (to : ℕ → ℕ) (b : List ℕ) (a : LiftedAtom) → list_all (is_bound (length b)) a.terms ≡ true
    → ground_atom (map to b) (image_of_lifted to a) ≡ image_of_atom to (ground_atom b a)
atom-image to b a bound = ap (λ os. record { predicate = a.predicate; objects = os }) (objects-image to b a.terms bound)

-- ---- for any mapping of objects

itself-tied : (a : Atom) → eq_by_cmp atom_cmp a a ≡ true
itself-tied a = (Equal-is (atom_cmp a a)).1 (tied_itself atoms_total a)

-- the elements of a list's set are those of the list
any-items : (p : Atom → Bool) (xs : List Atom) (s : State) → from_list xs ≡ s → list_any p (items s) ≡ list_any p xs
any-items p xs s is = tests_alike (list_any p (items s)) (list_any p xs) forth back
  where
    members : (a : Atom) → list_any (eq_by_cmp atom_cmp a) (items s) ≡ list_any (eq_by_cmp atom_cmp a) xs
    members a = sym (contains-items s a) ∙ ap (λ t. contains t a) (sym is) ∙ contains-from_list atoms_total xs a

    forth : list_any p (items s) ≡ true → list_any p xs ≡ true
    forth some =
        let one = any-found p (items s) some in
        let other = any-found (eq_by_cmp atom_cmp one.0) xs (sym (members one.0) ∙ any-at (eq_by_cmp atom_cmp one.0) (items s) one.0 one.1 (itself-tied one.0)) in
        any-at p xs other.0 other.1 (ap p (sym (same_atom one.0 other.0 other.2)) ∙ one.2)

    back : list_any p xs ≡ true → list_any p (items s) ≡ true
    back some =
        let one = any-found p xs some in
        let other = any-found (eq_by_cmp atom_cmp one.0) (items s) (members one.0 ∙ any-at (eq_by_cmp atom_cmp one.0) xs one.0 one.1 (itself-tied one.0)) in
        any-at p (items s) other.0 other.1 (ap p (sym (same_atom one.0 other.0 other.2)) ∙ one.2)

contains-image_of : (to : ℕ → ℕ) (s : State) (a : Atom) → contains (image_of_state to s) a ≡ list_any (λ x. eq_by_cmp atom_cmp a (image_of_atom to x)) (items s)
contains-image_of to s a =
    contains-from_list atoms_total (map (image_of_atom to) (items s)) a ∙ any-map (eq_by_cmp atom_cmp a) (image_of_atom to) (items s)

map_itself : (xs : List ℕ) → map (λ o. o) xs ≡ xs
map_itself [] = refl
map_itself (x ∷ xs) = ap (λ l. x ∷ l) (map_itself xs)

map_after : (f g : ℕ → ℕ) (xs : List ℕ) → map f (map g xs) ≡ map (λ o. f (g o)) xs
map_after f g [] = refl
map_after f g (x ∷ xs) = ap (λ l. f (g x) ∷ l) (map_after f g xs)

pub instance_itself : (i : Instance) → image_of_instance (λ o. o) i ≡ i
instance_itself i = λ k. record { schema = i.schema; objects = map_itself i.objects k }

pub instance_after : (f g : ℕ → ℕ) (i : Instance) → image_of_instance f (image_of_instance g i) ≡ image_of_instance (λ o. f (g o)) i
instance_after f g i = λ k. record { schema = i.schema; objects = map_after f g i.objects k }

pub state_itself : (s : State) → image_of_state (λ o. o) s ≡ s
state_itself s =
    same_state (image_of_state (λ o. o) s) s (λ a.
    contains-image_of (λ o. o) s a
    ∙ any-alike (λ x. eq_by_cmp atom_cmp a (image_of_atom (λ o. o) x)) (eq_by_cmp atom_cmp a)
    (λ x. ap (λ os. eq_by_cmp atom_cmp a (record { predicate = x.predicate; objects = os })) (map_itself x.objects)) (items s)
    ∙ sym (contains-items s a))

pub state_after : (f g : ℕ → ℕ) (s : State) → image_of_state f (image_of_state g s) ≡ image_of_state (λ o. f (g o)) s
state_after f g s =
    same_state (image_of_state f (image_of_state g s)) (image_of_state (λ o. f (g o)) s) (λ a.
    contains-image_of f (image_of_state g s) a
    ∙ any-items (λ x. eq_by_cmp atom_cmp a (image_of_atom f x)) (map (image_of_atom g) (items s)) (image_of_state g s) refl
    ∙ any-map (λ x. eq_by_cmp atom_cmp a (image_of_atom f x)) (image_of_atom g) (items s)
    ∙ any-alike (λ x. eq_by_cmp atom_cmp a (image_of_atom f (image_of_atom g x))) (λ x. eq_by_cmp atom_cmp a (image_of_atom (λ o. f (g o)) x))
    (λ x. ap (λ os. eq_by_cmp atom_cmp a (record { predicate = x.predicate; objects = os })) (map_after f g x.objects)) (items s)
    ∙ sym (contains-image_of (λ o. f (g o)) s a))

-- ---- for a mapping that is its own inverse

module _ (to : ℕ → ℕ) (both_ways : (o : ℕ) → to (to o) ≡ o) where
  pub same_objects : (m n : ℕ) → nat_eq (to m) (to n) ≡ nat_eq m n
  same_objects m n =
      tests_alike (nat_eq (to m) (to n)) (nat_eq m n)
      (λ is. eq-eqb m n (sym (both_ways m) ∙ ap to (eqb-true (to m) (to n) is) ∙ both_ways n))
      (λ is. eq-eqb (to m) (to n) (ap to (eqb-true m n is)))

  pub twice : (xs : List ℕ) → map to (map to xs) ≡ xs
  twice [] = refl
  twice (x ∷ xs) = λ i. both_ways x i ∷ twice xs i

  pub atom_twice : (a : Atom) → image_of_atom to (image_of_atom to a) ≡ a
  atom_twice a = λ i. record { predicate = a.predicate; objects = twice a.objects i }

  atoms_tie : (a b : Atom) → a ≡ b → eq_by_cmp atom_cmp a b ≡ true
  atoms_tie a b is = subst (λ (c : Atom). eq_by_cmp atom_cmp a c ≡ true) is ((Equal-is (atom_cmp a a)).1 (tied_itself atoms_total a))

  atoms_one : (a b : Atom) → eq_by_cmp atom_cmp a b ≡ true → a ≡ b
  atoms_one a b tie = atoms_apart a b ((Equal-is (atom_cmp a b)).0 tie)

  pub same_atoms : (a b : Atom) → eq_by_cmp atom_cmp (image_of_atom to a) (image_of_atom to b) ≡ eq_by_cmp atom_cmp a b
  same_atoms a b =
      tests_alike (eq_by_cmp atom_cmp (image_of_atom to a) (image_of_atom to b)) (eq_by_cmp atom_cmp a b)
      (λ tie. atoms_tie a b (sym (atom_twice a) ∙ ap (image_of_atom to) (atoms_one (image_of_atom to a) (image_of_atom to b) tie) ∙ atom_twice b))
      (λ tie. atoms_tie (image_of_atom to a) (image_of_atom to b) (ap (image_of_atom to) (atoms_one a b tie)))

  -- an atom's image is in the image of a state exactly if the atom is in the state
  pub contains-image : (s : State) (a : Atom) → contains (image_of_state to s) (image_of_atom to a) ≡ contains s a
  contains-image s a =
      contains-from_list atoms_total (map (image_of_atom to) (items s)) (image_of_atom to a)
      ∙ any-map (eq_by_cmp atom_cmp (image_of_atom to a)) (image_of_atom to) (items s)
      ∙ any-alike (λ x. eq_by_cmp atom_cmp (image_of_atom to a) (image_of_atom to x)) (eq_by_cmp atom_cmp a) (same_atoms a) (items s)
      ∙ sym (contains-items s a)

  pub contains-back : (s : State) (a : Atom) → contains (image_of_state to s) a ≡ contains s (image_of_atom to a)
  contains-back s a =
      ap (contains (image_of_state to s)) (sym (atom_twice a)) ∙ contains-image s (image_of_atom to a)

  -- the state with these atoms is the image
  pub is_image : (s t : State) → ((a : Atom) → contains t (image_of_atom to a) ≡ contains s a) → t ≡ image_of_state to s
  is_image s t same =
      same_state t (image_of_state to s) (λ a.
      ap (contains t) (sym (atom_twice a)) ∙ same (image_of_atom to a) ∙ sym (contains-back s a))

  pub state_twice : (s : State) → image_of_state to (image_of_state to s) ≡ s
  state_twice s = sym (is_image (image_of_state to s) s (λ a. sym (contains-back s a)))

  -- the image of a list's atoms
  pub image_of_list : (xs : List Atom) → image_of_state to (from_list xs) ≡ from_list (map (image_of_atom to) xs)
  image_of_list xs =
      sym (is_image (from_list xs) (from_list (map (image_of_atom to) xs)) (λ a.
      contains-from_list atoms_total (map (image_of_atom to) xs) (image_of_atom to a)
      ∙ any-map (eq_by_cmp atom_cmp (image_of_atom to a)) (image_of_atom to) xs
      ∙ any-alike (λ x. eq_by_cmp atom_cmp (image_of_atom to a) (image_of_atom to x)) (eq_by_cmp atom_cmp a) (same_atoms a) xs
      ∙ sym (contains-from_list atoms_total xs a)))
