-- The order of atoms is total and distinguishes all atoms, so two states with the same atoms are equal.
use Rattle.std.specs.Prelude.{◌≡◌, ℕ, Bool, true, false, not, ◌&&◌, ◌||◌, List, [], ◌∷◌, ◌++◌, refl}
use Rattle.std.proofs.Common.{sym, ◌∙◌, ap}
use Rattle.std.specs.Cmp.{IsTotalOrder, on_total}
use Rattle.std.specs.Cmp.Lexicographic.{nat_list_cmp_total}
use Rattle.std.specs.Ordering.{eq_by_cmp}
use Rattle.std.proofs.lemmas.List.Folds.{list_any-append}
use Rattle.std.specs.FinSet.{contains, from_list, insert, remove, union, difference, contains-from_list, contains-insert, contains-remove, contains-difference, contains-union, same_set, IsAntisymmetric, nat_cmp-IsAntisymmetric, slice_cmp-IsAntisymmetric}
use Rattle.model.specs.Task.{Atom}
use Rattle.model.specs.Meaning.{State, atom_cmp, GroundLiteral, adds, deletes, added_by, deleted_by}
pub use Rattle.model.specs.NumberedAtoms.{occurs_in}

abbrev numbers_of : Atom → List ℕ
numbers_of a = a.predicate ∷ a.objects

pub atoms_total : IsTotalOrder atom_cmp
atoms_total = on_total numbers_of nat_list_cmp_total

numbers_apart : (p q : ℕ) (xs ys : List ℕ) → p ∷ xs ≡ q ∷ ys → (p ≡ q) × (xs ≡ ys)
numbers_apart p q xs ys e = (cc, cc)

pub atoms_apart : IsAntisymmetric atom_cmp
atoms_apart a b e =
    let same = numbers_apart a.predicate b.predicate a.objects b.objects (slice_cmp-IsAntisymmetric nat_cmp-IsAntisymmetric (numbers_of a) (numbers_of b) e) in
    λ i. record { predicate = same.0 i; objects = same.1 i }

-- two states with the same atoms are equal
pub same_state : (s t : State) → ((a : Atom) → contains s a ≡ contains t a) → s ≡ t
same_state s t same = same_set atoms_total atoms_apart s t same

-- ---- sets of lists, and what further lists add to a state or remove from it

cond_nothing : (b : Bool) → (b && not false) ≡ b
cond_nothing true = refl
cond_nothing false = refl

or_nothing : (b : Bool) → (b || false) ≡ b
or_nothing true = refl
or_nothing false = refl

and_swap : (b c : Bool) → (b && not (c || false)) ≡ (not c && b)
and_swap true true = refl
and_swap true false = refl
and_swap false true = refl
and_swap false false = refl

or_swap : (b c : Bool) → (b || (c || false)) ≡ (c || b)
or_swap true true = refl
or_swap true false = refl
or_swap false true = refl
or_swap false false = refl

and_twice : (b c d : Bool) → ((b && not c) && not d) ≡ (b && not (c || d))
and_twice true true d = refl
and_twice true false d = refl
and_twice false c d = refl

or_twice : (b c d : Bool) → ((b || c) || d) ≡ (b || (c || d))
or_twice true c d = refl
or_twice false c d = refl

abbrev set_of : List Atom → State
set_of atoms = from_list atoms

abbrev has : State → Atom → Bool
has s a = contains s a

has-set_of : (atoms : List Atom) (q : Atom) → has (set_of atoms) q ≡ occurs_in atoms q
has-set_of atoms q = contains-from_list atoms_total atoms q

has-difference : (s : State) (atoms : List Atom) (q : Atom) → has (difference s (set_of atoms)) q ≡ (has s q && not (occurs_in atoms q))
has-difference s atoms q = contains-difference atoms_total s (set_of atoms) q ∙ ap (λ b. has s q && not b) (has-set_of atoms q)

has-union : (s : State) (atoms : List Atom) (q : Atom) → has (union s (set_of atoms)) q ≡ (has s q || occurs_in atoms q)
has-union s atoms q = contains-union atoms_total s (set_of atoms) q ∙ ap (λ b. has s q || b) (has-set_of atoms q)

pub occurs_in-append : (xs ys : List Atom) (q : Atom) → occurs_in (xs ++ ys) q ≡ (occurs_in xs q || occurs_in ys q)
occurs_in-append xs ys q = list_any-append (eq_by_cmp atom_cmp q) xs ys

pub difference-none : (s : State) → difference s (set_of []) ≡ s
difference-none s = same_state _ s (λ q. has-difference s [] q ∙ cond_nothing (has s q))

pub difference-one : (s : State) (a : Atom) → difference s (set_of (a ∷ [])) ≡ remove s a
difference-one s a = same_state _ _ (λ q. has-difference s (a ∷ []) q ∙ and_swap (has s q) (eq_by_cmp atom_cmp q a) ∙ sym (contains-remove atoms_total s a q))

pub difference-append : (s : State) (xs ys : List Atom) → difference s (set_of (xs ++ ys)) ≡ difference (difference s (set_of xs)) (set_of ys)
difference-append s xs ys =
    same_state _ _ (λ q.
    has-difference s (xs ++ ys) q ∙ ap (λ b. has s q && not b) (occurs_in-append xs ys q) ∙ sym (and_twice (has s q) (occurs_in xs q) (occurs_in ys q))
    ∙ sym (has-difference (difference s (set_of xs)) ys q ∙ ap (λ b. b && not (occurs_in ys q)) (has-difference s xs q)))

pub union-none : (s : State) → union s (set_of []) ≡ s
union-none s = same_state _ s (λ q. has-union s [] q ∙ or_nothing (has s q))

pub union-one : (s : State) (a : Atom) → union s (set_of (a ∷ [])) ≡ insert s a
union-one s a = same_state _ _ (λ q. has-union s (a ∷ []) q ∙ or_swap (has s q) (eq_by_cmp atom_cmp q a) ∙ sym (contains-insert atoms_total s a q))

pub union-append : (s : State) (xs ys : List Atom) → union s (set_of (xs ++ ys)) ≡ union (union s (set_of xs)) (set_of ys)
union-append s xs ys =
    same_state _ _ (λ q.
    has-union s (xs ++ ys) q ∙ ap (λ b. has s q || b) (occurs_in-append xs ys q) ∙ sym (or_twice (has s q) (occurs_in xs q) (occurs_in ys q))
    ∙ sym (has-union (union s (set_of xs)) ys q ∙ ap (λ b. b || occurs_in ys q) (has-union s xs q)))

-- ---- the literals of one effect after another

pub added_by-append : (xs ys : List GroundLiteral) → added_by (xs ++ ys) ≡ added_by xs ++ added_by ys
added_by-append [] ys = refl
added_by-append (adds a ∷ xs) ys = ap (λ l. a ∷ l) (added_by-append xs ys)
added_by-append (deletes a ∷ xs) ys = added_by-append xs ys

pub deleted_by-append : (xs ys : List GroundLiteral) → deleted_by (xs ++ ys) ≡ deleted_by xs ++ deleted_by ys
deleted_by-append [] ys = refl
deleted_by-append (adds a ∷ xs) ys = deleted_by-append xs ys
deleted_by-append (deletes a ∷ xs) ys = ap (λ l. a ∷ l) (deleted_by-append xs ys)
