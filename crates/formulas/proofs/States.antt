-- The code's ordered set of atoms and the model's set: both order atoms alike, so they have the same elements.
use Rattle.std.specs.Prelude.{◌≡◌, ℕ, ◌+◌, ◌<◌, ◌≤◌, Bool, true, false, cond, not, ◌&&◌, ◌||◌, List, [], ◌∷◌, ◌++◌, length, map, take, refl}
use Rattle.std.proofs.Common.{sym, ◌∙◌, ap, subst, get_or}
use Rattle.std.specs.declared.cmp.Ordering.{Ordering}
use Rattle.std.specs.Ordering.{ordering_then, nat_cmp, eq_by_cmp, is_eq}
use Rattle.std.specs.Cmp.{eq_by_cmp_equiv}
use Rattle.std.specs.Cmp.Lexicographic.{slice_cmp}
use Rattle.std.specs.BTreeMap.{is_at}
use Rattle.std.specs.BTreeSet as sorted
use Rattle.std.specs.BTreeSet.{BTreeSet}
use Rattle.std.specs.List.{list_any}
use Rattle.std.specs.List.Sorted.{IsStrictlySortedBy}
use Rattle.std.proofs.lemmas.List.{take_all, take_more, map-append}
use Rattle.std.specs.FinSet.{contains, from_list_push, insert, remove, from_list, contains-from_list, contains-insert, contains-remove}
use Rattle.task.specs.declared.atoms.Atom.{Atom}
use Rattle.task.specs.declared.atoms.ObjectId.{ObjectId}
use Rattle.task.specs.contracts.atoms.AtomOrd.TheImpl as atom_ord
use Rattle.task.specs.contracts.atoms.ObjectIdOrd.TheImpl as object_ord
use Rattle.task.proofs.AtomEquality.{atom_at}
use Rattle.task.specs.TaskParts.{atom_of, object_of, AreInOrder}
use Rattle.model.specs.Task as task
use Rattle.model.specs.Meaning.{State, atom_cmp}
use Rattle.model.proofs.Atoms.{atoms_total, atoms_apart, same_state}

-- the order of the code's atoms
abbrev pub code_cmp : Atom → Atom → Ordering
code_cmp = (atom_ord.ghosts).cmp

objects_alike : (xs ys : List ObjectId) → slice_cmp (object_ord.ghosts).cmp xs ys ≡ slice_cmp nat_cmp (map object_of xs) (map object_of ys)
objects_alike [] [] = refl
objects_alike [] (y ∷ ys) = refl
objects_alike (x ∷ xs) [] = refl
objects_alike (x ∷ xs) (y ∷ ys) = ap (ordering_then (nat_cmp x.0 y.0)) (objects_alike xs ys)

-- it is the model's
pub order_alike : (a b : Atom) → code_cmp a b ≡ atom_cmp (atom_of a) (atom_of b)
order_alike a b = ap (ordering_then (nat_cmp a.predicate.0 b.predicate.0)) (objects_alike a.objects.items b.objects.items)

-- the model's order of the code's atoms
abbrev pub model_cmp : Atom → Atom → Ordering
model_cmp a b = atom_cmp (atom_of a) (atom_of b)

orders_alike : code_cmp ≡ model_cmp
orders_alike = λ i a b. order_alike a b i

-- what ascends in one order ascends in the other
pub in_order : (keys : List Atom) → IsStrictlySortedBy code_cmp keys → AreInOrder keys
in_order keys ordered = subst (λ R. IsStrictlySortedBy R keys) orders_alike ordered

-- ---- every atom of the model is one of the code

numbers_at : (xs : List ℕ) → map object_of (map (λ n. record { 0 = n }) xs) ≡ xs
numbers_at [] = refl
numbers_at (x ∷ xs) = ap (λ rest. x ∷ rest) (numbers_at xs)

atom_of-atom_at : (a : task.Atom) → atom_of (atom_at a) ≡ a
atom_of-atom_at a = λ i. record { predicate = a.predicate; objects = numbers_at a.objects i }

-- ---- the sets

-- the model's set of the code's atoms
abbrev pub set_of : List Atom → State
set_of keys = from_list (map atom_of keys)

any_alike : (k : Atom) (keys : List Atom) → list_any (is_at (code_cmp k)) keys ≡ list_any (eq_by_cmp atom_cmp (atom_of k)) (map atom_of keys)
any_alike k [] = refl
any_alike k (x ∷ keys) = λ i. is_eq (order_alike k x i) || any_alike k keys i

-- an element of a set of the code is one of the model's set
pub contains_alike : (keys : List Atom) (k : Atom) → list_any (is_at (code_cmp k)) keys ≡ contains (set_of keys) (atom_of k)
contains_alike keys k = any_alike k keys ∙ sym (contains-from_list atoms_total (map atom_of keys) (atom_of k))

-- as in the model's order
pub contains_in_model : (keys : List Atom) (k : Atom) → list_any (is_at (model_cmp k)) keys ≡ contains (set_of keys) (atom_of k)
contains_in_model keys k = ap (λ R. list_any (is_at (R k)) keys) (sym orders_alike) ∙ contains_alike keys k

-- a set of the code with the elements of a state is that state
pub from_same_atoms : (keys : List Atom) (s : State) → ((q : Atom) → list_any (is_at (code_cmp q)) keys ≡ contains s (atom_of q)) → set_of keys ≡ s
from_same_atoms keys s same =
    same_state _ s (λ a. subst (λ b. contains (set_of keys) b ≡ contains s b) (atom_of-atom_at a) (sym (contains_alike keys (atom_at a)) ∙ same (atom_at a)))

tie_alike : (k q : Atom) → is_at (code_cmp k) q ≡ eq_by_cmp atom_cmp (atom_of q) (atom_of k)
tie_alike k q = ap is_eq (order_alike k q) ∙ (eq_by_cmp_equiv atoms_total).symm (atom_of k) (atom_of q)

cond_true : (b x : Bool) → cond b true x ≡ (b || x)
cond_true true x = refl
cond_true false x = refl

cond_false : (b x : Bool) → cond b false x ≡ (not b && x)
cond_false true x = refl
cond_false false x = refl

-- `insert` of the code's set
pub inserted : (old new : BTreeSet Atom) (k : Atom) → ((q : Atom) → sorted.contains code_cmp new q ≡ cond (is_at (code_cmp k) q) true (sorted.contains code_cmp old q)) → set_of new.keys ≡ insert (set_of old.keys) (atom_of k)
inserted old new k updates =
    from_same_atoms new.keys _ (λ q.
    updates q ∙ cond_true (is_at (code_cmp k) q) (sorted.contains code_cmp old q) ∙ (λ i. tie_alike k q i || contains_alike old.keys q i)
    ∙ sym (contains-insert atoms_total (set_of old.keys) (atom_of k) (atom_of q)))

-- `remove` of the code's set
pub removed : (old new : BTreeSet Atom) (k : Atom) → ((q : Atom) → sorted.contains code_cmp new q ≡ cond (is_at (code_cmp k) q) false (sorted.contains code_cmp old q)) → set_of new.keys ≡ remove (set_of old.keys) (atom_of k)
removed old new k updates =
    from_same_atoms new.keys _ (λ q.
    updates q ∙ cond_false (is_at (code_cmp k) q) (sorted.contains code_cmp old q) ∙ (λ i. not (tie_alike k q i) && contains_alike old.keys q i)
    ∙ sym (contains-remove atoms_total (set_of old.keys) (atom_of k) (atom_of q)))

-- ---- the initial state

-- a copy of an atom
pub copied : (listed copy : Atom) → copy.predicate ≡ listed.predicate → copy.objects.items ≡ listed.objects.items → atom_of copy ≡ atom_of listed
copied listed copy predicate objects = λ i. record { predicate = (predicate i).0; objects = map object_of (objects i) }

-- one more atom of a list
pub initial_more : (before after : State) (atoms : List Atom) (i : ℕ) (listed copy : Atom) → i < length atoms → listed ≡ get_or atoms i listed → atom_of copy ≡ atom_of listed
    → before ≡ set_of (take i atoms) → after ≡ insert before (atom_of copy) → after ≡ set_of (take (i + 1) atoms)
initial_more before after atoms i listed copy lt at same so here =
    here ∙ (λ j. insert (so j) (same j)) ∙ sym (from_list_push atoms_total atoms_apart (map atom_of (take i atoms)) (atom_of listed))
    ∙ ap from_list (sym (ap (map atom_of) (take_more atoms i listed lt ∙ ap (λ y. take i atoms ++ y ∷ []) (sym at)) ∙ map-append atom_of (take i atoms) (listed ∷ [])))

-- all atoms of the list
pub initial_whole : (state : State) (atoms : List Atom) (i : ℕ) → length atoms ≤ i → state ≡ set_of (take i atoms) → state ≡ set_of atoms
initial_whole state atoms i past so = so ∙ ap set_of (take_all i atoms past)
