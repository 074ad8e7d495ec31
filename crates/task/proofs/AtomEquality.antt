-- The code's test of equality is equality of atoms in the model.
use Rattle.std.proofs.Common.{◌≡◌, ◌∙◌, ℕ, Bool, true, false, ◌&&◌, List, [], ◌∷◌, map, Some, refl, sym, ap, subst, if◌then◌else◌}
use Rattle.std.proofs.lemmas.Bool.{and_parts, eqb-true}
use Rattle.std.specs.Prelude.{◌==◌}
use Rattle.std.specs.Cmp.{eq_by_cmp_equiv, nat_eq_equiv}
use Rattle.std.specs.Cmp.Lexicographic.{pointwise}
use Rattle.std.specs.Map.{lookup}
use Rattle.std.specs.Ordering.{eq_by_cmp}
use Rattle.task.specs.declared.atoms.Atom.{Atom}
use Rattle.task.specs.declared.atoms.ObjectId.{ObjectId}
use Rattle.task.specs.contracts.atoms.AtomPartialEq.TheImpl as atom_impl
use Rattle.task.specs.contracts.atoms.ObjectIdPartialEq.TheImpl as object_impl
use Rattle.task.specs.TaskParts.{atom_of, object_of, value_of}
use Rattle.model.specs.Task as task
use Rattle.model.specs.Meaning.{atom_cmp, value_in}
use Rattle.model.proofs.Atoms.{atoms_total}
use Rattle.model.proofs.StaticLemmas.{same_atom}

-- `==` of the code's atoms
abbrev pub atom_eq : Atom → Atom → Bool
atom_eq = (atom_impl.ghosts).eq

-- ---- atoms that pass the code's test are equal in the model

equal_objects : (xs ys : List ObjectId) → pointwise (object_impl.ghosts).eq xs ys ≡ true → map object_of xs ≡ map object_of ys
equal_objects [] [] is = refl
equal_objects [] (y ∷ ys) is = absurd (cc)
equal_objects (x ∷ xs) [] is = absurd (cc)
equal_objects (x ∷ xs) (y ∷ ys) is =
    let parts = and_parts ((object_impl.ghosts).eq x y) (pointwise (object_impl.ghosts).eq xs ys) is in
    λ i. eqb-true x.0 y.0 parts.0 i ∷ equal_objects xs ys parts.1 i

pub equal_atoms : (a b : Atom) → atom_eq a b ≡ true → atom_of a ≡ atom_of b
equal_atoms a b is =
    let parts = and_parts (a.predicate.0 == b.predicate.0) (pointwise (object_impl.ghosts).eq a.objects.items b.objects.items) is in
    λ i. record { predicate = eqb-true a.predicate.0 b.predicate.0 parts.0 i; objects = equal_objects a.objects.items b.objects.items parts.1 i }

-- ---- atoms that are equal in the model pass the code's test

pub each_itself : {X : Type 0} (eq : X → X → Bool) → ((x : X) → eq x x ≡ true) → (xs : List X) → pointwise eq xs xs ≡ true
each_itself eq itself [] = refl
each_itself eq itself (x ∷ xs) = λ i. itself x i && each_itself eq itself xs i

object_itself : (o : ObjectId) → (object_impl.ghosts).eq o o ≡ true
object_itself o = nat_eq_equiv.refl o.0

pub atom_itself : (a : Atom) → atom_eq a a ≡ true
atom_itself a = λ i. nat_eq_equiv.refl a.predicate.0 i && each_itself (object_impl.ghosts).eq object_itself a.objects.items i

-- the code's atom that is this one in the model
abbrev pub atom_at : task.Atom → Atom
atom_at a = record { predicate = record { 0 = a.predicate }; objects = record { items = map (λ n. record { 0 = n }) a.objects } }

numbers_back : (xs : List ObjectId) → map (λ (n : ℕ). let o : ObjectId = record { 0 = n } in o) (map object_of xs) ≡ xs
numbers_back [] = refl
numbers_back (x ∷ xs) = ap (λ rest. x ∷ rest) (numbers_back xs)

atom_at-atom_of : (a : Atom) → atom_at (atom_of a) ≡ a
atom_at-atom_of a = λ i. record { predicate = a.predicate; objects = record { items = numbers_back a.objects.items i } }

-- an atom is determined by its view
pub one_atom : (a b : Atom) → atom_of a ≡ atom_of b → a ≡ b
one_atom a b same = sym (atom_at-atom_of a) ∙ ap atom_at same ∙ atom_at-atom_of b

pub same_atoms : (a b : Atom) → atom_of a ≡ atom_of b → atom_eq a b ≡ true
same_atoms a b same = subst (λ c. atom_eq a c ≡ true) (one_atom a b same) (atom_itself a)

-- ---- so the two tests agree

both_true : (a b : Bool) → (a ≡ true → b ≡ true) → (b ≡ true → a ≡ true) → a ≡ b
both_true true b to from = sym (to refl)
both_true false true to from = from refl
both_true false false to from = refl

pub eq-alike : (a b : Atom) → atom_eq a b ≡ eq_by_cmp atom_cmp (atom_of a) (atom_of b)
eq-alike a b =
    both_true (atom_eq a b) (eq_by_cmp atom_cmp (atom_of a) (atom_of b))
    (λ same. subst (λ q. eq_by_cmp atom_cmp (atom_of a) q ≡ true) (equal_atoms a b same) ((eq_by_cmp_equiv atoms_total).refl (atom_of a)))
    (λ same. same_atoms a b (same_atom (atom_of a) (atom_of b) same))

-- and a look-up of a function of objects gives its value
pub value-alike : (a : Atom) (entries : List (Atom × ℕ)) → lookup (atom_eq a) entries ≡ value_in (map value_of entries) (atom_of a)
value-alike a [] = refl
value-alike a (e ∷ entries) = λ i. if eq-alike a e.0 i then Some e.1 else value-alike a entries i
