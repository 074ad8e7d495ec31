-- Lists of atoms numbered one after another without repetition: what they contain, and where.
use Rattle.std.proofs.Common.{◌≡◌, ◌∙◌, ℕ, zero, suc, ◌+◌, ◌≤◌, ◌<◌, inl, inr, Bool, true, false, not, ◌||◌, List, [], ◌∷◌, ◌++◌, length, drop, get_or, None, Some, refl, sym, ap, subst, arith, append-nil, append_assoc, true≢false, map}
use Rattle.std.specs.Prelude.{Contains, slice_get, nat_lt, cond, if◌then◌else◌, AllPairs, ◌≢◌, filter}
use Rattle.std.specs.List.{list_any, flat_map, position_or_len}
use Rattle.std.specs.Ordering.{eq_by_cmp}
use Rattle.std.specs.Cmp.{eq_by_cmp_equiv}
use Rattle.std.proofs.lemmas.Bool.{or_parts, or_from, or_cases, or_left, or_right, and_parts, and_from, not-true, false_from_ne_true, lt-ltb, le-ltb, not_from_false}
use Rattle.std.proofs.lemmas.Option.{slice_get_within, slice_get-get_or}
use Rattle.std.proofs.lemmas.List.Quantifiers.{position-Some}
use Rattle.std.proofs.lemmas.List.{length-append, drop_all}
use Rattle.std.proofs.lemmas.List.Concat.{flat_map-append}
use Rattle.model.specs.Task.{Atom}
use Rattle.model.specs.Meaning.{atom_cmp}
use Rattle.model.specs.NumberedAtoms.{occurs_in, with_atom, with_atoms, number_of, are_distinct}
use Rattle.model.proofs.Atoms.{atoms_total, occurs_in-append}
use Rattle.model.proofs.ListLemmas.{Contains-here, Contains-there, Contains-cases, Contains-none, drop-here}
use Rattle.model.proofs.StaticLemmas.{same_atom, or_false}

-- ---- the elements of a list

pub same_itself : (a : Atom) → eq_by_cmp atom_cmp a a ≡ true
same_itself a = (eq_by_cmp_equiv atoms_total).refl a

pub occurs_in-Contains : (xs : List Atom) (q : Atom) → occurs_in xs q ≡ true → Contains xs q
occurs_in-Contains [] q at = absurd (true≢false (sym at))
occurs_in-Contains (x ∷ xs) q at =
    elim (or_cases (eq_by_cmp atom_cmp q x) (occurs_in xs q) at) [
      | inl here ↦ subst (λ y. Contains (y ∷ xs) q) (same_atom q x here) (Contains-here q xs)
      | inr later ↦ Contains-there x xs q (occurs_in-Contains xs q later)
    ]

pub Contains-occurs_in : (xs : List Atom) (q : Atom) → Contains xs q → occurs_in xs q ≡ true
Contains-occurs_in [] q at = absurd (Contains-none q at)
Contains-occurs_in (x ∷ xs) q at =
    elim (Contains-cases x xs q at) [
      | inl same ↦ or_left (eq_by_cmp atom_cmp q x) (occurs_in xs q) (ap (eq_by_cmp atom_cmp q) same ∙ same_itself q)
      | inr later ↦ or_right (eq_by_cmp atom_cmp q x) (occurs_in xs q) (Contains-occurs_in xs q later)
    ]

pub occurs_in-got : (xs : List Atom) (n : ℕ) (a : Atom) → slice_get xs n ≡ Some a → occurs_in xs a ≡ true
occurs_in-got [] n a at = absurd (cc)
occurs_in-got (x ∷ xs) zero a at =
    let same : x ≡ a = cc in or_left (eq_by_cmp atom_cmp a x) (occurs_in xs a) (ap (eq_by_cmp atom_cmp a) same ∙ same_itself a)
occurs_in-got (x ∷ xs) (suc n) a at = or_right (eq_by_cmp atom_cmp a x) (occurs_in xs a) (occurs_in-got xs n a at)

pub occurs_in-flat_map : {X : Type 0} (f : X → List Atom) (xs : List X) (x : X) (q : Atom) → Contains xs x → occurs_in (f x) q ≡ true → occurs_in (flat_map f xs) q ≡ true
occurs_in-flat_map f [] x q at among = absurd (Contains-none x at)
occurs_in-flat_map f (first ∷ xs) x q at among =
    occurs_in-append (f first) (flat_map f xs) q
    ∙ elim (Contains-cases first xs x at) [
      | inl same ↦ or_left (occurs_in (f first) q) (occurs_in (flat_map f xs) q) (ap (λ y. occurs_in (f y) q) same ∙ among)
      | inr later ↦ or_right (occurs_in (f first) q) (occurs_in (flat_map f xs) q) (occurs_in-flat_map f xs x q later among)
    ]

pub flat_map-occurs_in : {X : Type 0} (f : X → List Atom) (xs : List X) (q : Atom) → occurs_in (flat_map f xs) q ≡ true → (x : X) × Contains xs x × (occurs_in (f x) q ≡ true)
flat_map-occurs_in f [] q among = absurd (true≢false (sym among))
flat_map-occurs_in f (first ∷ xs) q among =
    elim (or_cases (occurs_in (f first) q) (occurs_in (flat_map f xs) q) (sym (occurs_in-append (f first) (flat_map f xs) q) ∙ among)) [
      | inl here ↦ (first, Contains-here first xs, here)
      | inr later ↦ let rest = flat_map-occurs_in f xs q later in (rest.0, Contains-there first xs rest.0 rest.1, rest.2)
    ]

pub occurs_in-flat_map_any : {X : Type 0} (f : X → List Atom) (xs : List X) (q : Atom) → occurs_in (flat_map f xs) q ≡ list_any (λ x. occurs_in (f x) q) xs
occurs_in-flat_map_any f [] q = refl
occurs_in-flat_map_any f (x ∷ xs) q = occurs_in-append (f x) (flat_map f xs) q ∙ ap (λ b. occurs_in (f x) q || b) (occurs_in-flat_map_any f xs q)

-- ---- one atom after another

absorbed : (x e : Bool) → (e ≡ true → x ≡ true) → x ≡ (x || e)
absorbed true e known = refl
absorbed false true known = known refl
absorbed false false known = refl

pub occurs_in-with_atom : (xs : List Atom) (a q : Atom) → occurs_in (with_atom xs a) q ≡ (occurs_in xs q || eq_by_cmp atom_cmp q a)
occurs_in-with_atom xs a q =
    elim (occurs_in xs a) as (λ b. occurs_in xs a ≡ b → occurs_in (if b then xs else xs ++ a ∷ []) q ≡ (occurs_in xs q || eq_by_cmp atom_cmp q a)) [
      | true ↦ λ there. absorbed (occurs_in xs q) (eq_by_cmp atom_cmp q a) (λ same. ap (occurs_in xs) (same_atom q a same) ∙ there)
      | false ↦ λ new. occurs_in-append xs (a ∷ []) q ∙ ap (λ b. occurs_in xs q || b) (or_false (eq_by_cmp atom_cmp q a))
    ] refl

or_thrice : (x y z : Bool) → ((x || y) || z) ≡ (x || (y || z))
or_thrice true y z = refl
or_thrice false y z = refl

-- the elements of either list, and nothing else
pub occurs_in-with_atoms : (xs ys : List Atom) (q : Atom) → occurs_in (with_atoms xs ys) q ≡ (occurs_in xs q || occurs_in ys q)
occurs_in-with_atoms xs [] q = sym (or_false (occurs_in xs q))
occurs_in-with_atoms xs (a ∷ ys) q =
    occurs_in-with_atoms (with_atom xs a) ys q ∙ ap (λ b. b || occurs_in ys q) (occurs_in-with_atom xs a q) ∙ or_thrice (occurs_in xs q) (eq_by_cmp atom_cmp q a) (occurs_in ys q)

pub with_atoms-append : (xs ys zs : List Atom) → with_atoms xs (ys ++ zs) ≡ with_atoms (with_atoms xs ys) zs
with_atoms-append xs [] zs = refl
with_atoms-append xs (a ∷ ys) zs = with_atoms-append (with_atom xs a) ys zs

-- the list is a prefix of the list with one more atom
pub with_atom-begins : (xs : List Atom) (a : Atom) → (rest : List Atom) × (with_atom xs a ≡ xs ++ rest)
with_atom-begins xs a =
    elim (occurs_in xs a) as (λ b. (rest : List Atom) × ((if b then xs else xs ++ a ∷ []) ≡ xs ++ rest)) [
      | true ↦ ([], sym (append-nil xs))
      | false ↦ (a ∷ [], refl)
    ]

pub with_atoms-begins : (xs ys : List Atom) → (rest : List Atom) × (with_atoms xs ys ≡ xs ++ rest)
with_atoms-begins xs [] = ([], sym (append-nil xs))
with_atoms-begins xs (a ∷ ys) =
    let here = with_atom-begins xs a in
    let later = with_atoms-begins (with_atom xs a) ys in
    (here.0 ++ later.0, later.1 ∙ ap (λ l. l ++ later.0) here.1 ∙ append_assoc xs here.0 later.0)

-- adding atoms never makes the list shorter
pub length-with_atoms : (xs ys : List Atom) → length xs ≤ length (with_atoms xs ys)
length-with_atoms xs ys = let begun = with_atoms-begins xs ys in omega (arith, ap length begun.1, length-append xs begun.0)

-- ---- no repetition

distinct-push : (xs : List Atom) (a : Atom) → are_distinct xs ≡ true → occurs_in xs a ≡ false → are_distinct (xs ++ a ∷ []) ≡ true
distinct-push [] a distinct new = refl
distinct-push (x ∷ xs) a distinct new =
    let parts = and_parts (not (occurs_in xs x)) (are_distinct xs) distinct in
    let apart = or_parts (eq_by_cmp atom_cmp a x) (occurs_in xs a) new in
    and_from (not (occurs_in (xs ++ a ∷ []) x)) (are_distinct (xs ++ a ∷ []))
    (ap not (occurs_in-append xs (a ∷ []) x ∙ ap (λ b. occurs_in xs x || (b || false)) ((eq_by_cmp_equiv atoms_total).symm x a ∙ apart.0) ∙ or_false (occurs_in xs x)) ∙ parts.0)
    (distinct-push xs a parts.1 apart.1)

pub distinct-with_atom : (xs : List Atom) (a : Atom) → are_distinct xs ≡ true → are_distinct (with_atom xs a) ≡ true
distinct-with_atom xs a distinct =
    elim (occurs_in xs a) as (λ b. occurs_in xs a ≡ b → are_distinct (if b then xs else xs ++ a ∷ []) ≡ true) [
      | true ↦ λ there. distinct
      | false ↦ λ new. distinct-push xs a distinct new
    ] refl

pub distinct-with_atoms : (xs ys : List Atom) → are_distinct xs ≡ true → are_distinct (with_atoms xs ys) ≡ true
distinct-with_atoms xs [] distinct = distinct
distinct-with_atoms xs (a ∷ ys) distinct = distinct-with_atoms (with_atom xs a) ys (distinct-with_atom xs a distinct)

-- an atom of the second list is not in the first, if none is repeated
apart_in : (xs ys : List Atom) (a : Atom) → are_distinct (xs ++ a ∷ ys) ≡ true → occurs_in xs a ≡ false
apart_in [] ys a distinct = refl
apart_in (x ∷ xs) ys a distinct =
    let parts = and_parts (not (occurs_in (xs ++ a ∷ ys) x)) (are_distinct (xs ++ a ∷ ys)) distinct in
    let apart = or_parts (occurs_in xs x) (occurs_in (a ∷ ys) x) (sym (occurs_in-append xs (a ∷ ys) x) ∙ not-true (occurs_in (xs ++ a ∷ ys) x) parts.0) in
    or_from (eq_by_cmp atom_cmp a x) (occurs_in xs a)
    ((eq_by_cmp_equiv atoms_total).symm a x ∙ (or_parts (eq_by_cmp atom_cmp x a) (occurs_in ys x) apart.1).0)
    (apart_in xs ys a parts.1)

-- distinct atoms keep their order
pub with_atoms-distinct : (xs ys : List Atom) → are_distinct (xs ++ ys) ≡ true → with_atoms xs ys ≡ xs ++ ys
with_atoms-distinct xs [] distinct = sym (append-nil xs)
with_atoms-distinct xs (a ∷ ys) distinct =
    let new : with_atom xs a ≡ xs ++ a ∷ [] = ap (λ b. if b then xs else xs ++ a ∷ []) (apart_in xs ys a distinct) in
    let same : (xs ++ a ∷ []) ++ ys ≡ xs ++ a ∷ ys = append_assoc xs (a ∷ []) ys in
    ap (λ l. with_atoms l ys) new ∙ with_atoms-distinct (xs ++ a ∷ []) ys (ap are_distinct same ∙ distinct) ∙ same

-- so they come first, with their indices as numbers
pub numbered-first : (more rest : List Atom) → are_distinct more ≡ true → (others : List Atom) × (with_atoms [] (more ++ rest) ≡ more ++ others)
numbered-first more rest distinct =
    let begun = with_atoms-begins more rest in
    (begun.0, with_atoms-append [] more rest ∙ ap (λ l. with_atoms l rest) (with_atoms-distinct [] more distinct) ∙ begun.1)

-- stated for each pair of indices
pub distinct-from_pairs : (xs : List Atom) → AllPairs (λ (a b : Atom). a ≢ b) xs → are_distinct xs ≡ true
distinct-from_pairs [] apart = refl
distinct-from_pairs (x ∷ xs) apart =
    and_from (not (occurs_in xs x)) (are_distinct xs)
    (not_from_false (occurs_in xs x) (false_from_ne_true (occurs_in xs x) (λ among.
    let there = occurs_in-Contains xs x among in
    apart 0 (suc there.0) x (omega arith) (omega (arith, there.1)) (sym there.2))))
    (distinct-from_pairs xs (λ i j d before within. apart (suc i) (suc j) d (omega (arith, before)) (omega (arith, within))))

-- ---- the number of an atom

place_of : (xs : List Atom) (n : ℕ) (a : Atom) → are_distinct xs ≡ true → slice_get xs n ≡ Some a → position_or_len (eq_by_cmp atom_cmp a) xs ≡ n
place_of [] n a distinct at = absurd (cc)
place_of (x ∷ xs) zero a distinct at =
    let same : x ≡ a = cc in ap (λ b. cond (not b) (1 + position_or_len (eq_by_cmp atom_cmp a) xs) 0) (ap (eq_by_cmp atom_cmp a) same ∙ same_itself a)
place_of (x ∷ xs) (suc n) a distinct at =
    let parts = and_parts (not (occurs_in xs x)) (are_distinct xs) distinct in
    let other : eq_by_cmp atom_cmp a x ≡ false = false_from_ne_true (eq_by_cmp atom_cmp a x) (λ same.
    true≢false (sym (occurs_in-got xs n a at) ∙ ap (occurs_in xs) (same_atom a x same) ∙ not-true (occurs_in xs x) parts.0)) in
    let later : 1 + position_or_len (eq_by_cmp atom_cmp a) xs ≡ suc n = omega (arith, place_of xs n a parts.1 at) in
    ap (λ b. cond (not b) (1 + position_or_len (eq_by_cmp atom_cmp a) xs) 0) other ∙ later

-- it is the atom's index
pub number_of-got : (xs : List Atom) (n : ℕ) (a : Atom) → are_distinct xs ≡ true → slice_get xs n ≡ Some a → number_of xs a ≡ Some n
number_of-got xs n a distinct at =
    (λ i. cond (nat_lt (place_of xs n a distinct at i) (length xs)) (Some (place_of xs n a distinct at i)) None)
    ∙ ap (λ b. cond b (Some n) None) (lt-ltb n (length xs) (slice_get_within xs n a at))

pub got-number_of : (xs : List Atom) (a : Atom) (n : ℕ) → number_of xs a ≡ Some n → slice_get xs n ≡ Some a
got-number_of xs a n is =
    let there = position-Some (eq_by_cmp atom_cmp a) xs n a is in
    slice_get-get_or xs n a there.0 ∙ ap Some (sym (same_atom a (get_or xs n a) there.1))

nowhere : (xs : List Atom) (a : Atom) → occurs_in xs a ≡ false → position_or_len (eq_by_cmp atom_cmp a) xs ≡ length xs
nowhere [] a none = refl
nowhere (x ∷ xs) a none =
    let parts = or_parts (eq_by_cmp atom_cmp a x) (occurs_in xs a) none in
    let later : 1 + position_or_len (eq_by_cmp atom_cmp a) xs ≡ suc (length xs) = omega (arith, nowhere xs a parts.1) in
    ap (λ b. cond (not b) (1 + position_or_len (eq_by_cmp atom_cmp a) xs) 0) parts.0 ∙ later

-- an atom that is not in the list has none
pub number_of-none : (xs : List Atom) (a : Atom) → occurs_in xs a ≡ false → number_of xs a ≡ None
number_of-none xs a none =
    (λ i. cond (nat_lt (nowhere xs a none i) (length xs)) (Some (nowhere xs a none i)) None)
    ∙ ap (λ b. cond b (Some (length xs)) None) (le-ltb (length xs) (length xs) (omega arith))

-- ---- one element of a list after another: what is numbered, together with what the remaining elements give, is the whole

module _ {X : Type 0} (f : X → List Atom) (xs : List X) (i : ℕ) (x : X) (at : slice_get xs i ≡ Some x) (now whole : List Atom)
    (all : with_atoms now (flat_map f (drop i xs)) ≡ whole) where
  -- the atoms of one more element
  pub numbered-more : with_atoms (with_atoms now (f x)) (flat_map f (drop (i + 1) xs)) ≡ whole
  numbered-more =
      sym (with_atoms-append now (f x) (flat_map f (drop (i + 1) xs))) ∙ ap (λ l. with_atoms now (flat_map f l)) (sym (drop-here xs i x at)) ∙ all

  -- if they are too many, the whole has too many
  pub numbered-too_many : (max : ℕ) → max < length (with_atoms now (f x)) → max < length whole
  numbered-too_many max more = omega (arith, more, length-with_atoms (with_atoms now (f x)) (flat_map f (drop (i + 1) xs)), ap length numbered-more)

-- no item is left
pub numbered-end : {X : Type 0} (f : X → List Atom) (xs : List X) (i : ℕ) (now whole : List Atom) → length xs ≤ i → with_atoms now (flat_map f (drop i xs)) ≡ whole → now ≡ whole
numbered-end f xs i now whole past all = ap (λ l. with_atoms now (flat_map f l)) (sym (drop_all i xs past)) ∙ all

-- ---- one part after another

module _ (now first rest whole : List Atom) (all : with_atoms now (first ++ rest) ≡ whole) where
  pub numbered-part : with_atoms (with_atoms now first) rest ≡ whole
  numbered-part = sym (with_atoms-append now first rest) ∙ all

  pub too_many-part : (max : ℕ) → max < length (with_atoms now first) → max < length whole
  too_many-part max more = omega (arith, more, length-with_atoms (with_atoms now first) rest, ap length numbered-part)

-- ---- lists built element by element

-- what each of the elements that pass gives
pub flat_map-passing : {X Y : Type 0} (p : X → Bool) (f : X → Y) (xs : List X) → flat_map (λ x. if p x then f x ∷ [] else []) xs ≡ map f (filter p xs)
flat_map-passing p f [] = refl
flat_map-passing p f (x ∷ xs) =
    elim (p x) as (λ b. (if b then f x ∷ [] else []) ++ flat_map (λ y. if p y then f y ∷ [] else []) xs ≡ map f (if b then x ∷ filter p xs else filter p xs)) [
      | true ↦ ap (λ l. f x ∷ l) (flat_map-passing p f xs)
      | false ↦ flat_map-passing p f xs
    ]

pub flat_map-map : {X Y Z : Type 0} (g : Y → List Z) (h : X → Y) (xs : List X) → flat_map g (map h xs) ≡ flat_map (λ x. g (h x)) xs
flat_map-map g h [] = refl
flat_map-map g h (x ∷ xs) = ap (λ l. g (h x) ++ l) (flat_map-map g h xs)

pub flat_map-flat_map : {X Y Z : Type 0} (g : Y → List Z) (f : X → List Y) (xs : List X) → flat_map g (flat_map f xs) ≡ flat_map (λ x. flat_map g (f x)) xs
flat_map-flat_map g f [] = refl
flat_map-flat_map g f (x ∷ xs) = flat_map-append g (f x) (flat_map f xs) ∙ ap (λ l. flat_map g (f x) ++ l) (flat_map-flat_map g f xs)
