-- Numbering atoms one after another, up to a limit.
use Rattle.std.proofs.Common.{◌≡◌, ◌∙◌, ℕ, ◌+◌, ◌<◌, ◌≤◌, Bool, true, false, ◌||◌, List, [], ◌∷◌, ◌++◌, length, map, drop, get_or, Some, refl, sym, ap, subst, arith}
use Rattle.std.specs.Prelude.{Contains, slice_get, filter, cond, if◌then◌else◌}
use Rattle.std.specs.List.{list_any, list_all, flat_map}
use Rattle.std.specs.Option.{option_map}
use Rattle.std.proofs.lemmas.Bool.{and_from}
use Rattle.std.proofs.lemmas.List.{length-map, map_push, length-append, map-id}
use Rattle.std.proofs.lemmas.Option.{slice_get_read, slice_get-map}
use Rattle.indexmap.specs.IndexSet.{insert_key}
use Rattle.faults.specs.declared.refused.Refused.TheVariants.{At, NoMemory}
use Rattle.grounding_instances.specs.declared.fault.GroundLimit.TheVariants.{Instances, Atoms}
use Rattle.task.specs.declared.atoms.Atom.{Atom}
use Rattle.task.specs.TaskParts.{atom_of}
use Rattle.task.proofs.AtomEquality.{eq-alike}
use Rattle.formulas.proofs.Equality.{atom_eq, one_atom}
use Rattle.model.specs.Task as task
use Rattle.model.specs.Task.{Task}
use Rattle.model.specs.Meaning.{is_instance}
use Rattle.model.specs.Limits.{max_numbered_atoms}
use Rattle.model.specs.Fluents.{is_fluent}
use Rattle.model.specs.StaticallyFalse.{kept_instances, counts}
use Rattle.formulas.specs.Effects.{change_of}
use Rattle.formulas.specs.declared.effects.Change.{Change}
use Rattle.model.specs.Meaning as meaning
use Rattle.model.specs.NumberedAtoms.{occurs_in, with_atom, with_atoms, initial_fluent_atoms, atom_of_literal}
use Rattle.model.proofs.ListLemmas.{Contains-here, Contains-there}
use Rattle.model.proofs.StaticallyFalseLemmas.{kept-Contains}
use Rattle.model.proofs.NumberingLemmas.{length-with_atoms, with_atoms-append, numbered-more, numbered-too_many}
use Rattle.grounding_instances.specs.Kept.{GroundFault}
use Rattle.grounding_instances.specs.Atoms.{ReportsAtoms, atoms_changed}

-- ---- the code's test of equality is the model's

pub among-alike : (a : Atom) (keys : List Atom) → list_any (atom_eq a) keys ≡ occurs_in (map atom_of keys) (atom_of a)
among-alike a [] = refl
among-alike a (k ∷ keys) = λ i. eq-alike a k i || among-alike a keys i

-- ---- one atom

module _ (a : Atom) (keys : List Atom) where
  abbrev with_it : Bool → List task.Atom
  with_it there = if there then map atom_of keys else map atom_of keys ++ atom_of a ∷ []

  -- it was there
  pub numbered-there : list_any (atom_eq a) keys ≡ true → map atom_of keys ≡ with_atom (map atom_of keys) (atom_of a)
  numbered-there there = ap with_it (sym there ∙ among-alike a keys)

  -- a copy of it was inserted
  pub numbered-new : (copy : Atom) (after : List Atom) → list_any (atom_eq a) keys ≡ false → atom_of copy ≡ atom_of a → after ≡ insert_key atom_eq keys copy
      → map atom_of after ≡ with_atom (map atom_of keys) (atom_of a)
  numbered-new copy after new same is =
      ap (map atom_of) (is ∙ ap (insert_key atom_eq keys) (one_atom copy a same) ∙ ap (λ b. if b then keys else keys ++ a ∷ []) new) ∙ map_push atom_of keys a
      ∙ ap with_it (sym new ∙ among-alike a keys)

  -- one more would exceed the limit
  pub numbered-full : list_any (atom_eq a) keys ≡ false → max_numbered_atoms ≤ length keys → max_numbered_atoms < length (with_atom (map atom_of keys) (atom_of a))
  numbered-full new full =
      subst (λ b. max_numbered_atoms < length (with_it b)) (sym new ∙ among-alike a keys)
      (omega (arith, full, length-map keys atom_of, length-append (map atom_of keys) (atom_of a ∷ [])))

-- ---- one element of a list after another

-- if the atoms are too many, more atoms are too
pub reports-longer : (e : GroundFault) (xs ys : List task.Atom) → length xs ≤ length ys → ReportsAtoms xs e → ReportsAtoms ys e
reports-longer (At Instances) xs ys fewer reported = reported
reports-longer (At Atoms) xs ys fewer reported = omega (arith, fewer, reported)
reports-longer NoMemory xs ys fewer reported = tt

pub item-reported : {X : Type 0} (f : X → List task.Atom) (xs : List X) (i : ℕ) (x : X) → slice_get xs i ≡ Some x → (now whole : List task.Atom)
    → with_atoms now (flat_map f (drop i xs)) ≡ whole → (e : GroundFault) → ReportsAtoms (with_atoms now (f x)) e → ReportsAtoms whole e
item-reported f xs i x at now whole all (At Instances) reported = reported
item-reported f xs i x at now whole all (At Atoms) reported = numbered-too_many f xs i x at now whole all max_numbered_atoms reported
item-reported f xs i x at now whole all NoMemory reported = tt

-- the atoms of one more element
pub next-numbered : {X : Type 0} (f : X → List task.Atom) (xs : List X) (i : ℕ) (x : X) → slice_get xs i ≡ Some x → (now whole : List task.Atom)
    → with_atoms now (flat_map f (drop i xs)) ≡ whole → (next : List task.Atom) → next ≡ with_atoms now (f x) → with_atoms next (flat_map f (drop (i + 1) xs)) ≡ whole
next-numbered f xs i x at now whole all next is = ap (λ l. with_atoms l (flat_map f (drop (i + 1) xs))) is ∙ numbered-more f xs i x at now whole all

pub got-item : {X : Type 0} (xs : List X) (i : ℕ) (x : X) → i < length xs → x ≡ get_or xs i x → slice_get xs i ≡ Some x
got-item xs i x below at = slice_get_read xs (length xs) i x refl below at

-- ---- lists built element by element

pub singles : {X Y : Type 0} (f : X → Y) (xs : List X) → flat_map (λ x. f x ∷ []) xs ≡ map f xs
singles f [] = refl
singles f (x ∷ xs) = ap (λ l. f x ∷ l) (singles f xs)

pub passing : {X Y Z : Type 0} (p : Y → Bool) (g : Y → Z) (h : X → Y) (xs : List X) → flat_map (λ x. if p (h x) then g (h x) ∷ [] else []) xs ≡ map g (filter p (map h xs))
passing p g h [] = refl
passing p g h (x ∷ xs) =
    elim (p (h x)) as (λ b. (if b then g (h x) ∷ [] else []) ++ flat_map (λ y. if p (h y) then g (h y) ∷ [] else []) xs ≡ map g (cond b (h x ∷ filter p (map h xs)) (filter p (map h xs)))) [
      | true ↦ ap (λ l. g (h x) ∷ l) (passing p g h xs)
      | false ↦ passing p g h xs
    ]

-- the atom if it is fluent
abbrev pub if_fluent : Task → Atom → List task.Atom
if_fluent t a = if is_fluent t (atom_of a).predicate then atom_of a ∷ [] else []

pub initial-atoms : (t : Task) (items : List Atom) → map atom_of items ≡ t.init → flat_map (if_fluent t) items ≡ initial_fluent_atoms t
initial-atoms t items is =
    passing (λ (a : task.Atom). is_fluent t a.predicate) (λ a. a) atom_of items
    ∙ map-id (filter (λ (a : task.Atom). is_fluent t a.predicate) (map atom_of items))
    ∙ ap (filter (λ (a : task.Atom). is_fluent t a.predicate)) is

-- the atom that the change adds or deletes, if the change counts
abbrev pub if_counting : Task → Change → List task.Atom
if_counting t c = if counts t (change_of c) then atom_of_literal (change_of c).literal ∷ [] else []

pub counting-atoms : (t : Task) (changes : List Change) → flat_map (if_counting t) changes ≡ atoms_changed (filter (counts t) (map change_of changes))
counting-atoms t changes = passing (counts t) (λ (c : meaning.Change). atom_of_literal c.literal) change_of changes

pub got-mapped : {X Y : Type 0} (f : X → Y) (xs : List X) (i : ℕ) (x : X) → i < length xs → x ≡ get_or xs i x → slice_get (map f xs) i ≡ Some (f x)
got-mapped f xs i x below at = slice_get-map f xs i ∙ ap (option_map f) (got-item xs i x below at)

-- ---- the kept instances are the task's

all-from : {X : Type 0} (p : X → Bool) (xs : List X) → ((x : X) → Contains xs x → p x ≡ true) → list_all p xs ≡ true
all-from p [] each = refl
all-from p (x ∷ xs) each =
    and_from (p x) (list_all p xs) (each x (Contains-here x xs)) (all-from p xs (λ y at. each y (Contains-there x xs y at)))

pub kept-are : (t : Task) → list_all (is_instance t) (kept_instances t) ≡ true
kept-are t = all-from (is_instance t) (kept_instances t) (λ i at. (kept-Contains t i at).0)

-- ---- the three parts of the numbered atoms

module _ (more start touched : List task.Atom) where
  -- in this order, starting from no atom
  pub three-parts : with_atoms (with_atoms (with_atoms [] more) start) touched ≡ with_atoms [] (more ++ start ++ touched)
  three-parts = sym (with_atoms-append [] (more ++ start) touched ∙ ap (λ l. with_atoms l touched) (with_atoms-append [] more start))

  first-two : with_atoms (with_atoms [] more) start ≡ with_atoms [] (more ++ start)
  first-two = sym (with_atoms-append [] more start)

  pub reported-first : (e : GroundFault) → ReportsAtoms (with_atoms [] more) e → ReportsAtoms (with_atoms [] (more ++ start ++ touched)) e
  reported-first e reported =
      reports-longer e (with_atoms [] more) (with_atoms [] (more ++ start ++ touched))
      (omega (arith, length-with_atoms (with_atoms [] more) start, length-with_atoms (with_atoms (with_atoms [] more) start) touched, ap length three-parts)) reported

  pub reported-second : (e : GroundFault) → ReportsAtoms (with_atoms (with_atoms [] more) start) e → ReportsAtoms (with_atoms [] (more ++ start ++ touched)) e
  reported-second e reported =
      reports-longer e (with_atoms (with_atoms [] more) start) (with_atoms [] (more ++ start ++ touched))
      (omega (arith, length-with_atoms (with_atoms (with_atoms [] more) start) touched, ap length three-parts)) reported

  pub reported-third : (e : GroundFault) → ReportsAtoms (with_atoms (with_atoms (with_atoms [] more) start) touched) e → ReportsAtoms (with_atoms [] (more ++ start ++ touched)) e
  reported-third e reported = subst (λ l. ReportsAtoms l e) three-parts reported
