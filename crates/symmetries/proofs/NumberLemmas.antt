-- Numbers of atoms and of their images, one after another.
use Rattle.std.proofs.Common.{◌≡◌, ◌∙◌, ℕ, inl, inr, ◌+◌, ◌<◌, Bool, true, false, not, ◌||◌, List, [], ◌∷◌, ◌++◌, length, map, Option, None, Some, refl, sym, ap, arith}
use Rattle.std.specs.Prelude.{cond, nat_lt, slice_get}
use Rattle.std.specs.List.{list_any, position, position_or_len}
use Rattle.std.specs.Option.{option_map_or}
use Rattle.std.specs.Cmp.{Equal-is, tied_itself}
use Rattle.std.specs.Ordering.{eq_by_cmp}
use Rattle.std.proofs.lemmas.Bool.{cond-true, lt-ltb, true≢false}
use Rattle.std.proofs.lemmas.List.{length-map}
use Rattle.std.proofs.lemmas.List.FromFn.{filter_of_map_range_with_len_more}
use Rattle.std.proofs.lemmas.Option.{none-some, slice_get_cases}
use Rattle.task.specs.declared.atoms.Atom.{Atom}
use Rattle.task.specs.TaskParts.{atom_of}
use Rattle.task.proofs.AtomEquality.{atom_eq, eq-alike}
use Rattle.model.specs.Task as task
use Rattle.model.specs.Meaning.{atom_cmp}
use Rattle.model.specs.NumberedAtoms.{number_of, occurs_in}
use Rattle.model.proofs.Atoms.{atoms_total}
use Rattle.model.proofs.ListLemmas.{Contains-got}
use Rattle.model.proofs.NumberingLemmas.{got-number_of}
use Rattle.symmetries_definitions.specs.Exchanges.{image_of_atom}
use Rattle.symmetries_definitions.proofs.Lists.{any-at}
use Rattle.symmetries.specs.Numbers.{image_number, pair_from, exchanged_below}

-- ---- the index in the code's set is the number

place-alike : (a : Atom) (keys : List Atom) → position_or_len (atom_eq a) keys ≡ position_or_len (eq_by_cmp atom_cmp (atom_of a)) (map atom_of keys)
place-alike a [] = refl
place-alike a (k ∷ keys) = λ i. cond (not (eq-alike a k i)) (1 + place-alike a keys i) 0

pub position-alike : (a : Atom) (keys : List Atom) → position (atom_eq a) keys ≡ number_of (map atom_of keys) (atom_of a)
position-alike a keys = λ i. cond (nat_lt (place-alike a keys i) (sym (length-map keys atom_of) i)) (Some (place-alike a keys i)) None

-- ---- numbered atoms

first_within : {X : Type 0} (p : X → Bool) (xs : List X) → list_any p xs ≡ true → position_or_len p xs < length xs
first_within p [] some = absurd (true≢false (sym some))
first_within p (x ∷ xs) some = by_first (first_within p xs) (p x) some
  where
    by_first : (list_any p xs ≡ true → position_or_len p xs < length xs) → (b : Bool) → (b || list_any p xs) ≡ true → cond (not b) (1 + position_or_len p xs) 0 < length (x ∷ xs)
    by_first rest true _ = omega arith
    by_first rest false later = let within = rest later in omega (arith, within)

module _ (atoms : List task.Atom) where
  some_occurs : (a : task.Atom) (m : ℕ) → number_of atoms a ≡ Some m → occurs_in atoms a ≡ true
  some_occurs a m has =
      any-at (eq_by_cmp atom_cmp a) atoms a (Contains-got atoms m a (got-number_of atoms a m has)) ((Equal-is (atom_cmp a a)).1 (tied_itself atoms_total a))

  none_occurs : (a : task.Atom) → number_of atoms a ≡ None → occurs_in atoms a ≡ false
  none_occurs a none = by_test (occurs_in atoms a) refl
    where
      by_test : (b : Bool) → occurs_in atoms a ≡ b → occurs_in atoms a ≡ false
      by_test false is = is
      by_test true is =
          let place = position_or_len (eq_by_cmp atom_cmp a) atoms in
          let some : number_of atoms a ≡ Some place =
          cond-true (nat_lt place (length atoms)) (Some place) None (lt-ltb place (length atoms) (first_within (eq_by_cmp atom_cmp a) atoms is)) in
          absurd (none-some place (sym none ∙ some))

  -- the atom's image is numbered
  abbrev pub is_kept : (ℕ → ℕ) → task.Atom → Bool
  is_kept to a = occurs_in atoms (image_of_atom to a)

  module _ (to : ℕ → ℕ) (n : ℕ) where
    pub image_kept : (m : ℕ) → image_number atoms to n ≡ Some m → option_map_or (is_kept to) (slice_get atoms n) true ≡ true
    image_kept m has = by_place (slice_get atoms n) has
      where
        by_place : (o : Option task.Atom) → option_map_or (λ (a : task.Atom). number_of atoms (image_of_atom to a)) o None ≡ Some m → option_map_or (is_kept to) o true ≡ true
        by_place None none = refl
        by_place (Some a) some = some_occurs (image_of_atom to a) m some

    pub image_missing : n < length atoms → image_number atoms to n ≡ None → option_map_or (is_kept to) (slice_get atoms n) true ≡ false
    image_missing within none =
        elim (slice_get_cases atoms n).1 [
          | inl found ↦
              ap (λ o. option_map_or (is_kept to) o true) found.2
              ∙ none_occurs (image_of_atom to found.0) (sym (ap (λ o. option_map_or (λ (a : task.Atom). number_of atoms (image_of_atom to a)) o None) found.2) ∙ none)
          | inr past ↦ absurd (let beyond = past.0 in omega (arith, within, beyond))
        ]

    -- one more number
    pub numbers_more : (m : ℕ) (old new : List (ℕ × ℕ)) → image_number atoms to n ≡ Some m → new ≡ old ++ cond (nat_lt n m) ((n, m) ∷ []) [] → old ≡ exchanged_below atoms to n
        → new ≡ exchanged_below atoms to (n + 1)
    numbers_more m old new has here before =
        let rising : ℕ × ℕ → Bool = λ pair. nat_lt pair.0 pair.1 in
        here ∙ (λ i. before i ++ cond (nat_lt n m) ((n, m) ∷ []) [])
        ∙ ap (λ o. exchanged_below atoms to n ++ cond (nat_lt n (option_map_or (λ k. k) o n)) ((n, option_map_or (λ k. k) o n) ∷ []) []) (sym has)
        ∙ sym (filter_of_map_range_with_len_more rising (pair_from atoms to) 0 n n (omega arith))
