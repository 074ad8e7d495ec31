-- An atom's number does not depend on which atoms are numbered after it.
use Rattle.std.proofs.Common.{◌≡◌, ◌∙◌, ℕ, suc, ◌<◌, ◌+◌, Bool, true, false, not, ◌||◌, ◌⊎◌, inl, inr, List, [], ◌∷◌, ◌++◌, length, get_or, None, Some, refl, sym, ap, arith}
use Rattle.std.specs.Prelude.{nat_lt, cond}
use Rattle.std.specs.List.{list_any, position, position_or_len}
use Rattle.std.specs.Ordering.{eq_by_cmp}
use Rattle.std.proofs.lemmas.Bool.{lt-ltb, eq-eqb}
use Rattle.std.proofs.lemmas.List.{length-append}
use Rattle.std.proofs.lemmas.List.Folds.{position_or_len_push}
use Rattle.std.proofs.lemmas.Option.{slice_get_within}
use Rattle.model.specs.Task.{Atom}
use Rattle.model.specs.Meaning.{atom_cmp}
use Rattle.model.specs.NumberedAtoms.{occurs_in, number_of, with_atom, with_atoms}
use Rattle.model.proofs.NumberingLemmas.{same_itself, got-number_of, occurs_in-got, with_atoms-begins}
use Rattle.grounding_instances.specs.KeptNumbers.{IsNumberOf}

-- ---- indices in lists

module _ {X : Type 0} (p : X → Bool) where
  -- there is one, or the length stands for none
  place-or : (xs : List X) → ((position_or_len p xs < length xs) × (list_any p xs ≡ true)) ⊎ ((position_or_len p xs ≡ length xs) × (list_any p xs ≡ false))
  place-or [] = inr (refl, refl)
  place-or (x ∷ xs) =
      elim (p x) as (λ b. ((cond (not b) (1 + position_or_len p xs) 0 < suc (length xs)) × ((b || list_any p xs) ≡ true)) ⊎ ((cond (not b) (1 + position_or_len p xs) 0 ≡ suc (length xs)) × ((b || list_any p xs) ≡ false))) [
        | true ↦ inl (omega arith, refl)
        | false ↦
            elim (place-or xs) [
              | inl there ↦ inl (omega (arith, there.0), there.1)
              | inr none ↦ inr (omega (arith, none.0), none.1)
            ]
      ]

  place-stays : (xs ys : List X) → position_or_len p xs < length xs → position_or_len p (xs ++ ys) ≡ position_or_len p xs
  place-stays [] ys within = absurd (omega (arith, within))
  place-stays (x ∷ xs) ys within =
      elim (p x) as (λ b. cond (not b) (1 + position_or_len p xs) 0 < suc (length xs) → cond (not b) (1 + position_or_len p (xs ++ ys)) 0 ≡ cond (not b) (1 + position_or_len p xs) 0) [
        | true ↦ λ _. refl
        | false ↦ λ less. ap (λ n. 1 + n) (place-stays xs ys (omega (arith, less)))
      ] within

  some-at : (k n : ℕ) → k < n → cond (nat_lt k n) (Some k) None ≡ Some k
  some-at k n within = ap (λ b. cond b (Some k) None) (lt-ltb k n within)

  position-stays : (xs ys : List X) → list_any p xs ≡ true → position p (xs ++ ys) ≡ position p xs
  position-stays xs ys some =
      elim (place-or xs) [
        | inl there ↦
            let longer : position_or_len p xs < length (xs ++ ys) = omega (arith, there.0, length-append xs ys) in
            (λ i. cond (nat_lt (place-stays xs ys there.0 i) (length (xs ++ ys))) (Some (place-stays xs ys there.0 i)) None)
            ∙ some-at (position_or_len p xs) (length (xs ++ ys)) longer ∙ sym (some-at (position_or_len p xs) (length xs) there.0)
        | inr none ↦ let never : true ≡ false = sym some ∙ none.1 in absurd (cc)
      ]

  position-last : (xs : List X) (x : X) → list_any p xs ≡ false → p x ≡ true → position p (xs ++ x ∷ []) ≡ Some (length xs)
  position-last xs x none passes =
      elim (place-or xs) [
        | inl there ↦ let never : true ≡ false = sym there.1 ∙ none in absurd (cc)
        | inr end ↦
            let place : position_or_len p (xs ++ x ∷ []) ≡ length xs =
            position_or_len_push p xs x ∙ ap (λ b. cond b (length xs + cond (p x) 0 1) (position_or_len p xs)) (eq-eqb (position_or_len p xs) (length xs) end.0)
            ∙ ap (λ b. length xs + cond b 0 1) passes ∙ omega arith in
            let within : length xs < length (xs ++ x ∷ []) = omega (arith, length-append xs (x ∷ [])) in
            (λ i. cond (nat_lt (place i) (length (xs ++ x ∷ []))) (Some (place i)) None) ∙ some-at (length xs) (length (xs ++ x ∷ [])) within
      ]

-- ---- numbers of atoms

module _ (atoms : List Atom) (a : Atom) where
  pub number-occurs : (n : ℕ) → number_of atoms a ≡ Some n → occurs_in atoms a ≡ true
  number-occurs n is = occurs_in-got atoms n a (got-number_of atoms a n is)

  pub none-apart : number_of atoms a ≡ None → occurs_in atoms a ≡ false
  none-apart none =
      elim (place-or (eq_by_cmp atom_cmp a) atoms) [
        | inl there ↦
            let some : number_of atoms a ≡ Some (position_or_len (eq_by_cmp atom_cmp a) atoms) = some-at (eq_by_cmp atom_cmp a) (position_or_len (eq_by_cmp atom_cmp a) atoms) (length atoms) there.0 in absurd (cc)
        | inr end ↦ end.1
      ]

  number-stays : (n : ℕ) → number_of atoms a ≡ Some n → IsNumberOf atoms a n
  number-stays n is later =
      let begun = with_atoms-begins atoms later in
      ap (λ l. number_of l a) begun.1 ∙ position-stays (eq_by_cmp atom_cmp a) atoms begun.0 (number-occurs n is) ∙ is

  -- it had a number
  pub had-number : (n : ℕ) → number_of atoms a ≡ Some n → (atoms ≡ with_atom atoms a) × IsNumberOf atoms a n
  had-number n is = (ap (λ b. cond b atoms (atoms ++ a ∷ [])) (sym (number-occurs n is)), number-stays n is)

module _ (atoms : List Atom) (a : Atom) (none : number_of atoms a ≡ None) where
  pub as_pushed : with_atom atoms a ≡ atoms ++ a ∷ []
  as_pushed = ap (λ b. cond b atoms (atoms ++ a ∷ [])) (none-apart atoms a none)

  -- it gets the next number
  pub gets-number : (n : ℕ) → n ≡ length atoms → IsNumberOf (with_atom atoms a) a n
  gets-number n is =
      number-stays (with_atom atoms a) a n
      (ap (λ l. number_of l a) as_pushed ∙ position-last (eq_by_cmp atom_cmp a) atoms a (none-apart atoms a none) (same_itself a) ∙ ap Some (sym is))
