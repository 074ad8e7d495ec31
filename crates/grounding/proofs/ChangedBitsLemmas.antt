-- The packed state after some literals: bit by bit what the state after them is.
use Rattle.std.proofs.Common.{◌≡◌, ◌∙◌, ℕ, ◌<◌, Bool, true, false, not, ◌&&◌, ◌||◌, cond, inl, inr, List, [], ◌∷◌, length, get_or, set, None, Some, refl, sym, ap, arith}
use Rattle.std.specs.Prelude.{slice_get, ◌==◌}
use Rattle.std.specs.List.{list_any, cons_option}
use Rattle.std.specs.Ordering.{eq_by_cmp}
use Rattle.std.specs.FinSet.{contains}
use Rattle.std.proofs.lemmas.Bool.{cases_eq, eq-eqb, ne_eqb, false_from_ne_true}
use Rattle.std.proofs.lemmas.List.{length-map, length-set, same_lists, get_or-map, get_or_default, get_or-set_same, get_or-set_other}
use Rattle.std.proofs.lemmas.Option.{slice_get-get_or}
use Rattle.model.specs.Task.{Atom, Task}
use Rattle.model.specs.Meaning.{atom_cmp, GroundLiteral, adds, deletes, added_by, deleted_by, after_literals}
use Rattle.model.specs.Fluents.{is_fluent}
use Rattle.model.specs.NumberedAtoms.{occurs_in, number_of, are_distinct}
use Rattle.model.specs.Grounding.{state_of_bits, bits_of_state}
use Rattle.model.proofs.StaticLemmas.{same_atom, contains-after_literals}
use Rattle.model.proofs.NumberingLemmas.{occurs_in-got, same_itself, number_of-got, got-number_of}
use Rattle.model.proofs.PackedStates.{contains-numbered}
use Rattle.grounding.specs.ChangedBits.{numbers_changed, with_bits}

-- ---- bits that are set one after another

pub length-with_bits : (value : Bool) (bits : List Bool) (numbers : List ℕ) → length (with_bits value bits numbers) ≡ length bits
length-with_bits value bits [] = refl
length-with_bits value bits (n ∷ numbers) = length-with_bits value (set bits n value) numbers ∙ length-set bits n value

cond_same : (b : Bool) (x : Bool) → cond b x x ≡ x
cond_same true x = refl
cond_same false x = refl

pub bit-with_bits : (value : Bool) (bits : List Bool) (numbers : List ℕ) (k : ℕ) → k < length bits
    → get_or (with_bits value bits numbers) k false ≡ cond (list_any (λ n. n == k) numbers) value (get_or bits k false)
bit-with_bits value bits [] k within = refl
bit-with_bits value bits (n ∷ numbers) k within =
    let long : k < length (set bits n value) = omega (arith, length-set bits n value) in
    bit-with_bits value (set bits n value) numbers k long
    ∙ elim (cases_eq n k) [
      | inl same ↦
          let here : get_or (set bits n value) k false ≡ value = ap (λ m. get_or (set bits n value) m false) (sym same) ∙ get_or-set_same bits n value false (omega (arith, same)) in
          ap (cond (list_any (λ m. m == k) numbers) value) here
          ∙ cond_same (list_any (λ m. m == k) numbers) value
          ∙ ap (λ b. cond (b || list_any (λ m. m == k) numbers) value (get_or bits k false)) (sym (eq-eqb n k same))
      | inr other ↦
          ap (cond (list_any (λ m. m == k) numbers) value) (get_or-set_other bits n k value false (λ e. other (sym e)))
          ∙ ap (λ b. cond (b || list_any (λ m. m == k) numbers) value (get_or bits k false)) (sym (ne_eqb n k other))
    ]

-- ---- atoms by their numbers

module _ (atoms : List Atom) (distinct : are_distinct atoms ≡ true) (k : ℕ) (q : Atom) (at : slice_get atoms k ≡ Some q) where
  some_same : (n m : ℕ) → Some n ≡ Some m → n ≡ m
  some_same n m e = cc

  same_number : (a : Atom) (n : ℕ) → number_of atoms a ≡ Some n → eq_by_cmp atom_cmp q a ≡ (n == k)
  same_number a n is =
      elim (cases_eq n k) [
        | inl same ↦
            let got : slice_get atoms k ≡ Some a = ap (slice_get atoms) (sym same) ∙ got-number_of atoms a n is in
            let here : q ≡ a = cc in
            ap (eq_by_cmp atom_cmp q) (sym here) ∙ same_itself q ∙ sym (eq-eqb n k same)
        | inr other ↦
            false_from_ne_true (eq_by_cmp atom_cmp q a) (λ same.
            other (some_same n k (sym is ∙ ap (number_of atoms) (sym (same_atom q a same)) ∙ number_of-got atoms k q distinct at)))
            ∙ sym (ne_eqb n k other)
      ]

  no_number : (a : Atom) → number_of atoms a ≡ None → eq_by_cmp atom_cmp q a ≡ false
  no_number a none =
      false_from_ne_true (eq_by_cmp atom_cmp q a) (λ same.
      let two : None ≡ Some k = sym none ∙ ap (number_of atoms) (sym (same_atom q a same)) ∙ number_of-got atoms k q distinct at in
      absurd (cc))

  abbrev is_here : List ℕ → Bool
  is_here numbers = list_any (λ n. n == k) numbers

  -- one atom more
  one_more : (a : Atom) (rest : List Atom) (numbers : List ℕ) → occurs_in rest q ≡ is_here numbers
      → (eq_by_cmp atom_cmp q a || occurs_in rest q) ≡ is_here (cons_option (number_of atoms a) numbers)
  one_more a rest numbers later =
      elim (number_of atoms a) as (λ o. number_of atoms a ≡ o → (eq_by_cmp atom_cmp q a || occurs_in rest q) ≡ is_here (cons_option o numbers)) [
        | None ↦ λ none. (λ i. no_number a none i || later i)
        | Some n ↦ λ is. (λ i. same_number a n is i || later i)
      ] refl

  pub added-numbers : (literals : List GroundLiteral) → occurs_in (added_by literals) q ≡ is_here (numbers_changed atoms true literals)
  added-numbers [] = refl
  added-numbers (adds a ∷ literals) = one_more a (added_by literals) (numbers_changed atoms true literals) (added-numbers literals)
  added-numbers (deletes a ∷ literals) = added-numbers literals

  pub deleted-numbers : (literals : List GroundLiteral) → occurs_in (deleted_by literals) q ≡ is_here (numbers_changed atoms false literals)
  deleted-numbers [] = refl
  deleted-numbers (adds a ∷ literals) = deleted-numbers literals
  deleted-numbers (deletes a ∷ literals) = one_more a (deleted_by literals) (numbers_changed atoms false literals) (deleted-numbers literals)

-- ---- the bits after some literals

-- those deleted become false, and then those added true
abbrev pub after_bits : List Atom → List Bool → List GroundLiteral → List Bool
after_bits atoms bits literals = with_bits true (with_bits false bits (numbers_changed atoms false literals)) (numbers_changed atoms true literals)

either : (d a b : Bool) → ((b && not d) || a) ≡ cond a true (cond d false b)
either true true true = refl
either true true false = refl
either true false true = refl
either true false false = refl
either false true true = refl
either false true false = refl
either false false true = refl
either false false false = refl

pub after_literals-bits : (t : Task) (atoms : List Atom) → are_distinct atoms ≡ true → ((a : Atom) → occurs_in atoms a ≡ true → is_fluent t a.predicate ≡ true)
    → (bits : List Bool) → length bits ≡ length atoms → (literals : List GroundLiteral)
    → bits_of_state atoms (after_literals (state_of_bits t atoms bits) literals) ≡ after_bits atoms bits literals
after_literals-bits t atoms distinct fluent bits long literals =
    let s = state_of_bits t atoms bits in
    let deleted = numbers_changed atoms false literals in
    let added = numbers_changed atoms true literals in
    same_lists (bits_of_state atoms (after_literals s literals)) (after_bits atoms bits literals)
    (omega (arith, long, length-map atoms (contains (after_literals s literals)), length-with_bits true (with_bits false bits deleted) added, length-with_bits false bits deleted))
    (λ k d below. each k d (omega (arith, below, length-map atoms (contains (after_literals s literals)))))
  where
    anything : Atom
    anything = record { predicate = 0; objects = [] }

    each : (k : ℕ) (d : Bool) → k < length atoms → get_or (bits_of_state atoms (after_literals (state_of_bits t atoms bits) literals)) k d ≡ get_or (after_bits atoms bits literals) k d
    each k d below =
        let s = state_of_bits t atoms bits in
        let q = get_or atoms k anything in
        let at : slice_get atoms k ≡ Some q = slice_get-get_or atoms k anything below in
        let deleted = numbers_changed atoms false literals in
        let added = numbers_changed atoms true literals in
        get_or-map (contains (after_literals s literals)) atoms k anything d below
        ∙ contains-after_literals s literals q
        ∙ (λ i. (contains-numbered (is_fluent t) t.init atoms distinct bits k q (fluent q (occurs_in-got atoms k q at)) at i && not (deleted-numbers atoms distinct k q at literals i)) || added-numbers atoms distinct k q at literals i)
        ∙ either (list_any (λ n. n == k) deleted) (list_any (λ n. n == k) added) (get_or bits k false)
        ∙ ap (cond (list_any (λ n. n == k) added) true) (sym (bit-with_bits false bits deleted k (omega (arith, below, long))))
        ∙ sym (bit-with_bits true (with_bits false bits deleted) added k (omega (arith, below, long, length-with_bits false bits deleted)))
        ∙ get_or_default (after_bits atoms bits literals) k false d (omega (arith, below, long, length-with_bits true (with_bits false bits deleted) added, length-with_bits false bits deleted))
