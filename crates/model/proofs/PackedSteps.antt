-- Properties of packed states bit by bit: the literals of a formula that holds, and the state after a step.
use Rattle.std.proofs.Common.{◌≡◌, ◌∙◌, ℕ, Bool, true, false, not, ◌&&◌, ◌||◌, List, [], ◌∷◌, get_or, Option, None, Some, refl, sym, ap}
use Rattle.std.specs.Prelude.{All, IsTrue, slice_get}
use Rattle.std.specs.List.{list_all, filter_map, cons_option}
use Rattle.std.specs.Option.{option_map}
use Rattle.std.specs.FinSet.{contains}
use Rattle.std.proofs.lemmas.Bool.{and_parts, and_from}
use Rattle.std.proofs.lemmas.List.{get_or-map}
use Rattle.std.proofs.lemmas.Option.{slice_get_within, get_or_from_slice_get}
use Rattle.model.specs.Task.{Atom, Task, Instance}
use Rattle.model.specs.Meaning.{State, literals_in, added_by, deleted_by, step}
use Rattle.model.specs.Fluents.{is_fluent}
use Rattle.model.specs.SureLiterals.{Literal, is_true, is_false, are_same, are_different, literal_holds, sure}
use Rattle.model.specs.StaticallyFalse.{counting_changes}
use Rattle.model.specs.NumberedAtoms.{occurs_in, numbered_atoms, number_of}
use Rattle.model.specs.NumberedLiterals.{NumberedLiteral, numbered_literal, agrees}
use Rattle.model.specs.Grounding.{state_of_bits, bits_of_state, NumberedLiteralsHold}
use Rattle.model.proofs.SureLiteralsHold.{sure_literals_hold}
use Rattle.model.proofs.StaticLemmas.{contains-after_literals}
use Rattle.model.proofs.NumberingLemmas.{occurs_in-got, got-number_of}
use Rattle.model.proofs.PackedStates.{contains-numbered}
use Rattle.model.proofs.GroundTaskLemmas.{numbered-distinct, numbered-fluent, packs_states, step-counting}

-- all images of passing elements pass
all_mapped : {X Y : Type 0} (h : X → Option Y) (p : X → Bool) (q : Y → Bool) → ((x : X) (y : Y) → h x ≡ Some y → p x ≡ true → q y ≡ true)
    → (xs : List X) → list_all p xs ≡ true → list_all q (filter_map h xs) ≡ true
all_mapped h p q passes [] all = refl
all_mapped h p q passes (x ∷ xs) all =
    let parts = and_parts (p x) (list_all p xs) all in
    let rest = all_mapped h p q passes xs parts.1 in
    elim (h x) as (λ o. h x ≡ o → list_all q (cons_option o (filter_map h xs)) ≡ true) [
      | None ↦ λ _. rest
      | Some y ↦ λ is. and_from (q y) (list_all q (filter_map h xs)) (passes x y is parts.0) rest
    ] refl

module _ (task : Task) (more : List Atom) (fluent : All (λ (a : Atom). IsTrue (is_fluent task a.predicate)) more) where
  abbrev atoms : List Atom
  atoms = numbered_atoms task more

  -- a numbered atom is true exactly if its bit is set
  pub contains-bit : (bits : List Bool) (n : ℕ) (a : Atom) → slice_get atoms n ≡ Some a → contains (state_of_bits task atoms bits) a ≡ get_or bits n false
  contains-bit bits n a at =
      contains-numbered (is_fluent task) task.init atoms (numbered-distinct task more) bits n a (numbered-fluent task more fluent a (occurs_in-got atoms n a at)) at

  literal_agrees : (bits : List Bool) (l : Literal) (n : NumberedLiteral) → numbered_literal atoms l ≡ Some n → literal_holds (state_of_bits task atoms bits) l ≡ true → agrees bits n ≡ true
  literal_agrees bits (is_true a) n is holding =
      elim (number_of atoms a) as (λ o. number_of atoms a ≡ o → option_map (λ (number : ℕ). record { atom = number; value = true }) o ≡ Some n → agrees bits n ≡ true) [
        | None ↦ λ _ none. absurd (cc)
        | Some k ↦ λ at some.
            let same : record { atom = k; value = true } ≡ n = cc in
            ap (agrees bits) (sym same) ∙ sym (contains-bit bits k a (got-number_of atoms a k at)) ∙ holding
      ] refl is
  literal_agrees bits (is_false a) n is holding =
      elim (number_of atoms a) as (λ o. number_of atoms a ≡ o → option_map (λ (number : ℕ). record { atom = number; value = false }) o ≡ Some n → agrees bits n ≡ true) [
        | None ↦ λ _ none. absurd (cc)
        | Some k ↦ λ at some.
            let same : record { atom = k; value = false } ≡ n = cc in
            ap (agrees bits) (sym same) ∙ ap not (sym (contains-bit bits k a (got-number_of atoms a k at))) ∙ holding
      ] refl is
  literal_agrees bits (are_same a b) n none holding = absurd (cc)
  literal_agrees bits (are_different a b) n none holding = absurd (cc)

  -- A numbered atom is true after a step if a counting change that takes effect adds it, or if it was true and no such change
  -- deletes it.
  pub bit-after : (bits : List Bool) (i : Instance) (next : State) (n : ℕ) (a : Atom) → slice_get atoms n ≡ Some a → step task (state_of_bits task atoms bits) i ≡ Some next
      → get_or (bits_of_state atoms next) n false
      ≡ ((get_or bits n false && not (occurs_in (deleted_by (literals_in task (state_of_bits task atoms bits) (counting_changes task i))) a))
      || occurs_in (added_by (literals_in task (state_of_bits task atoms bits) (counting_changes task i))) a)
  bit-after bits i next n a at leads =
      let s = state_of_bits task atoms bits in
      let literals = literals_in task s (counting_changes task i) in
      get_or-map (contains next) atoms n a false (slice_get_within atoms n a at)
      ∙ ap (contains next) (get_or_from_slice_get atoms n a a at)
      ∙ ap (λ (t : State). contains t a) (sym (step-counting task s next i ((packs_states task more fluent).statics bits) leads))
      ∙ contains-after_literals s literals a
      ∙ ap (λ b. (b && not (occurs_in (deleted_by literals) a)) || occurs_in (added_by literals) a) (contains-bit bits n a at)

pub numbered_literals_hold : NumberedLiteralsHold
numbered_literals_hold task more fluent formula binding bits holding =
    all_mapped (numbered_literal (numbered_atoms task more)) (literal_holds (state_of_bits task (numbered_atoms task more) bits)) (agrees bits)
    (λ l n is here. literal_agrees task more fluent bits l n is here) (sure task formula binding)
    (sure_literals_hold task formula binding (state_of_bits task (numbered_atoms task more) bits) holding)
