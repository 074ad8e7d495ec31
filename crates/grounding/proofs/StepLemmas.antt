-- Steps of the ground task: an instance, which is kept, is applicable where its precondition holds, and then sets the bits
-- of the changes that count and happen.
use Rattle.std.proofs.Common.{◌≡◌, ◌∙◌, ◌≤◌, ℕ, Bool, true, false, not, ◌&&◌, List, length, None, Some, is_some, refl, sym, ap, arith}
use Rattle.std.specs.Prelude.{slice_get, if◌then◌else◌, IsTrue}
use Rattle.std.specs.Option.{option_map, option_map_or, option_and_then}
use Rattle.std.specs.FinSet.{contains-from_list}
use Rattle.std.specs.List.{range_with_len}
use Rattle.std.proofs.lemmas.Bool.{and_parts}
use Rattle.std.proofs.lemmas.List.FromFn.{length-range_with_len}
use Rattle.std.proofs.lemmas.List.Sums.{length-filter, count_by-le-length}
use Rattle.model.specs.Task.{Atom, Schema, Task, Instance}
use Rattle.model.specs.Meaning.{State, holds, has_amount, can_apply, fits, is_instance, literals_in, after_changes, changes_of, step}
use Rattle.model.specs.Fluents.{is_fluent, HasInitialStatics}
use Rattle.model.specs.StaticallyFalse.{is_statically_false, kept_instances, counting_changes}
use Rattle.model.specs.NumberedAtoms.{occurs_in, are_distinct}
use Rattle.model.specs.Grounding.{state_of_bits, bits_of_state, ground_step}
use Rattle.formulas.proofs.Quantifiers.{among}
use Rattle.model.proofs.Atoms.{atoms_total}
use Rattle.model.proofs.ListLemmas.{Contains-got}
use Rattle.model.proofs.StaticallyFalseLemmas.{kept-Contains}
use Rattle.model.proofs.GroundTaskLemmas.{step-counting}
use Rattle.model.proofs.PackedStates.{contains-static}
use Rattle.grounding.proofs.ChangedBitsLemmas.{after_bits, after_literals-bits}

-- a kept instance is one of the task's
pub kept-is_instance : (t : Task) (number : ℕ) (i : Instance) → slice_get (kept_instances t) number ≡ Some i → is_instance t i ≡ true
kept-is_instance t number i named = (kept-Contains t i (Contains-got (kept_instances t) number i named)).0

-- packed states of fluent atoms have the initial static atoms
pub bits-statics : (t : Task) (atoms : List Atom) → ((a : Atom) → occurs_in atoms a ≡ true → is_fluent t a.predicate ≡ true) → (bits : List Bool)
    → HasInitialStatics t (state_of_bits t atoms bits)
bits-statics t atoms fluent bits q static =
    contains-static (is_fluent t) t.init atoms fluent bits q static ∙ sym (contains-from_list atoms_total t.init q)

-- what is applicable is a kept instance
pub step-named : (t : Task) (atoms : List Atom) (bits : List Bool) (number : ℕ) → IsTrue (is_some (ground_step t atoms bits number)) → (i : Instance) × (slice_get (kept_instances t) number ≡ Some i)
step-named t atoms bits number leads =
    elim (slice_get (kept_instances t) number) as (λ o. is_some (option_and_then (λ (j : Instance). option_map (bits_of_state atoms) (step t (state_of_bits t atoms bits) j)) o) ≡ true → (i : Instance) × (o ≡ Some i)) [
      | None ↦ λ none. absurd (cc)
      | Some i ↦ λ _. (i, refl)
    ] leads

module _ (t : Task) (atoms : List Atom) (bits : List Bool) (number : ℕ) (i : Instance) (named : slice_get (kept_instances t) number ≡ Some i) where
  abbrev before : State
  before = state_of_bits t atoms bits

  ground_step-named : ground_step t atoms bits number ≡ option_map (bits_of_state atoms) (step t before i)
  ground_step-named = ap (option_and_then (λ (j : Instance). option_map (bits_of_state atoms) (step t before j))) named

  some_if : (b v h : Bool) (x : State) → b ≡ true → v ≡ true → is_some (option_map (bits_of_state atoms) (if b && (v && h) then Some x else None)) ≡ h
  some_if true true true x is valued = refl
  some_if true true false x is valued = refl
  some_if true false h x is valued = absurd (cc)
  some_if false v h x is valued = absurd (cc)

  -- it is applicable where its precondition holds, as what it increases the cost by has a value
  pub applies : (schema : Schema) → slice_get t.schemas i.schema ≡ Some schema → is_some (ground_step t atoms bits number) ≡ holds t schema.precondition i.objects before
  applies schema at =
      let of : fits t schema i.objects ≡ true =
      sym (ap (λ o. option_map_or (λ (s : Schema). fits t s i.objects) o false) at) ∙ kept-is_instance t number i named in
      let kept : (has_amount t schema i.objects && not (is_statically_false t schema.precondition i.objects)) ≡ true =
      sym (ap (λ o. option_map_or (λ (s : Schema). has_amount t s i.objects && not (is_statically_false t s.precondition i.objects)) o false) at)
      ∙ (kept-Contains t i (Contains-got (kept_instances t) number i named)).1 in
      ap is_some ground_step-named
      ∙ ap (λ o. is_some (option_map (bits_of_state atoms) (option_and_then (λ (s : Schema).
      if fits t s i.objects && can_apply t s i.objects before then Some (after_changes t before (changes_of t s.effect i.objects)) else None) o))) at
      ∙ some_if (fits t schema i.objects) (has_amount t schema i.objects) (holds t schema.precondition i.objects before) (after_changes t before (changes_of t schema.effect i.objects)) of
      (and_parts (has_amount t schema i.objects) (not (is_statically_false t schema.precondition i.objects)) kept).0

  -- and then its changes that count set bits
  pub leads-bits : are_distinct atoms ≡ true → ((a : Atom) → occurs_in atoms a ≡ true → is_fluent t a.predicate ≡ true) → length bits ≡ length atoms
      → IsTrue (is_some (ground_step t atoms bits number))
      → ground_step t atoms bits number ≡ Some (after_bits atoms bits (literals_in t before (counting_changes t i)))
  leads-bits distinct fluent long leads =
      ground_step-named
      ∙ elim (step t before i) as (λ o. step t before i ≡ o → is_some (option_map (bits_of_state atoms) o) ≡ true
      → option_map (bits_of_state atoms) o ≡ Some (after_bits atoms bits (literals_in t before (counting_changes t i)))) [
        | None ↦ λ _ none. absurd (cc)
        | Some next ↦ λ is _.
            ap Some (ap (bits_of_state atoms) (sym (step-counting t before next i (bits-statics t atoms fluent bits) is))
            ∙ after_literals-bits t atoms distinct fluent bits long (literals_in t before (counting_changes t i)))
      ] refl (sym (ap is_some ground_step-named) ∙ leads)

-- ---- the numbers that pass a test

-- they are no more than those that were looked at
pub among-few : (p : ℕ → Bool) (n : ℕ) → length (among p n) ≤ n
among-few p n =
    omega (arith, length-filter p (range_with_len 0 n), count_by-le-length p (range_with_len 0 n), length-range_with_len 0 n)
