-- What is known of the counting changes of an instance: their numbers are of atoms, and the objects of their conditions may
-- stand for the variables.
use Rattle.std.proofs.Common.{◌≡◌, ◌∙◌, ℕ, ◌<◌, ◌+◌, Bool, true, false, List, [], ◌∷◌, ◌++◌, length, drop, Option, None, Some, refl, sym, ap, subst}
use Rattle.std.specs.Prelude.{Contains, IsTrue, slice_get, if◌then◌else◌}
use Rattle.std.specs.Global.{Vec}
use Rattle.std.specs.List.{cons_option}
use Rattle.std.specs.Option.{option_map}
use Rattle.std.proofs.lemmas.Bool.{not-true}
use Rattle.std.proofs.lemmas.Option.{slice_get_within, slice_get-map}
use Rattle.formulas.specs.State.{FitsFormula}
use Rattle.model.specs.Task.{Atom, Formula, Task, Instance}
use Rattle.model.specs.WellTyped.{is_task}
use Rattle.model.specs.Meaning.{State, GroundLiteral, adds, deletes, Change, changes_of_instance, is_instance}
use Rattle.model.specs.StaticallyFalse.{counts, is_statically_false, is_unconditional}
use Rattle.model.specs.NumberedAtoms.{number_of}
use Rattle.model.specs.NumberedLiterals.{NumberedLiteral, numbered_ground_literal}
use Rattle.model.proofs.ListLemmas.{Contains-got, Contains-place, filter_map-Contains, drop-here}
use Rattle.model.proofs.NumberingLemmas.{got-number_of}
use Rattle.grounding_instances.proofs.ChangesFit.{all-fit}
use Rattle.grounding.specs.declared.changes.CountingChange.{CountingChange}
use Rattle.grounding.specs.ChangedBits.{with_bits}
use Rattle.grounding.specs.NumberedEffects.{Guard, NumberedEffect, guard_of, numbered_effect, counted_effect, effects_of_instance, number_made, numbers_made}
use Rattle.grounding.specs.Changes.{effect_in, guard_in, GuardFits, AreChangesOf}

some-same : {X : Type 0} (x y : X) → Some x ≡ Some y → x ≡ y
some-same x y e = cc

number-within : (atoms : List Atom) (a : Atom) (v : Bool) (n : NumberedLiteral) → option_map (λ (k : ℕ). record { atom = k; value = v }) (number_of atoms a) ≡ Some n → n.atom < length atoms
number-within atoms a v n is =
    elim (number_of atoms a) as (λ o. number_of atoms a ≡ o → option_map (λ (k : ℕ). record { atom = k; value = v }) o ≡ Some n → n.atom < length atoms) [
      | None ↦ λ _ none. absurd (cc)
      | Some k ↦ λ at some.
          let same : record { atom = k; value = v } ≡ n = cc in
          let within : k < length atoms = slice_get_within atoms k a (got-number_of atoms a k at) in
          subst (λ (m : NumberedLiteral). m.atom < length atoms) same within
    ] refl is

literal-within : (atoms : List Atom) (l : GroundLiteral) (n : NumberedLiteral) → numbered_ground_literal atoms l ≡ Some n → n.atom < length atoms
literal-within atoms (adds a) n is = number-within atoms a true n is
literal-within atoms (deletes a) n is = number-within atoms a false n is

effect-parts : (t : Task) (atoms : List Atom) (d : Change) (e : NumberedEffect) → counted_effect t atoms d ≡ Some e → (guard_of d ≡ e.guard) × (e.atom < length atoms) × (counts t d ≡ true)
effect-parts t atoms d e is =
    elim (counts t d) as (λ b. (if b then numbered_effect atoms d else None) ≡ Some e → (guard_of d ≡ e.guard) × (e.atom < length atoms) × (b ≡ true)) [
      | false ↦ λ none. absurd (cc)
      | true ↦ λ some.
          elim (numbered_ground_literal atoms d.literal) as (λ o. numbered_ground_literal atoms d.literal ≡ o → option_map made o ≡ Some e → (guard_of d ≡ e.guard) × (e.atom < length atoms) × (true ≡ true)) [
            | None ↦ λ _ none. absurd (cc)
            | Some l ↦ λ at this.
                let same : made l ≡ e = some-same (made l) e this in (
                  ap (λ (x : NumberedEffect). x.guard) same,
                  subst (λ (x : NumberedEffect). x.atom < length atoms) same (literal-within atoms d.literal l at),
                  refl,
                )
          ] refl some
    ] is
  where
    made : NumberedLiteral → NumberedEffect
    made l = record { atom = l.atom; value = l.value; guard = guard_of d }

-- what is so of the condition is so of the guard
guard-has : (has : Formula → List ℕ → Type 0) (d : Change) (g : Guard) → guard_of d ≡ Some g → has d.condition d.binding → has g.formula g.binding
guard-has has d g is holds =
    elim (is_unconditional d) as (λ b. guarded b ≡ Some g → has g.formula g.binding) [
      | true ↦ λ none. absurd (cc)
      | false ↦ λ some. subst (λ (x : Guard). has x.formula x.binding) (some-same whole g some) holds
    ] is
  where
    whole : Guard
    whole = record { formula = d.condition; binding = d.binding }

    guarded : Bool → Option Guard
    guarded b = if b then None else Some whole

module _ (t : Task) (atoms : List Atom) (i : Instance) (k : ℕ) (e : NumberedEffect) (at : slice_get (effects_of_instance t atoms i) k ≡ Some e) where
  -- the change of the instance that it comes from
  origin : (d : Change) × Contains (changes_of_instance t i) d × (counted_effect t atoms d ≡ Some e)
  origin = filter_map-Contains (counted_effect t atoms) (changes_of_instance t i) e (Contains-got (effects_of_instance t atoms i) k e at)

  parts : (guard_of origin.0 ≡ e.guard) × (e.atom < length atoms) × (counts t origin.0 ≡ true)
  parts = effect-parts t atoms origin.0 e origin.2

  effect-within : e.atom < length atoms
  effect-within = parts.1

  effect-counts : (g : Guard) → e.guard ≡ Some g → is_statically_false t g.formula g.binding ≡ false
  effect-counts g is =
      guard-has (λ f b. is_statically_false t f b ≡ false) origin.0 g (parts.0 ∙ is)
      (not-true (is_statically_false t origin.0.condition origin.0.binding) parts.2)

  pub effect-fits : IsTrue (is_task t) → IsTrue (is_instance t i) → GuardFits t e.guard
  effect-fits well instance g is =
      let place = Contains-place (changes_of_instance t i) origin.0 origin.1 in
      guard-has (FitsFormula t) origin.0 g (parts.0 ∙ is)
      (all-fit t well i instance (changes_of_instance t i) refl place.0 origin.0 place.1)

module _ (t : Task) (atoms : List Atom) (i : Instance) (changes : Vec CountingChange) (are : AreChangesOf t atoms i changes)
    (k : ℕ) (c : CountingChange) (at : slice_get changes.items k ≡ Some c) where
  effect-at : slice_get (effects_of_instance t atoms i) k ≡ Some (effect_in c)
  effect-at = ap (λ (l : List NumberedEffect). slice_get l k) (sym are.effects) ∙ slice_get-map effect_in changes.items k ∙ ap (option_map effect_in) at

  pub change-within : c.atom < length atoms
  change-within = effect-within t atoms i k (effect_in c) effect-at

  pub guard-counts : (g : Guard) → guard_in c.condition ≡ Some g → is_statically_false t g.formula g.binding ≡ false
  guard-counts = effect-counts t atoms i k (effect_in c) effect-at

  pub change-fits : IsTrue (is_task t) → IsTrue (is_instance t i) → GuardFits t (guard_in c.condition)
  change-fits = effect-fits t atoms i k (effect_in c) effect-at

-- ---- one change after another

with_bits-append : (value : Bool) (bits : List Bool) (xs ys : List ℕ) → with_bits value bits (xs ++ ys) ≡ with_bits value (with_bits value bits xs) ys
with_bits-append value bits [] ys = refl
with_bits-append value bits (x ∷ xs) ys = with_bits-append value _ xs ys

-- what is made first, and then the rest
pub with_bits-more : (t : Task) (s : State) (value : Bool) (bits : List Bool) (effects : List NumberedEffect) (k : ℕ) (e : NumberedEffect) → slice_get effects k ≡ Some e
    → with_bits value (with_bits value bits (numbers_made t s value (e ∷ []))) (numbers_made t s value (drop (k + 1) effects)) ≡ with_bits value bits (numbers_made t s value (drop k effects))
with_bits-more t s value bits effects k e at =
    sym (with_bits-append value bits (numbers_made t s value (e ∷ [])) (numbers_made t s value (drop (k + 1) effects)))
    ∙ ap (with_bits value bits) (joined (number_made t s value e) (numbers_made t s value (drop (k + 1) effects)) ∙ ap (numbers_made t s value) (sym (drop-here effects k e at)))
  where
    joined : (o : Option ℕ) (rest : List ℕ) → cons_option o [] ++ rest ≡ cons_option o rest
    joined None rest = refl
    joined (Some n) rest = refl
