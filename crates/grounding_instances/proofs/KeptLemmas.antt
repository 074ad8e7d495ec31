-- Changes kept one after another, while their atoms are numbered.
use Rattle.std.proofs.Common.{◌≡◌, ◌∙◌, ℕ, ◌<◌, ◌≤◌, ◌+◌, ◌-◌, Bool, true, false, List, [], ◌∷◌, ◌++◌, length, map, take, get_or, append-nil, append_assoc, Option, None, Some, refl, sym, ap, subst, arith}
use Rattle.std.specs.Prelude.{if◌then◌else◌}
use Rattle.std.specs.List.{flat_map, cons_option}
use Rattle.std.specs.Option.{option_map}
use Rattle.std.proofs.lemmas.List.{map_push, take_more, length-map, length-append}
use Rattle.std.proofs.lemmas.List.Elements.{filter_map-append}
use Rattle.std.proofs.lemmas.List.Concat.{flat_map-append}
use Rattle.model.specs.Task.{Task, Atom, Instance}
use Rattle.model.specs.Meaning.{GroundLiteral, adds, deletes, Change, changes_of_instance}
use Rattle.model.specs.StaticallyFalse.{counts}
use Rattle.model.specs.NumberedAtoms.{number_of, with_atoms, atom_of_literal}
use Rattle.model.specs.NumberedLiterals.{NumberedLiteral, numbered_ground_literal}
use Rattle.model.proofs.NumberingLemmas.{with_atoms-append}
use Rattle.grounding_instances.specs.declared.changes.NumberedChange.{NumberedChange}
use Rattle.grounding_instances.specs.declared.changes.KeptChanges.{KeptChanges}
use Rattle.grounding_instances.specs.KeptNumbers.{IsNumberOf}
use Rattle.grounding_instances.specs.NumberedEffects.{NumberedEffect, is_adding, guard_of, numbered_effect, counted_effect, counted_effects, effects_of_instance}
use Rattle.grounding_instances.specs.KeptChanges.{guard_in, effect_of, IsEmpty, AddsEffects, AreKept}

-- ---- one change

abbrev said : Bool → ℕ → NumberedLiteral
said value n = record { atom = n; value = value }

literal-numbered : (atoms : List Atom) (l : GroundLiteral) (n : ℕ) → number_of atoms (atom_of_literal l) ≡ Some n → numbered_ground_literal atoms l ≡ Some (said (is_adding l) n)
literal-numbered atoms (adds a) n is = ap (option_map (said true)) is
literal-numbered atoms (deletes a) n is = ap (option_map (said false)) is

module _ (t : Task) (c : Change) where
  abbrev effect_at : NumberedLiteral → NumberedEffect
  effect_at l = record { atom = l.atom; value = l.value; guard = guard_of c }

  one-counted : (atoms : List Atom) (n : ℕ) → counts t c ≡ true → number_of atoms (atom_of_literal c.literal) ≡ Some n → counted_effects t atoms (c ∷ []) ≡ effect_at (said (is_adding c.literal) n) ∷ []
  one-counted atoms n counted is =
      ap (λ (b : Bool). cons_option (if b then numbered_effect atoms c else None) []) counted
      ∙ ap (λ (o : Option NumberedLiteral). cons_option (option_map effect_at o) []) (literal-numbered atoms c.literal n is)

  pub adds-one : (atoms : List Atom) (one : NumberedChange) (old new : List NumberedChange) → counts t c ≡ true → IsNumberOf atoms (atom_of_literal c.literal) one.atom
      → one.value ≡ is_adding c.literal → guard_in one.guard ≡ guard_of c → new ≡ old ++ one ∷ [] → AddsEffects t atoms (c ∷ []) old new
  adds-one atoms one old new counted number value guard push later =
      let same : effect_of one ≡ effect_at (said (is_adding c.literal) one.atom) = (λ i. record { atom = one.atom; value = value i; guard = guard i }) in
      ap (map effect_of) push ∙ map_push effect_of old one ∙ ap (λ (e : NumberedEffect). map effect_of old ++ e ∷ []) same
      ∙ ap (λ (l : List NumberedEffect). map effect_of old ++ l) (sym (one-counted (with_atoms atoms later) one.atom counted (number later)))

  pub adds-none : (atoms : List Atom) (old new : List NumberedChange) → counts t c ≡ false → new ≡ old → AddsEffects t atoms (c ∷ []) old new
  adds-none atoms old new uncounted same later =
      ap (map effect_of) same ∙ sym (append-nil (map effect_of old))
      ∙ ap (λ (l : List NumberedEffect). map effect_of old ++ l) (sym (ap (λ (b : Bool). cons_option (if b then numbered_effect (with_atoms atoms later) c else None) []) uncounted))

-- ---- one change after another

module _ (t : Task) where
  pub adds-nothing : (atoms : List Atom) (old : List NumberedChange) → AddsEffects t atoms [] old old
  adds-nothing atoms old later = sym (append-nil (map effect_of old))

  -- the atoms of later changes come after those of the first ones
  moved : (before now touched later : List Atom) → now ≡ with_atoms before touched → with_atoms before (touched ++ later) ≡ with_atoms now later
  moved before now touched later is = with_atoms-append before touched later ∙ ap (λ a. with_atoms a later) (sym is)

  pub adds-more : (before now touched : List Atom) (xs : List Change) (x : Change) (old mid new : List NumberedChange) → now ≡ with_atoms before touched
      → AddsEffects t before xs old mid → AddsEffects t now (x ∷ []) mid new → AddsEffects t now (xs ++ x ∷ []) old new
  adds-more before now touched xs x old mid new is first second later =
      let all = with_atoms now later in
      second later
      ∙ ap (λ (l : List NumberedEffect). l ++ counted_effects t all (x ∷ [])) (first (touched ++ later) ∙ ap (λ a. map effect_of old ++ counted_effects t a xs) (moved before now touched later is))
      ∙ append_assoc (map effect_of old) (counted_effects t all xs) (counted_effects t all (x ∷ []))
      ∙ ap (λ (l : List NumberedEffect). map effect_of old ++ l) (sym (filter_map-append (counted_effect t all) xs (x ∷ [])))

  -- ---- one instance after another

  pub kept-none : (atoms : List Atom) (k : KeptChanges) → IsEmpty k → AreKept t atoms [] k
  kept-none atoms k none = record { effects = λ later. ap (map effect_of) none.changes; counts = λ later. none.counts }

  pub kept-more : (before now touched : List Atom) (instances : List Instance) (i : Instance) (changes : List Change) (old new : KeptChanges) (mid : List NumberedChange) → now ≡ with_atoms before touched
      → changes ≡ changes_of_instance t i → AddsEffects t now changes old.changes.items mid → new.changes.items ≡ mid → new.counts.items ≡ old.counts.items ++ (length mid - length old.changes.items) ∷ []
      → AreKept t before instances old → AreKept t now (instances ++ i ∷ []) new
  kept-more before now touched instances i changes old new mid is same added made counted kept = record {
    effects = λ later.
        let all = with_atoms now later in
        let one : flat_map (effects_of_instance t all) (i ∷ []) ≡ effects_of_instance t all i = append-nil (effects_of_instance t all i) in
        ap (map effect_of) made ∙ added later
        ∙ (λ j. earlier later j ++ counted_effects t all (same j))
        ∙ ap (λ (l : List NumberedEffect). flat_map (effects_of_instance t all) instances ++ l) (sym one)
        ∙ sym (flat_map-append (effects_of_instance t all) instances (i ∷ []));
    counts = λ later.
        let all = with_atoms now later in
        let long : length mid ≡ length old.changes.items + length (effects_of_instance t all i) =
        omega (
          arith,
          ap length (added later),
          length-append (map effect_of old.changes.items) (counted_effects t all changes),
          length-map mid effect_of,
          length-map old.changes.items effect_of,
          ap (λ (l : List Change). length (counted_effects t all l)) same,
        ) in
        let last : length mid - length old.changes.items ≡ length (effects_of_instance t all i) = omega (arith, long) in
        counted ∙ (λ j. kept.counts (touched ++ later) j ++ last j ∷ [])
        ∙ ap (λ (a : List Atom). map (λ (o : Instance). length (effects_of_instance t a o)) instances ++ length (effects_of_instance t all i) ∷ []) (moved before now touched later is)
        ∙ sym (map_push (λ (o : Instance). length (effects_of_instance t all o)) instances i);
  }
    where
      earlier : (later : List Atom) → map effect_of old.changes.items ≡ flat_map (effects_of_instance t (with_atoms now later)) instances
      earlier later = kept.effects (touched ++ later) ∙ ap (λ (a : List Atom). flat_map (effects_of_instance t a) instances) (moved before now touched later is)

-- ---- traversed lists

pub mapped-more : {X Y : Type 0} (f : X → Y) (xs : List X) (k : ℕ) (x : X) → k < length xs → x ≡ get_or xs k x → map f (take k xs) ++ f x ∷ [] ≡ map f (take (k + 1) xs)
mapped-more f xs k x below at =
    sym (map_push f (take k xs) x) ∙ ap (map f) (ap (λ y. take k xs ++ y ∷ []) at ∙ sym (take_more xs k x below))
