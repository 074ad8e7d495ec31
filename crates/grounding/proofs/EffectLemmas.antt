-- The numbered effects of an instance: what they are as numbered changes, and which numbers they set.
use Rattle.std.proofs.Common.{◌≡◌, ◌∙◌, ℕ, Bool, true, false, ◌&&◌, List, [], ◌∷◌, map, Option, None, Some, refl, sym, ap}
use Rattle.std.specs.Prelude.{filter, if◌then◌else◌, cond, is_none}
use Rattle.std.specs.Bool.{beq}
use Rattle.std.specs.List.{filter_map, cons_option}
use Rattle.std.specs.Option.{option_map, option_map_or}
use Rattle.model.specs.Task.{Atom, Formula, Task, Instance, atom, equal, and, or, not, imply, exists, forall, no_formula, more_formulas}
use Rattle.model.specs.Meaning.{State, holds, GroundLiteral, adds, deletes, Change, changes_of_instance, literals_in}
use Rattle.model.specs.StaticallyFalse.{counts, counting_changes, is_empty_and, is_unconditional}
use Rattle.model.specs.NumberedAtoms.{number_of}
use Rattle.model.specs.NumberedLiterals.{NumberedLiteral, NumberedChange, numbered_ground_literal, numbered_change, counting_of_instance}
use Rattle.grounding.specs.ChangedBits.{number_changed, numbers_changed}
use Rattle.grounding.specs.NumberedEffects.{Guard, NumberedEffect, guard_of, numbered_effect, effects_of_instance, change_of_effect, is_met, numbers_made}

-- what is left out first gives nothing
pub filter_map-filter : {X Y : Type 0} (p : X → Bool) (h : X → Option Y) (xs : List X) → filter_map (λ x. if p x then h x else None) xs ≡ filter_map h (filter p xs)
filter_map-filter p h [] = refl
filter_map-filter {X} {Y} p h (x ∷ xs) =
    elim (p x) as (λ b. cons_option (if b then h x else None) (filter_map (λ y. if p y then h y else None) xs) ≡ filter_map h (cond b (x ∷ filter p xs) (filter p xs))) [
      | true ↦ ap (cons_option (h x)) (filter_map-filter p h xs)
      | false ↦ filter_map-filter p h xs
    ]

pub map-filter_map : {X Y Z : Type 0} (f : Y → Z) (h : X → Option Y) (xs : List X) → map f (filter_map h xs) ≡ filter_map (λ x. option_map f (h x)) xs
map-filter_map f h [] = refl
map-filter_map {X} {Y} {Z} f h (x ∷ xs) =
    elim (h x) as (λ o. map f (cons_option o (filter_map h xs)) ≡ cons_option (option_map f o) (filter_map (λ y. option_map f (h y)) xs)) [
      | None ↦ map-filter_map f h xs
      | Some y ↦ ap (λ l. f y ∷ l) (map-filter_map f h xs)
    ]

pub filter_map-same : {X Y : Type 0} (f g : X → Option Y) → ((x : X) → f x ≡ g x) → (xs : List X) → filter_map f xs ≡ filter_map g xs
filter_map-same f g same [] = refl
filter_map-same f g same (x ∷ xs) = (λ i. cons_option (same x i) (filter_map-same f g same xs i))

-- ---- as numbered changes

pub guard_of-none : (c : Change) → is_none (guard_of c) ≡ is_unconditional c
guard_of-none c =
    elim (is_unconditional c) as (λ b. is_none (guarded b) ≡ b) [
      | true ↦ refl
      | false ↦ refl
    ]
  where
    guarded : Bool → Option Guard
    guarded b = if b then None else Some (record { formula = c.condition; binding = c.binding })

pub change-numbered_effect : (atoms : List Atom) (c : Change) → option_map change_of_effect (numbered_effect atoms c) ≡ numbered_change atoms c
change-numbered_effect atoms c =
    elim (numbered_ground_literal atoms c.literal) as (λ o.
    option_map change_of_effect (option_map (λ (l : NumberedLiteral). record { atom = l.atom; value = l.value; guard = guard_of c }) o)
    ≡ option_map (λ (l : NumberedLiteral). record { atom = l.atom; value = l.value; is_unconditional = is_unconditional c }) o) [
      | None ↦ refl
      | Some l ↦ ap (λ (b : Bool). Some (changed l b)) (guard_of-none c)
    ]
  where
    changed : NumberedLiteral → Bool → NumberedChange
    changed l b = record { atom = l.atom; value = l.value; is_unconditional = b }

module _ (t : Task) (atoms : List Atom) (i : Instance) where
  pub effects-counting : effects_of_instance t atoms i ≡ filter_map (numbered_effect atoms) (counting_changes t i)
  effects-counting = filter_map-filter (counts t) (numbered_effect atoms) (changes_of_instance t i)

  pub changes-of_effects : map change_of_effect (effects_of_instance t atoms i) ≡ counting_of_instance t atoms i
  changes-of_effects =
      ap (map change_of_effect) effects-counting
      ∙ map-filter_map change_of_effect (numbered_effect atoms) (counting_changes t i)
      ∙ filter_map-same _ _ (change-numbered_effect atoms) (counting_changes t i)

-- ---- the numbers that are set

module _ (t : Task) (s : State) where
  empty_and : (f : Formula) (b : List ℕ) → is_empty_and f ≡ true → holds t f b s ≡ true
  empty_and (and no_formula) b is = refl
  empty_and (and (more_formulas first rest)) b is = absurd (cc)
  empty_and (atom a) b is = absurd (cc)
  empty_and (equal u v) b is = absurd (cc)
  empty_and (or parts) b is = absurd (cc)
  empty_and (not part) b is = absurd (cc)
  empty_and (imply p q) b is = absurd (cc)
  empty_and (exists types part) b is = absurd (cc)
  empty_and (forall types part) b is = absurd (cc)

  -- without a guard the condition holds
  pub met-guard_of : (c : Change) → is_met t s (guard_of c) ≡ holds t c.condition c.binding s
  met-guard_of c =
      elim (is_unconditional c) as (λ b. is_unconditional c ≡ b → is_met t s (if b then None else Some (record { formula = c.condition; binding = c.binding })) ≡ holds t c.condition c.binding s) [
        | true ↦ λ is. sym (empty_and c.condition c.binding is)
        | false ↦ λ _. refl
      ] refl

  module _ (atoms : List Atom) (value : Bool) where
    made : Bool → Bool → ℕ → Option ℕ
    made is met n = if is && met then Some n else None

    -- one atom, of a number or of none
    one : (o : Option ℕ) (is : Bool) (met met' : Bool) (rest rest' : List ℕ) → met ≡ met' → rest ≡ rest'
        → cons_option (option_map_or (λ n. if is && met then Some n else None) o None) rest ≡ cond met' (cons_option (if is then o else None) rest') rest'
    one None true met true rest rest' same tail = tail
    one None false met true rest rest' same tail = tail
    one None is met false rest rest' same tail = tail
    one (Some n) true met true rest rest' same tail = (λ i. cons_option (if same i then Some n else None) (tail i))
    one (Some n) true met false rest rest' same tail = (λ i. cons_option (if same i then Some n else None) (tail i))
    one (Some n) false met true rest rest' same tail = tail
    one (Some n) false met false rest rest' same tail = tail

    as_one : (o : Option ℕ) (v : Bool) (guard : Option Guard) (rest : List NumberedEffect)
        → numbers_made t s value (cons_option (option_map (λ (l : NumberedLiteral). record { atom = l.atom; value = l.value; guard = guard }) (option_map (λ (n : ℕ). record { atom = n; value = v }) o)) rest)
        ≡ cons_option (option_map_or (λ n. if beq v value && is_met t s guard then Some n else None) o None) (numbers_made t s value rest)
    as_one None v guard rest = refl
    as_one (Some n) v guard rest = refl

    changed : (l : GroundLiteral) (rest : List GroundLiteral) (h : Bool) (others : List GroundLiteral) → List ℕ
    changed l rest h others = numbers_changed atoms value (cond h (l ∷ others) others)

    split : (h : Bool) (l : GroundLiteral) (others : List GroundLiteral) → numbers_changed atoms value (cond h (l ∷ others) others)
        ≡ cond h (cons_option (number_changed atoms value l) (numbers_changed atoms value others)) (numbers_changed atoms value others)
    split true l others = refl
    split false l others = refl

    added_is : (a : Atom) → number_changed atoms value (adds a) ≡ (if beq true value then number_of atoms a else None)
    added_is a = elim value as (λ v. number_changed atoms v (adds a) ≡ (if beq true v then number_of atoms a else None)) [ true ↦ refl | false ↦ refl ]

    deleted_is : (a : Atom) → number_changed atoms value (deletes a) ≡ (if beq false value then number_of atoms a else None)
    deleted_is a = elim value as (λ v. number_changed atoms v (deletes a) ≡ (if beq false v then number_of atoms a else None)) [ true ↦ refl | false ↦ refl ]

    literals_more : (c : Change) (changes : List Change) → literals_in t s (c ∷ changes) ≡ cond (holds t c.condition c.binding s) (c.literal ∷ literals_in t s changes) (literals_in t s changes)
    literals_more c changes =
        elim (holds t c.condition c.binding s) as (λ b. map (λ (d : Change). d.literal) (cond b (c ∷ met) met) ≡ cond b (c.literal ∷ literals_in t s changes) (literals_in t s changes)) [
          | true ↦ refl
          | false ↦ refl
        ]
      where
        met : List Change
        met = filter (λ (d : Change). holds t d.condition d.binding s) changes

    one_change : (l : GroundLiteral) (guard : Option Guard) (h : Bool) (rest : List NumberedEffect) (others : List GroundLiteral) → is_met t s guard ≡ h → numbers_made t s value rest ≡ numbers_changed atoms value others
        → numbers_made t s value (cons_option (option_map (λ (n : NumberedLiteral). record { atom = n.atom; value = n.value; guard = guard }) (numbered_ground_literal atoms l)) rest)
        ≡ numbers_changed atoms value (cond h (l ∷ others) others)
    one_change (adds a) guard h rest others same tail =
        as_one (number_of atoms a) true guard rest
        ∙ one (number_of atoms a) (beq true value) (is_met t s guard) h (numbers_made t s value rest) (numbers_changed atoms value others) same tail
        ∙ ap (λ o. cond h (cons_option o (numbers_changed atoms value others)) (numbers_changed atoms value others)) (sym (added_is a))
        ∙ sym (split h (adds a) others)
    one_change (deletes a) guard h rest others same tail =
        as_one (number_of atoms a) false guard rest
        ∙ one (number_of atoms a) (beq false value) (is_met t s guard) h (numbers_made t s value rest) (numbers_changed atoms value others) same tail
        ∙ ap (λ o. cond h (cons_option o (numbers_changed atoms value others)) (numbers_changed atoms value others)) (sym (deleted_is a))
        ∙ sym (split h (deletes a) others)

    made-changed : (changes : List Change) → numbers_made t s value (filter_map (numbered_effect atoms) changes) ≡ numbers_changed atoms value (literals_in t s changes)
    made-changed [] = refl
    made-changed (c ∷ changes) =
        one_change c.literal (guard_of c) (holds t c.condition c.binding s) (filter_map (numbered_effect atoms) changes) (literals_in t s changes) (met-guard_of c) (made-changed changes)
        ∙ ap (numbers_changed atoms value) (sym (literals_more c changes))

    -- those of the changes that count and are made
    pub numbers-made : (i : Instance) → numbers_made t s value (effects_of_instance t atoms i) ≡ numbers_changed atoms value (literals_in t s (counting_changes t i))
    numbers-made i = ap (numbers_made t s value) (effects-counting t atoms i) ∙ made-changed (counting_changes t i)
