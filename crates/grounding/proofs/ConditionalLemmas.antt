-- The counting changes of an instance with the literals of their conditions.
use Rattle.std.proofs.Common.{◌≡◌, ◌∙◌, ℕ, suc, zero, Bool, true, false, not, List, [], ◌∷◌, map, None, Some, refl, sym, ap}
use Rattle.std.specs.Prelude.{Option, slice_get, if◌then◌else◌}
use Rattle.std.specs.Global.{Box, Vec}
use Rattle.std.specs.List.{list_any, filter_map}
use Rattle.std.specs.Option.{option_map, option_map_or}
use Rattle.model.specs.Task.{Atom, Formula, Schema, Task, Instance, atom, equal, and, or, imply, exists, forall, no_formula, more_formulas}
use Rattle.model.specs.Task as task
use Rattle.model.specs.Fluents.{is_fluent}
use Rattle.model.specs.Meaning.{Change}
use Rattle.model.specs.SureLiterals.{sure}
use Rattle.model.specs.StaticallyFalse.{kept_instances, counting_changes, is_empty_and, is_unconditional, is_statically_false}
use Rattle.model.specs.NumberedAtoms.{occurs_in, are_distinct}
use Rattle.model.specs.NumberedLiterals.{NumberedLiteral, NumberedChange, numbered_literal, numbered_literals, numbered_ground_literal}
use Rattle.model.specs.ConditionalChanges.{ConditionalChange, is_unnumbered, requires_unnumbered, instance_requires_unnumbered, number_requires_unnumbered, conditional_change, conditional_of_instance, conditional_of_number}
use Rattle.grounding.specs.declared.condition.Condition.{Condition}
use Rattle.grounding.specs.declared.changes.CountingChange.{CountingChange}
use Rattle.grounding.specs.declared.changes.ChangeCondition.{ChangeCondition}
use Rattle.grounding.specs.Conditions.{literals_in, may_hold_in}
use Rattle.grounding.specs.Preconditions.{IsPrecondition}
use Rattle.grounding.specs.NumberedEffects.{Guard, NumberedEffect, guard_of, numbered_effect, effects_of_instance, change_of_effect}
use Rattle.grounding.specs.Changes.{conditional_of, guard_of_condition, guard_in, effect_in, IsCompiled, AreChangesOf}
use Rattle.grounding.proofs.ChangeLemmas.{guard-counts}
use Rattle.grounding.proofs.EffectLemmas.{map-filter_map, filter_map-same, guard_of-none, effects-counting}
use Rattle.grounding.proofs.GroundLemmas.{schema-of, counting-effect}
use Rattle.grounding.proofs.StepLemmas.{kept-is_instance}
use Rattle.grounding.proofs.UnnumberedLemmas.{formula-may, kept-not_false}

-- two lists that agree at each place
at-each : {X Y : Type 0} (f g : X → Y) (xs : List X) → ((k : ℕ) (x : X) → slice_get xs k ≡ Some x → f x ≡ g x) → map f xs ≡ map g xs
at-each f g [] same = refl
at-each f g (x ∷ xs) same = (λ j. same zero x refl j ∷ at-each f g xs (λ k y at. same (suc k) y at) j)

map-both : {X Y Z : Type 0} (g : Y → Z) (f : X → Y) (xs : List X) → map g (map f xs) ≡ map (λ x. g (f x)) xs
map-both g f [] = refl
map-both g f (x ∷ xs) = ap (λ l. g (f x) ∷ l) (map-both g f xs)

-- without a guard there are no literals
none_sure : (t : Task) (f : Formula) (b : List ℕ) → is_empty_and f ≡ true → sure t f b ≡ []
none_sure t (and no_formula) b is = refl
none_sure t (and (more_formulas first rest)) b is = absurd (cc)
none_sure t (atom a) b is = absurd (cc)
none_sure t (equal u v) b is = absurd (cc)
none_sure t (or parts) b is = absurd (cc)
none_sure t (task.not part) b is = absurd (cc)
none_sure t (imply p q) b is = absurd (cc)
none_sure t (exists types part) b is = absurd (cc)
none_sure t (forall types part) b is = absurd (cc)

module _ (t : Task) (atoms : List Atom) where
  abbrev literals_by : Guard → List NumberedLiteral
  literals_by g = numbered_literals t atoms g.formula g.binding

  abbrev requires_by : Guard → Bool
  requires_by g = requires_unnumbered t atoms g.formula g.binding

  -- the change with the literals of its guard
  abbrev guarded : NumberedChange → Option Guard → ConditionalChange
  guarded k guard = record { change = k; condition = option_map_or literals_by guard []; requires_unnumbered = option_map_or requires_by guard false }

  abbrev conditional_of_effect : NumberedEffect → ConditionalChange
  conditional_of_effect e = guarded (change_of_effect e) e.guard

  -- ---- in the model's terms

  guarded-is : (c : Change) (k : NumberedChange) → guarded k (guard_of c)
      ≡ record { change = k; condition = numbered_literals t atoms c.condition c.binding; requires_unnumbered = requires_unnumbered t atoms c.condition c.binding }
  guarded-is c k =
      elim (is_unconditional c) as (λ b. is_unconditional c ≡ b → guarded k (if b then None else Some (record { formula = c.condition; binding = c.binding }))
      ≡ record { change = k; condition = numbered_literals t atoms c.condition c.binding; requires_unnumbered = requires_unnumbered t atoms c.condition c.binding }) [
        | true ↦ λ is.
            let none = none_sure t c.condition c.binding is in
            (λ j. record { change = k; condition = filter_map (numbered_literal atoms) (sym none j); requires_unnumbered = list_any (is_unnumbered t atoms) (sym none j) })
        | false ↦ λ _. refl
      ] refl

  effect-conditional : (c : Change) → option_map conditional_of_effect (numbered_effect atoms c) ≡ conditional_change t atoms c
  effect-conditional c =
      elim (numbered_ground_literal atoms c.literal) as (λ o.
      option_map conditional_of_effect (option_map (λ (l : NumberedLiteral). record { atom = l.atom; value = l.value; guard = guard_of c }) o)
      ≡ option_map (λ (k : NumberedChange). record { change = k; condition = numbered_literals t atoms c.condition c.binding; requires_unnumbered = requires_unnumbered t atoms c.condition c.binding })
      (option_map (λ (l : NumberedLiteral). record { atom = l.atom; value = l.value; is_unconditional = is_unconditional c }) o)) [
        | None ↦ refl
        | Some l ↦ ap (λ (b : Bool). Some (guarded (changed l b) (guard_of c))) (guard_of-none c) ∙ ap Some (guarded-is c (changed l (is_unconditional c)))
      ]
    where
      changed : NumberedLiteral → Bool → NumberedChange
      changed l b = record { atom = l.atom; value = l.value; is_unconditional = b }

  effects-conditional : (i : Instance) → map conditional_of_effect (effects_of_instance t atoms i) ≡ conditional_of_instance t atoms i
  effects-conditional i =
      ap (map conditional_of_effect) (effects-counting t atoms i)
      ∙ map-filter_map conditional_of_effect (numbered_effect atoms) (counting_changes t i)
      ∙ filter_map-same _ _ effect-conditional (counting_changes t i)

  module _ (distinct : are_distinct atoms ≡ true) (fluent : (q : Atom) → occurs_in atoms q ≡ true → is_fluent t q.predicate ≡ true) where
    -- ---- what is kept of a change

    asked-by : (o : Option (Box ChangeCondition)) → IsCompiled t atoms o → ((g : Guard) → guard_in o ≡ Some g → is_statically_false t g.formula g.binding ≡ false) → (k : NumberedChange)
        → record {
          change = k;
          condition = option_map_or (λ (under : Box ChangeCondition). literals_in under.value.condition) o [];
          requires_unnumbered = option_map_or (λ (under : Box ChangeCondition). not (may_hold_in under.value.condition)) o false;
        } ≡ guarded k (guard_in o)
    asked-by None compiled not_false k = refl
    asked-by (Some under) compiled not_false k =
        let g = guard_of_condition under in
        let is = compiled under refl in
        let needs : not (may_hold_in under.value.condition) ≡ requires_unnumbered t atoms g.formula g.binding =
        ap not is.may ∙ formula-may t atoms distinct fluent g.formula g.binding (not_false g refl) in
        (λ j. record { change = k; condition = is.literals j; requires_unnumbered = needs j })

    -- all of an instance
    conditional-is : (i : Instance) (changes : Vec CountingChange) → AreChangesOf t atoms i changes
        → (k : ℕ) (c : CountingChange) → slice_get changes.items k ≡ Some c → conditional_of c ≡ conditional_of_effect (effect_in c)
    conditional-is i changes are k c at =
        ap (λ (n : NumberedChange). record {
          change = n;
          condition = option_map_or (λ (under : Box ChangeCondition). literals_in under.value.condition) c.condition [];
          requires_unnumbered = option_map_or (λ (under : Box ChangeCondition). not (may_hold_in under.value.condition)) c.condition false;
        }) (counting-effect c)
        ∙ asked-by c.condition (are.compiled k c at) (guard-counts t atoms i changes are k c at) (change_of_effect (effect_in c))

    pub conditional-of : (number : ℕ) (i : Instance) → slice_get (kept_instances t) number ≡ Some i → (changes : Vec CountingChange) → AreChangesOf t atoms i changes
        → map conditional_of changes.items ≡ conditional_of_number t atoms number
    conditional-of number i named changes are =
        at-each conditional_of (λ c. conditional_of_effect (effect_in c)) changes.items (conditional-is i changes are)
        ∙ sym (map-both conditional_of_effect effect_in changes.items)
        ∙ ap (map conditional_of_effect) are.effects
        ∙ effects-conditional i
        ∙ sym (ap (λ o. option_map_or (conditional_of_instance t atoms) o []) named)

    -- ---- and of a precondition

    abbrev requires_in : Instance → Schema → Bool
    requires_in i s = requires_unnumbered t atoms s.precondition i.objects

    pub needs-of : (number : ℕ) (i : Instance) → slice_get (kept_instances t) number ≡ Some i → (c : Condition) → IsPrecondition t atoms i c
        → not (may_hold_in c) ≡ number_requires_unnumbered t atoms number
    needs-of number i named c is =
        let s = schema-of t i (kept-is_instance t number i named) in
        ap not (is s.0 s.1).may ∙ formula-may t atoms distinct fluent s.0.precondition i.objects (kept-not_false t number i named s.0 s.1)
        ∙ sym (ap (λ o. option_map_or (instance_requires_unnumbered t atoms) o false) named ∙ ap (λ o. option_map_or (requires_in i) o false) s.1)
