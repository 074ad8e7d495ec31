-- Where a formula is not statically false, its literals without numbers may hold, unless one of them wants a fluent atom.
use Rattle.std.proofs.Common.{◌≡◌, ◌∙◌, ℕ, Bool, true, false, not, ◌&&◌, ◌||◌, List, [], ◌∷◌, None, Some, refl, sym, ap, true≢false}
use Rattle.std.specs.Prelude.{is_some, nat_eq, slice_get}
use Rattle.std.specs.FinSet.{contains}
use Rattle.std.specs.List.{list_all, list_any}
use Rattle.std.specs.Option.{option_map_or}
use Rattle.std.proofs.lemmas.Bool.{and_parts, not-true}
use Rattle.model.specs.Task.{Atom, Formula, Schema, Task, Instance}
use Rattle.model.specs.Meaning.{initial_state, has_amount}
use Rattle.model.specs.Fluents.{is_fluent}
use Rattle.model.specs.SureLiterals.{Literal, is_true, is_false, are_same, are_different, literal_holds, sure}
use Rattle.model.specs.StaticallyFalse.{is_fixed, is_statically_false, kept_instances}
use Rattle.model.specs.NumberedAtoms.{occurs_in, number_of, are_distinct}
use Rattle.model.specs.ConditionalChanges.{is_unnumbered, requires_unnumbered}
use Rattle.model.proofs.ListLemmas.{Contains-got}
use Rattle.model.proofs.NumberingLemmas.{occurs_in-got, got-number_of}
use Rattle.model.proofs.StaticallyFalseLemmas.{kept-Contains}
use Rattle.grounding.specs.Unnumbered.{may_hold}
use Rattle.grounding.proofs.PackedTruth.{unnumbered-apart}

-- of an atom that is to be true, which is of a fluent predicate where it has a number
true_may : (fluent there some held : Bool) → some ≡ there → (there ≡ true → fluent ≡ true) → (not fluent && not held) ≡ false
    → not (some || (not fluent && held)) ≡ (fluent && not there)
true_may true there some held is of not_false = ap not (or_false some) ∙ ap not is
  where
    or_false : (b : Bool) → (b || false) ≡ b
    or_false true = refl
    or_false false = refl
true_may false true some held is of not_false = absurd (true≢false (sym (of refl)))
true_may false false some true is of not_false = ap not (or_true some)
  where
    or_true : (b : Bool) → (b || true) ≡ true
    or_true true = refl
    or_true false = refl
true_may false false some false is of not_false = absurd (true≢false not_false)

-- and of one that is to be false
false_may : (fluent some held : Bool) → (not fluent && not (not held)) ≡ false → not (some || not (not fluent && held)) ≡ false
false_may fluent true held not_false = refl
false_may true false held not_false = refl
false_may false false true not_false = absurd (true≢false not_false)
false_may false false false not_false = refl

-- of two objects
fixed_may : (held : Bool) → (true && not held) ≡ false → not held ≡ false
fixed_may held not_false = not_false

-- one literal after another
both_may : (may some closed closes : Bool) (mays needs : Bool) → (closed || closes) ≡ false → (closed ≡ false → not may ≡ some) → (closes ≡ false → not mays ≡ needs)
    → not (may && mays) ≡ (some || needs)
both_may may some true closes mays needs not_false first rest = absurd (true≢false not_false)
both_may true some false closes mays needs not_false first rest = rest not_false ∙ ap (λ b. b || needs) (first refl)
both_may false some false closes mays needs not_false first rest = ap (λ b. b || needs) (first refl)

module _ (t : Task) (atoms : List Atom) (distinct : are_distinct atoms ≡ true) (fluent : (q : Atom) → occurs_in atoms q ≡ true → is_fluent t q.predicate ≡ true) where
  numbered-occurs : (a : Atom) → is_some (number_of atoms a) ≡ occurs_in atoms a
  numbered-occurs a =
      elim (number_of atoms a) as (λ o. number_of atoms a ≡ o → is_some o ≡ occurs_in atoms a) [
        | None ↦ λ none. sym (unnumbered-apart t atoms distinct fluent a none)
        | Some n ↦ λ is. sym (occurs_in-got atoms n a (got-number_of atoms a n is))
      ] refl

  abbrev is_closed : Literal → Bool
  is_closed l = is_fixed t l && not (literal_holds (initial_state t) l)

  literal-may : (l : Literal) → is_closed l ≡ false → not (may_hold t atoms l) ≡ is_unnumbered t atoms l
  literal-may (is_true a) not_false =
      true_may (is_fluent t a.predicate) (occurs_in atoms a) (is_some (number_of atoms a)) (contains (initial_state t) a) (numbered-occurs a) (fluent a) not_false
  literal-may (is_false a) not_false = false_may (is_fluent t a.predicate) (is_some (number_of atoms a)) (contains (initial_state t) a) not_false
  literal-may (are_same a b) not_false = fixed_may (nat_eq a b) not_false
  literal-may (are_different a b) not_false = fixed_may (not (nat_eq a b)) not_false

  literals-may : (ls : List Literal) → list_any is_closed ls ≡ false → not (list_all (may_hold t atoms) ls) ≡ list_any (is_unnumbered t atoms) ls
  literals-may [] not_false = refl
  literals-may (l ∷ ls) not_false =
      both_may (may_hold t atoms l) (is_unnumbered t atoms l) (is_closed l) (list_any is_closed ls) (list_all (may_hold t atoms) ls) (list_any (is_unnumbered t atoms) ls)
      not_false (literal-may l) (literals-may ls)

  pub formula-may : (f : Formula) (binding : List ℕ) → is_statically_false t f binding ≡ false → not (list_all (may_hold t atoms) (sure t f binding)) ≡ requires_unnumbered t atoms f binding
  formula-may f binding not_false = literals-may (sure t f binding) not_false

-- the precondition of a kept instance is not statically false
pub kept-not_false : (t : Task) (number : ℕ) (i : Instance) → slice_get (kept_instances t) number ≡ Some i → (s : Schema) → slice_get t.schemas i.schema ≡ Some s → is_statically_false t s.precondition i.objects ≡ false
kept-not_false t number i named s at =
    let kept : (has_amount t s i.objects && not (is_statically_false t s.precondition i.objects)) ≡ true =
    sym (ap (λ o. option_map_or (λ (u : Schema). has_amount t u i.objects && not (is_statically_false t u.precondition i.objects)) o false) at)
    ∙ (kept-Contains t i (Contains-got (kept_instances t) number i named)).1 in
    not-true (is_statically_false t s.precondition i.objects) (and_parts (has_amount t s i.objects) (not (is_statically_false t s.precondition i.objects)) kept).1
