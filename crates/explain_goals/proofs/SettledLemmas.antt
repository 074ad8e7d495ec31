-- A set of numbers to which no instance adds is a closed set of atoms.
use Rattle.std.proofs.Common.{arith, ◌≡◌, ◌∙◌, ℕ, ◌<◌, Bool, true, false, true≢false, not, ◌&&◌, ◌||◌, inl, inr, List, [], ◌∷◌, Option, None, Some, refl, sym, ap, subst, length}
use Rattle.std.specs.Prelude.{Contains, slice_get}
use Rattle.std.specs.List.{list_all, list_any, filter_map, cons_option}
use Rattle.std.specs.Option.{option_map, option_map_or}
use Rattle.std.specs.FinSet.{contains}
use Rattle.std.proofs.lemmas.Bool.{and_from, or_cases, or_left, or_right}
use Rattle.std.proofs.lemmas.List.{get_or-map}
use Rattle.std.proofs.lemmas.List.Elements.{Contains-append_left, Contains-append_right}
use Rattle.std.proofs.lemmas.Option.{slice_get_within, get_or_from_slice_get}
use Rattle.model.specs.Task.{Atom, Schema, Task, Instance}
use Rattle.model.specs.Meaning.{Change, GroundLiteral, adds, initial_state}
use Rattle.model.specs.Fluents.{is_fluent}
use Rattle.model.specs.SureLiterals.{Literal, is_true, is_false, are_same, are_different, sure}
use Rattle.model.specs.StaticallyFalse.{kept_instances, counting_changes, is_unconditional}
use Rattle.model.specs.NumberedAtoms.{occurs_in, numbered_atoms, number_of, touched_by, atom_of_literal}
use Rattle.model.specs.NumberedLiterals.{NumberedLiteral, NumberedChange, numbered_ground_literal, numbered_literal, numbered_literals, literals_of_instance}
use Rattle.model.specs.ConditionalChanges.{ConditionalChange, conditional_change, conditional_of_instance, conditional_of_number, instance_requires_unnumbered, is_unnumbered, requires_unnumbered}
use Rattle.model.proofs.ListLemmas.{Contains-here, Contains-there, Contains-place, Contains-map, Contains-filter_map}
use Rattle.model.proofs.Tests.{passes_got}
use Rattle.model.proofs.NumberingLemmas.{occurs_in-Contains, Contains-occurs_in, occurs_in-got, occurs_in-flat_map, number_of-got, got-number_of}
use Rattle.model.proofs.GroundTaskLemmas.{initial-numbered, numbered-distinct, occurs_in-numbered}
use Rattle.explain_goals.proofs.GrownLemmas.{there-has}
use Rattle.explain_goals.specs.Relaxation.{sure_of_instance, Needs, Adds, IsClosed}
use Rattle.explain_goals.specs.Settled.{has, allows, allows_all, may_hold, may_apply, may_add, is_there, is_made, IsSettled, is_in}

-- ---- what a change adds, by numbers

module _ (t : Task) (i : Instance) (c : Change) (a : Atom) (by : Adds t i c a) where
  -- the atom has a number
  touched : occurs_in (touched_by t i) a ≡ true
  touched =
      Contains-occurs_in (touched_by t i) a
      (subst (λ q. Contains (touched_by t i) q) (ap atom_of_literal by.is) (Contains-map (λ (d : Change). atom_of_literal d.literal) (counting_changes t i) c by.counts))

  pub added-number : (n : ℕ) × (number_of (numbered_atoms t []) a ≡ Some n)
  added-number =
      let among : occurs_in (numbered_atoms t []) a ≡ true = occurs_in-numbered t [] a ∙ or_right _ _ (occurs_in-flat_map (touched_by t) (kept_instances t) i a by.kept touched) in
      let at = Contains-place (numbered_atoms t []) a (occurs_in-Contains (numbered_atoms t []) a among) in
      (at.0, number_of-got (numbered_atoms t []) at.0 a (numbered-distinct t []) at.1)

  abbrev pub added-conditional : ConditionalChange
  added-conditional = record {
    change = record { atom = added-number.0; value = true; is_unconditional = is_unconditional c };
    condition = numbered_literals t (numbered_atoms t []) c.condition c.binding;
    requires_unnumbered = requires_unnumbered t (numbered_atoms t []) c.condition c.binding;
  }

  is-added-conditional : conditional_change t (numbered_atoms t []) c ≡ Some added-conditional
  is-added-conditional =
      let number : numbered_literal (numbered_atoms t []) (is_true a) ≡ Some (record { atom = added-number.0; value = true }) =
      ap (option_map (λ (n : ℕ). record { atom = n; value = true })) added-number.1 in
      ap (λ l. conditional_of l (numbered_ground_literal (numbered_atoms t []) l)) by.is ∙ ap (conditional_of (adds a)) number
    where
      conditional_of : GroundLiteral → Option NumberedLiteral → Option ConditionalChange
      conditional_of l o = option_map (λ (k : NumberedChange). record { change = k; condition = numbered_literals t (numbered_atoms t []) c.condition c.binding; requires_unnumbered = requires_unnumbered t (numbered_atoms t []) c.condition c.binding })
          (option_map (λ (m : NumberedLiteral). record { atom = m.atom; value = m.value; is_unconditional = is_unconditional c }) o)

  pub added-among : Contains (conditional_of_instance t (numbered_atoms t []) i) added-conditional
  added-among = Contains-filter_map (conditional_change t (numbered_atoms t [])) (counting_changes t i) c added-conditional by.counts is-added-conditional

-- ---- sets

module _ (t : Task) (set : List Bool) where
  abbrev atoms : List Atom
  atoms = numbered_atoms t []

  -- a numbered atom of the set has its bit
  is_in-has : IsSettled t atoms set → (a : Atom) (n : ℕ) → number_of atoms a ≡ Some n → is_in t atoms set a ≡ true → has set n ≡ true
  is_in-has settled a n numbered there =
      let at = got-number_of atoms a n numbered in
      elim (or_cases (contains (initial_state t) a) (option_map_or (has set) (number_of atoms a) false) there) [
        | inl initially ↦
            settled.initial n
            (get_or-map (contains (initial_state t)) atoms n a false (slice_get_within atoms n a at) ∙ ap (contains (initial_state t)) (get_or_from_slice_get atoms n a a at) ∙ initially)
        | inr marked ↦ sym (ap (λ o. option_map_or (has set) o false) numbered) ∙ marked
      ]

  has-is_in : (a : Atom) (n : ℕ) → number_of atoms a ≡ Some n → has set n ≡ true → is_in t atoms set a ≡ true
  has-is_in a n numbered there =
      or_right (contains (initial_state t) a) (option_map_or (has set) (number_of atoms a) false) (ap (λ o. option_map_or (has set) o false) numbered ∙ there)

  -- and a fluent one has a number
  is_in-numbered : (a : Atom) → is_fluent t a.predicate ≡ true → is_in t atoms set a ≡ true → occurs_in atoms a ≡ true
  is_in-numbered a fluent there =
      elim (or_cases (contains (initial_state t) a) (option_map_or (has set) (number_of atoms a) false) there) [
        | inl initially ↦ initial-numbered t [] a fluent initially
        | inr marked ↦ elim (number_of atoms a) as (λ o. number_of atoms a ≡ o → option_map_or (has set) o false ≡ true → occurs_in atoms a ≡ true) [
          | None ↦ λ _ none. absurd (true≢false (sym none))
          | Some n ↦ λ numbered _. occurs_in-got atoms n a (got-number_of atoms a n numbered)
        ] refl marked
      ]

  -- literals whose atoms are in the set
  module _ (settled : IsSettled t atoms set) where
    allowed : (literals : List Literal) → ((b : Atom) → Contains literals (is_true b) → is_in t atoms set b ≡ true) → allows_all set (filter_map (numbered_literal atoms) literals) ≡ true
    allowed [] each = refl
    allowed (l ∷ literals) each =
        let rest = allowed literals (λ b at. each b (Contains-there l literals (is_true b) at)) in
        elim (numbered_literal atoms l) as (λ o. numbered_literal atoms l ≡ o → allows_all set (cons_option o (filter_map (numbered_literal atoms) literals)) ≡ true) [
          | None ↦ λ _. rest
          | Some k ↦ λ is. and_from (allows set k) (allows_all set (filter_map (numbered_literal atoms) literals)) (one l k is (λ b same. each b (subst_here b same))) rest
        ] refl
      where
        subst_here : (b : Atom) → l ≡ is_true b → Contains (l ∷ literals) (is_true b)
        subst_here b same = subst (λ k. Contains (l ∷ literals) k) same (Contains-here l literals)

        one : (k : Literal) (n : NumberedLiteral) → numbered_literal atoms k ≡ Some n → ((b : Atom) → k ≡ is_true b → is_in t atoms set b ≡ true) → allows set n ≡ true
        one (is_true b) n is there =
            elim (number_of atoms b) as (λ o. number_of atoms b ≡ o → option_map (λ (number : ℕ). record { atom = number; value = true }) o ≡ Some n → allows set n ≡ true) [
              | None ↦ λ _ none. absurd (cc)
              | Some k ↦ λ numbered some.
                  let same : record { atom = k; value = true } ≡ n = cc in
                  ap (allows set) (sym same) ∙ is_in-has settled b k numbered (there b refl)
            ] refl is
        one (is_false b) n is there =
            elim (number_of atoms b) as (λ o. option_map (λ (number : ℕ). record { atom = number; value = false }) o ≡ Some n → allows set n ≡ true) [
              | None ↦ λ none. absurd (cc)
              | Some k ↦ λ some. let same : record { atom = k; value = false } ≡ n = cc in ap (allows set) (sym same)
            ] is
        one (are_same a b) n none there = absurd (cc)
        one (are_different a b) n none there = absurd (cc)

    -- want no atom without a number
    requires_none : (literals : List Literal) → ((b : Atom) → Contains literals (is_true b) → is_in t atoms set b ≡ true) → list_any (is_unnumbered t atoms) literals ≡ false
    requires_none [] each = refl
    requires_none (l ∷ literals) each =
        let rest = requires_none literals (λ b at. each b (Contains-there l literals (is_true b) at)) in
        (λ i. one l (λ b same. each b (subst_here b same)) i || rest i)
      where
        subst_here : (b : Atom) → l ≡ is_true b → Contains (l ∷ literals) (is_true b)
        subst_here b same = subst (λ k. Contains (l ∷ literals) k) same (Contains-here l literals)

        unless : (fluent among : Bool) → (fluent ≡ true → among ≡ true) → (fluent && not among) ≡ false
        unless true true so = refl
        unless true false so = absurd (true≢false (sym (so refl)))
        unless false among so = refl

        one : (k : Literal) → ((b : Atom) → k ≡ is_true b → is_in t atoms set b ≡ true) → is_unnumbered t atoms k ≡ false
        one (is_true b) there = unless (is_fluent t b.predicate) (occurs_in atoms b) (λ fluent. is_in-numbered b fluent (there b refl))
        one (is_false b) there = refl
        one (are_same a b) there = refl
        one (are_different a b) there = refl

    -- the atoms that a change of an instance needs are those of its precondition and of its condition
    module _ (i : Instance) (c : Change) (a : Atom) (by : Adds t i c a) (each : (b : Atom) → Needs t i c b → is_in t atoms set b ≡ true) where
      of_precondition : (b : Atom) → Contains (sure_of_instance t i) (is_true b) → is_in t atoms set b ≡ true
      of_precondition b at = each b (Contains-append_left (sure_of_instance t i) (sure t c.condition c.binding) (is_true b) at)

      of_condition : (b : Atom) → Contains (sure t c.condition c.binding) (is_true b) → is_in t atoms set b ≡ true
      of_condition b at = each b (Contains-append_right (sure_of_instance t i) (sure t c.condition c.binding) (is_true b) at)

      literals-are : literals_of_instance t atoms i ≡ filter_map (numbered_literal atoms) (sure_of_instance t i)
      literals-are = elim (slice_get t.schemas i.schema) as (λ o. option_map_or (λ (s : Schema). numbered_literals t atoms s.precondition i.objects) o []
          ≡ filter_map (numbered_literal atoms) (option_map_or (λ (s : Schema). sure t s.precondition i.objects) o [])) [
            | None ↦ refl
            | Some s ↦ refl
          ]

      demands-are : instance_requires_unnumbered t atoms i ≡ list_any (is_unnumbered t atoms) (sure_of_instance t i)
      demands-are = elim (slice_get t.schemas i.schema) as (λ o. option_map_or (λ (s : Schema). requires_unnumbered t atoms s.precondition i.objects) o false
          ≡ list_any (is_unnumbered t atoms) (option_map_or (λ (s : Schema). sure t s.precondition i.objects) o [])) [
            | None ↦ refl
            | Some s ↦ refl
          ]

      place : (number : ℕ) × (slice_get (kept_instances t) number ≡ Some i)
      place = Contains-place (kept_instances t) i by.kept

      applies : may_apply t atoms set place.0 ≡ true
      applies =
          (λ j. may_hold set
          ((ap (λ o. option_map_or (instance_requires_unnumbered t atoms) o false) place.1 ∙ demands-are ∙ requires_none (sure_of_instance t i) of_precondition) j)
          ((ap (λ o. option_map_or (literals_of_instance t atoms) o []) place.1 ∙ literals-are) j))
          ∙ allowed (sure_of_instance t i) of_precondition

      all-made : list_all (is_made set) (conditional_of_instance t atoms i) ≡ true
      all-made =
          ap (λ o. list_all (is_made set) (option_map_or (conditional_of_instance t atoms) o [])) (sym place.1)
          ∙ sym (ap (λ b. not b || list_all (is_made set) (conditional_of_number t atoms place.0)) applies)
          ∙ settled.instances place.0 (slice_get_within (kept_instances t) place.0 i place.1)

      abbrev numbered : (n : ℕ) × (number_of atoms a ≡ Some n)
      numbered = added-number t i c a by

      abbrev conditional : ConditionalChange
      conditional = added-conditional t i c a by

      adds-it : may_add set conditional ≡ true
      adds-it =
          (λ j. may_hold set (requires_none (sure t c.condition c.binding) of_condition j) (numbered_literals t atoms c.condition c.binding))
          ∙ allowed (sure t c.condition c.binding) of_condition

      below : numbered.0 < length set
      below =
          let within = slice_get_within atoms numbered.0 a (got-number_of atoms a numbered.0 numbered.1) in
          omega (arith, settled.width, within)

      is_in-after : is_in t atoms set a ≡ true
      is_in-after =
          let at = Contains-place (conditional_of_instance t atoms i) conditional (added-among t i c a by) in
          let made = passes_got (is_made set) (conditional_of_instance t atoms i) at.0 conditional at.1 all-made in
          has-is_in a numbered.0 numbered.1 (there-has set numbered.0 below (sym (ap (λ b. not b || is_there set numbered.0) adds-it) ∙ made))

    pub settled-closed-with : IsClosed t (is_in t atoms set)
    settled-closed-with = record {
      initial = λ a initially. or_left (contains (initial_state t) a) (option_map_or (has set) (number_of atoms a) false) initially;
      added = is_in-after;
    }

pub settled-closed : (t : Task) (set : List Bool) → IsSettled t (numbered_atoms t []) set → IsClosed t (is_in t (numbered_atoms t []) set)
settled-closed t set settled = settled-closed-with t set settled
