-- How a step of the task changes numbered atoms, by the literals and changes of its instance.
use Rattle.std.proofs.Common.{◌≡◌, ◌∙◌, ℕ, Bool, true, false, true≢false, not, ◌&&◌, ◌||◌, List, [], ◌∷◌, map, Option, None, Some, refl, sym, ap, subst}
use Rattle.std.specs.Prelude.{◌==◌, if◌then◌else◌, cond, filter, slice_get}
use Rattle.std.specs.Bool.{beq}
use Rattle.std.specs.List.{list_any, filter_map}
use Rattle.std.specs.Option.{option_map, option_map_or, option_and_then}
use Rattle.std.specs.Ordering.{eq_by_cmp}
use Rattle.std.specs.FinSet.{contains}
use Rattle.std.proofs.lemmas.Bool.{and_parts, and_from, or_right, eqb-true, eq-eqb, not-true, false_from_ne_true}
use Rattle.model.specs.Task.{Atom, Formula, and, no_formula, Schema, Task, Instance}
use Rattle.model.specs.Meaning.{State, atom_cmp, fits, holds, has_amount, can_apply, GroundLiteral, adds, deletes, Change, changes_of, literals_in, added_by, deleted_by, after_changes, step}
use Rattle.model.specs.Fluents.{HasInitialStatics}
use Rattle.model.specs.SureLiterals.{Literal, is_true, is_false, are_same, are_different, literal_holds, sure}
use Rattle.model.specs.StaticallyFalse.{is_empty_and, is_unconditional, counting_changes}
use Rattle.model.specs.NumberedAtoms.{occurs_in, atom_of_literal, number_of, are_distinct}
use Rattle.model.specs.NumberedLiterals.{NumberedLiteral, NumberedChange, numbered_literal, numbered_literals, numbered_change, literals_of_instance, counting_of_instance}
use Rattle.model.proofs.SureLiteralsHold.{sure_literals_hold}
use Rattle.model.proofs.StaticLemmas.{contains-after_literals, same_atom, and_false}
use Rattle.model.proofs.NumberingLemmas.{same_itself, number_of-got, got-number_of}
use Rattle.model.proofs.GroundTaskLemmas.{step-counting}
use Rattle.lower_bounds.specs.FairPotentials.{says, touches, makes, may_become, is_pair}
use Rattle.lower_bounds.proofs.Passing.{any-filter_map, any-weaker, any-either, all-any}

-- ---- the possible truth values of an atom

-- the atoms that become true, or those that become false
abbrev pub made_by : Bool → List GroundLiteral → List Atom
made_by true literals = added_by literals
made_by false literals = deleted_by literals

-- the result is one of the possible ones, if some of the possible changes take effect and all unconditional ones do
pub comes : (added deleted : Bool) (may : Bool → Bool) (adding deleting before : Bool)
    → (added ≡ true → adding ≡ true) → (deleted ≡ true → deleting ≡ true) → (adding ≡ true → (added || may true) ≡ true) → (deleting ≡ true → (deleted || may false) ≡ true)
    → (let after = (before && not deleting) || adding in if added then after else beq after (before && not deleted) || may after) ≡ true
comes true deleted may adding deleting before sure_add sure_delete may_add may_delete = or_right (before && not deleting) adding (sure_add refl)
comes false deleted may true true true sure_add sure_delete may_add may_delete = or_right (beq true (true && not deleted)) (may true) (may_add refl)
comes false deleted may true true false sure_add sure_delete may_add may_delete = or_right (beq true false) (may true) (may_add refl)
comes false deleted may true false true sure_add sure_delete may_add may_delete = or_right (beq true (true && not deleted)) (may true) (may_add refl)
comes false deleted may true false false sure_add sure_delete may_add may_delete = or_right (beq true false) (may true) (may_add refl)
comes false true may false true true sure_add sure_delete may_add may_delete = refl
comes false false may false true true sure_add sure_delete may_add may_delete = may_delete refl
comes false deleted may false true false sure_add sure_delete may_add may_delete = refl
comes false true may false false true sure_add sure_delete may_add may_delete = absurd (true≢false (sym (sure_delete refl)))
comes false false may false false true sure_add sure_delete may_add may_delete = refl
comes false deleted may false false false sure_add sure_delete may_add may_delete = refl

-- ---- the atom of a number

abbrev is_adding : GroundLiteral → Bool
is_adding (adds a) = true
is_adding (deletes a) = false

-- the literal makes this atom true (or false)
abbrev makes_it : Bool → Atom → GroundLiteral → Bool
makes_it value a l = beq (is_adding l) value && eq_by_cmp atom_cmp a (atom_of_literal l)

beq-same : (b value : Bool) → beq b value ≡ true → b ≡ value
beq-same true true is = refl
beq-same true false is = absurd (true≢false (sym is))
beq-same false true is = absurd (true≢false (sym is))
beq-same false false is = refl

empty_and-holds : (task : Task) (f : Formula) (binding : List ℕ) (s : State) → is_empty_and f ≡ true → holds task f binding s ≡ true
empty_and-holds task (and no_formula) binding s is = refl
empty_and-holds task _ binding s is = absurd (true≢false (sym is))

module _ (atoms : List Atom) (distinct : are_distinct atoms ≡ true) (n : ℕ) (a : Atom) (at : slice_get atoms n ≡ Some a) where
  abbrev is_number : Option ℕ → Bool
  is_number o = option_map_or (λ k. k == n) o false

  -- no other atom has the number
  is_number-of : (b : Atom) → is_number (number_of atoms b) ≡ eq_by_cmp atom_cmp a b
  is_number-of b =
      elim (eq_by_cmp atom_cmp a b) as (λ e. eq_by_cmp atom_cmp a b ≡ e → is_number (number_of atoms b) ≡ e) [
        | true ↦ λ same.
            ap is_number (ap (number_of atoms) (sym (same_atom a b same)) ∙ number_of-got atoms n a distinct at) ∙ eq-eqb n n refl
        | false ↦ λ differ.
            elim (number_of atoms b) as (λ o. number_of atoms b ≡ o → is_number o ≡ false) [
              | None ↦ λ _. refl
              | Some k ↦ λ there. false_from_ne_true (k == n) (λ is.
                  let b_at = got-number_of atoms b k there in
                  let k_is = eqb-true k n is in
                  let same : a ≡ b = cc in
                  true≢false (sym (same_itself a) ∙ ap (eq_by_cmp atom_cmp a) same ∙ differ))
            ] refl
      ] refl

  -- ---- literals

  says_it : Bool → NumberedLiteral → Bool
  says_it value l = l.atom == n && beq l.value value

  said : (o : Option ℕ) (said_value value : Bool) → option_map_or (λ (l : NumberedLiteral). l.atom == n && beq l.value value) (option_map (λ (k : ℕ). record { atom = k; value = said_value }) o) false ≡ (is_number o && beq said_value value)
  said None said_value value = refl
  said (Some k) said_value value = refl

  module _ (task : Task) (s : State) where
    literal-says : (value : Bool) (l : Literal) → literal_holds s l ≡ true
        → option_map_or (λ (k : NumberedLiteral). k.atom == n && beq k.value value) (numbered_literal atoms l) false ≡ true → contains s a ≡ value
    literal-says value (is_true b) holding is =
        let parts = and_parts (is_number (number_of atoms b)) (beq true value) (sym (said (number_of atoms b) true value) ∙ is) in
        let same = same_atom a b (sym (is_number-of b) ∙ parts.0) in
        ap (contains s) same ∙ holding ∙ beq-same true value parts.1
    literal-says value (is_false b) holding is =
        let parts = and_parts (is_number (number_of atoms b)) (beq false value) (sym (said (number_of atoms b) false value) ∙ is) in
        let same = same_atom a b (sym (is_number-of b) ∙ parts.0) in
        ap (contains s) same ∙ not-true (contains s b) holding ∙ beq-same false value parts.1
    literal-says value (are_same b c) holding is = absurd (true≢false (sym is))
    literal-says value (are_different b c) holding is = absurd (true≢false (sym is))

    -- if a formula holds, its literals are true of the atom
    pub formula-says : (f : Formula) (binding : List ℕ) (value : Bool) → holds task f binding s ≡ true → says (numbered_literals task atoms f binding) n value ≡ true → contains s a ≡ value
    formula-says f binding value holding is =
        let it = all-any (literal_holds s) (λ l. option_map_or (λ (k : NumberedLiteral). k.atom == n && beq k.value value) (numbered_literal atoms l) false) (sure task f binding)
        (sure_literals_hold task f binding s holding)
        (sym (any-filter_map (λ (k : NumberedLiteral). k.atom == n && beq k.value value) (numbered_literal atoms) (sure task f binding)) ∙ is) in
        literal-says value it.0 it.1 it.2

  -- ---- changes

  made : (o : Option ℕ) (made_value value unconditional is_so : Bool)
      → option_map_or (λ (c : NumberedChange). c.atom == n && beq c.is_unconditional unconditional && beq c.value value)
      (option_map (λ (l : NumberedLiteral). record { atom = l.atom; value = l.value; is_unconditional = is_so }) (option_map (λ (k : ℕ). record { atom = k; value = made_value }) o)) false
      ≡ ((beq made_value value && is_number o) && beq is_so unconditional)
  made None made_value value unconditional is_so = sym (ap (λ b. b && beq is_so unconditional) (and_false (beq made_value value)))
  made (Some k) made_value value unconditional is_so = shuffled (k == n) (beq is_so unconditional) (beq made_value value)
    where
      shuffled : (x y z : Bool) → ((x && y) && z) ≡ ((z && x) && y)
      shuffled true true true = refl
      shuffled true true false = refl
      shuffled true false true = refl
      shuffled true false false = refl
      shuffled false y true = refl
      shuffled false y false = refl

  numbered-makes : (c : Change) (value unconditional : Bool)
      → option_map_or (λ (k : NumberedChange). k.atom == n && beq k.is_unconditional unconditional && beq k.value value) (numbered_change atoms c) false
      ≡ (makes_it value a c.literal && beq (is_unconditional c) unconditional)
  numbered-makes c value unconditional =
      elim (c.literal) as (λ l. option_map_or (λ (k : NumberedChange). k.atom == n && beq k.is_unconditional unconditional && beq k.value value) (numbered_change atoms (record c { literal = l })) false
      ≡ (makes_it value a l && beq (is_unconditional c) unconditional)) [
        | adds b ↦ made (number_of atoms b) true value unconditional (is_unconditional c) ∙ ap (λ e. (beq true value && e) && beq (is_unconditional c) unconditional) (is_number-of b)
        | deletes b ↦ made (number_of atoms b) false value unconditional (is_unconditional c) ∙ ap (λ e. (beq false value && e) && beq (is_unconditional c) unconditional) (is_number-of b)
      ]

  touched : (o : Option ℕ) (made_value is_so : Bool)
      → option_map_or (λ (c : NumberedChange). c.atom == n)
      (option_map (λ (l : NumberedLiteral). record { atom = l.atom; value = l.value; is_unconditional = is_so }) (option_map (λ (k : ℕ). record { atom = k; value = made_value }) o)) false ≡ is_number o
  touched None made_value is_so = refl
  touched (Some k) made_value is_so = refl

  numbered-touches : (c : Change) → option_map_or (λ (k : NumberedChange). k.atom == n) (numbered_change atoms c) false ≡ eq_by_cmp atom_cmp a (atom_of_literal c.literal)
  numbered-touches c =
      elim (c.literal) as (λ l. option_map_or (λ (k : NumberedChange). k.atom == n) (numbered_change atoms (record c { literal = l })) false ≡ eq_by_cmp atom_cmp a (atom_of_literal l)) [
        | adds b ↦ touched (number_of atoms b) true (is_unconditional c) ∙ is_number-of b
        | deletes b ↦ touched (number_of atoms b) false (is_unconditional c) ∙ is_number-of b
      ]

  module _ (task : Task) (s : State) where
    abbrev is_made : Change → Bool
    is_made c = holds task c.condition c.binding s

    -- the changes that take effect and make the atom true (or false)
    made-any : (value : Bool) (changes : List Change) → occurs_in (made_by value (literals_in task s changes)) a ≡ list_any (λ (c : Change). is_made c && makes_it value a c.literal) changes
    made-any true [] = refl
    made-any false [] = refl
    made-any value (c ∷ changes) =
        let rest = made-any value changes in
        elim (is_made c) as (λ m. occurs_in (made_by value (map (λ (d : Change). d.literal) (cond m (c ∷ filter is_made changes) (filter is_made changes)))) a
        ≡ ((m && makes_it value a c.literal) || list_any (λ (d : Change). is_made d && makes_it value a d.literal) changes)) [
          | true ↦ first value c.literal (literals_in task s changes) ∙ ap (λ b. makes_it value a c.literal || b) rest
          | false ↦ rest
        ]
      where
        first : (value : Bool) (l : GroundLiteral) (literals : List GroundLiteral) → occurs_in (made_by value (l ∷ literals)) a ≡ (makes_it value a l || occurs_in (made_by value literals) a)
        first true (adds b) literals = refl
        first true (deletes b) literals = refl
        first false (adds b) literals = refl
        first false (deletes b) literals = refl

    module _ (changes : List Change) where
      abbrev numbered : List NumberedChange
      numbered = filter_map (numbered_change atoms) changes

      makes-any : (unconditional value : Bool) → makes numbered unconditional value n ≡ list_any (λ (c : Change). makes_it value a c.literal && beq (is_unconditional c) unconditional) changes
      makes-any unconditional value =
          any-filter_map (λ (k : NumberedChange). k.atom == n && beq k.is_unconditional unconditional && beq k.value value) (numbered_change atoms) changes
          ∙ (λ i. list_any (λ c. numbered-makes c value unconditional i) changes)

      touches-any : touches numbered n ≡ list_any (λ (c : Change). eq_by_cmp atom_cmp a (atom_of_literal c.literal)) changes
      touches-any = any-filter_map (λ (k : NumberedChange). k.atom == n) (numbered_change atoms) changes ∙ (λ i. list_any (λ c. numbered-touches c i) changes)

      -- an unconditional change takes effect
      pub makes-made : (value : Bool) → makes numbered true value n ≡ true → occurs_in (made_by value (literals_in task s changes)) a ≡ true
      makes-made value is =
          made-any value changes
          ∙ any-weaker (λ (c : Change). makes_it value a c.literal && beq (is_unconditional c) true) (λ (c : Change). is_made c && makes_it value a c.literal)
          (λ c both.
          let parts = and_parts (makes_it value a c.literal) (beq (is_unconditional c) true) both in
          and_from (is_made c) (makes_it value a c.literal) (empty_and-holds task c.condition c.binding s (beq-same (is_unconditional c) true parts.1)) parts.0) changes
          (sym (makes-any true value) ∙ is)

      -- every effect comes from an unconditional change or from one under a `when`
      pub made-makes : (value : Bool) → occurs_in (made_by value (literals_in task s changes)) a ≡ true → (makes numbered true value n || makes numbered false value n) ≡ true
      made-makes value is =
          (λ i. makes-any true value i || makes-any false value i)
          ∙ any-either (λ (c : Change). is_made c && makes_it value a c.literal) (λ (c : Change). makes_it value a c.literal && beq (is_unconditional c) true)
          (λ (c : Change). makes_it value a c.literal && beq (is_unconditional c) false)
          (λ c both. either (makes_it value a c.literal) (is_unconditional c) (and_parts (is_made c) (makes_it value a c.literal) both).1) changes
          (sym (made-any value changes) ∙ is)
        where
          either : (m u : Bool) → m ≡ true → ((m && beq u true) || (m && beq u false)) ≡ true
          either true true e = refl
          either true false e = refl
          either false u e = absurd (true≢false (sym e))

      -- and the change affects the atom
      pub made-touches : (value : Bool) → occurs_in (made_by value (literals_in task s changes)) a ≡ true → touches numbered n ≡ true
      made-touches value is =
          touches-any
          ∙ any-weaker (λ (c : Change). is_made c && makes_it value a c.literal) (λ (c : Change). eq_by_cmp atom_cmp a (atom_of_literal c.literal))
          (λ c both. (and_parts (beq (is_adding c.literal) value) (eq_by_cmp atom_cmp a (atom_of_literal c.literal)) (and_parts (is_made c) (makes_it value a c.literal) both).1).1) changes
          (sym (made-any value changes) ∙ is)

  -- ---- a step

  module _ (task : Task) (s next : State) (i : Instance) (statics : HasInitialStatics task s) (leads : step task s i ≡ Some next) where
    abbrev changed : List GroundLiteral
    changed = literals_in task s (counting_changes task i)

    after-is : contains next a ≡ ((contains s a && not (occurs_in (made_by false changed) a)) || occurs_in (made_by true changed) a)
    after-is = ap (λ (t : State). contains t a) (sym (step-counting task s next i statics leads)) ∙ contains-after_literals s changed a

    -- its precondition holds
    precondition-holds : (schema : Schema) → slice_get task.schemas i.schema ≡ Some schema → holds task schema.precondition i.objects s ≡ true
    precondition-holds schema named =
        held (fits task schema i.objects) (has_amount task schema i.objects) (holds task schema.precondition i.objects s) (after_changes task s (changes_of task schema.effect i.objects)) (sym (ap (option_and_then by) named) ∙ leads)
      where
        by : Schema → Option State
        by other = if fits task other i.objects && can_apply task other i.objects s then Some (after_changes task s (changes_of task other.effect i.objects)) else None

        held : (x v y : Bool) (t : State) → (if x && (v && y) then Some t else None) ≡ Some next → y ≡ true
        held true true true t is = refl
        held true true false t is = absurd (cc)
        held true false y t is = absurd (cc)
        held false v y t is = absurd (cc)

    -- the literals of the instance are true of the atom before the step
    pub instance-says : (value : Bool) → says (literals_of_instance task atoms i) n value ≡ true → contains s a ≡ value
    instance-says value is =
        elim (slice_get task.schemas i.schema) as (λ o. slice_get task.schemas i.schema ≡ o
        → says (option_map_or (λ (schema : Schema). numbered_literals task atoms schema.precondition i.objects) o []) n value ≡ true → contains s a ≡ value) [
          | None ↦ λ _ none. absurd (true≢false (sym none))
          | Some schema ↦ λ named said. formula-says task s schema.precondition i.objects value (precondition-holds schema named) said
        ] refl is

    -- the truth values of the atom before and after are a possible pair
    pub step-is_pair : is_pair (literals_of_instance task atoms i) (counting_of_instance task atoms i) n (record { before = contains s a; after = contains next a }) ≡ true
    step-is_pair =
        and_from (not (says (literals_of_instance task atoms i) n (not (contains s a)))) (may_become (counting_of_instance task atoms i) n (contains s a) (contains next a))
        (ap not (false_from_ne_true (says (literals_of_instance task atoms i) n (not (contains s a))) (λ is. other (contains s a) (instance-says (not (contains s a)) is))))
        (subst (λ after. may_become (counting_of_instance task atoms i) n (contains s a) after ≡ true) (sym after-is)
        (comes (makes (counting_of_instance task atoms i) true true n) (makes (counting_of_instance task atoms i) true false n) (λ value. makes (counting_of_instance task atoms i) false value n)
        (occurs_in (made_by true changed) a) (occurs_in (made_by false changed) a) (contains s a)
        (makes-made task s (counting_changes task i) true) (makes-made task s (counting_changes task i) false)
        (made-makes task s (counting_changes task i) true) (made-makes task s (counting_changes task i) false)))
      where
        other : (b : Bool) → b ≡ not b → ⊥
        other true e = absurd (cc)
        other false e = absurd (cc)

    -- and an atom that no change affects is unchanged
    pub step-untouched : touches (counting_of_instance task atoms i) n ≡ false → contains s a ≡ contains next a
    step-untouched none =
        sym (after-is ∙ kept (contains s a) (occurs_in (made_by false changed) a) (occurs_in (made_by true changed) a) (never false) (never true))
      where
        never : (value : Bool) → occurs_in (made_by value changed) a ≡ false
        never value = false_from_ne_true (occurs_in (made_by value changed) a) (λ is. true≢false (sym (made-touches task s (counting_changes task i) value is) ∙ none))

        kept : (before deleting adding : Bool) → deleting ≡ false → adding ≡ false → ((before && not deleting) || adding) ≡ before
        kept true false false e f = refl
        kept false false false e f = refl
        kept before true adding e f = absurd (true≢false e)
        kept before false true e f = absurd (true≢false f)
