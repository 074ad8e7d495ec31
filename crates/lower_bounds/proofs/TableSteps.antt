-- How a step of the task changes numbered atoms, by the changes whose conditions are open given some of the atoms.
use Rattle.std.proofs.Common.{◌≡◌, ◌∙◌, ℕ, ◌<◌, Bool, true, false, true≢false, not, ◌&&◌, ◌||◌, List, [], ◌∷◌, map, length, get_or, Option, None, Some, refl, sym, ap, subst}
use Rattle.std.specs.Prelude.{Contains, ◌==◌, if◌then◌else◌, cond, filter, slice_get}
use Rattle.std.specs.Bool.{beq}
use Rattle.std.specs.List.{filter_map, cons_option}
use Rattle.std.specs.Option.{option_map, option_map_or, option_and_then}
use Rattle.std.specs.FinSet.{contains}
use Rattle.std.proofs.lemmas.Bool.{and_parts, and_from, false_from_ne_true, not-true, eq-eqb}
use Rattle.std.proofs.lemmas.List.{get_or-map}
use Rattle.std.proofs.lemmas.Option.{slice_get-get_or}
use Rattle.model.specs.Task.{Atom, Formula, Schema, Task, Instance}
use Rattle.model.specs.Meaning.{State, holds, fits, has_amount, can_apply, changes_of, after_changes, Change, literals_in, step}
use Rattle.model.specs.Fluents.{is_fluent, HasInitialStatics}
use Rattle.model.specs.SureLiterals.{Literal, is_true, is_false, are_same, are_different, literal_holds, sure}
use Rattle.model.specs.StaticallyFalse.{counting_changes}
use Rattle.model.specs.NumberedAtoms.{occurs_in, are_distinct, HasNumberedFluents}
use Rattle.model.specs.NumberedLiterals.{NumberedLiteral, NumberedChange, numbered_change, numbered_literals, literals_of_instance, counting_of_instance}
use Rattle.model.specs.Grounding.{bits_of_state}
use Rattle.model.proofs.SureLiteralsHold.{sure_literals_hold}
use Rattle.model.proofs.StaticLemmas.{contains-after_literals}
use Rattle.model.proofs.GroundTaskLemmas.{step-counting}
use Rattle.lower_bounds.specs.FairPotentials.{says, touches, makes, may_become, is_pair}
use Rattle.lower_bounds.proofs.PotentialFalls.{bit}
use Rattle.lower_bounds.proofs.Passing.{all-any}
use Rattle.lower_bounds.proofs.PotentialSteps.{made_by, comes, formula-says, instance-says, makes-made, made-makes, step-is_pair, step-untouched}
use Rattle.lower_bounds.specs.TableFunctions.{is_among, projection}
use Rattle.lower_bounds.specs.FairTables.{agrees, ConditionalChange, is_open, changes_in, open_changes, is_unnumbered, requires_unnumbered, conditional_change, conditional_of_instance}
use Rattle.lower_bounds.proofs.TableLists.{any-at}
use Rattle.lower_bounds.proofs.TableRows.{HoldWithin, same-itself, projection-agrees}
use Rattle.lower_bounds.proofs.TableFalls.{IsStepWithin}

-- leaving out changes whose conditions do not hold leaves out none that takes effect
made-open : (task : Task) (s : State) (ok : Change → Bool) → ((c : Change) → ok c ≡ false → holds task c.condition c.binding s ≡ false)
    → (changes : List Change) → literals_in task s (filter ok changes) ≡ literals_in task s changes
made-open task s ok fails [] = refl
made-open task s ok fails (c ∷ changes) =
    let rest = made-open task s ok fails changes in
    let is_made = λ (d : Change). holds task d.condition d.binding s in
    let literal = λ (d : Change). d.literal in
    elim (ok c) as (λ b. ok c ≡ b → literals_in task s (cond b (c ∷ filter ok changes) (filter ok changes)) ≡ literals_in task s (c ∷ changes)) [
      | true ↦ λ _. elim (is_made c) as (λ m. map literal (cond m (c ∷ filter is_made (filter ok changes)) (filter is_made (filter ok changes))) ≡ map literal (cond m (c ∷ filter is_made changes) (filter is_made changes))) [
        | true ↦ ap (λ l. c.literal ∷ l) rest
        | false ↦ rest
      ]
      | false ↦ λ closed. rest ∙ ap (λ m. map literal (cond m (c ∷ filter is_made changes) (filter is_made changes))) (sym (fails c closed))
    ] refl

-- what a list says about the atom of one of its literals is what the literal says
says-at : (literals : List NumberedLiteral) (l : NumberedLiteral) → Contains literals l → says literals l.atom l.value ≡ true
says-at literals l at =
    any-at (λ (k : NumberedLiteral). k.atom == l.atom && beq k.value l.value) literals l at (and_from (l.atom == l.atom) (beq l.value l.value) (eq-eqb l.atom l.atom refl) (same-itself l.value))

module _ (task : Task) (atoms : List Atom) where
  abbrev conditioned : Change → NumberedChange → ConditionalChange
  conditioned c k = record { change = k; condition = numbered_literals task atoms c.condition c.binding; requires_unnumbered = requires_unnumbered task atoms c.condition c.binding }

  -- the changes with their conditions are those without, extended
  pub all_changes-are : (changes : List Change) → changes_in (filter_map (conditional_change task atoms) changes) ≡ filter_map (numbered_change atoms) changes
  all_changes-are [] = refl
  all_changes-are (c ∷ changes) =
      let rest = all_changes-are changes in
      elim (numbered_change atoms c) as (λ o. changes_in (cons_option (option_map (conditioned c) o) (filter_map (conditional_change task atoms) changes)) ≡ cons_option o (filter_map (numbered_change atoms) changes)) [
        | None ↦ rest
        | Some k ↦ ap (λ l. k ∷ l) rest
      ]

  -- nothing contradicts the condition, if these atoms of the scope are true
  abbrev may_hold : List ℕ → List ℕ → Change → Bool
  may_hold scope trues c = not (requires_unnumbered task atoms c.condition c.binding) && agrees (numbered_literals task atoms c.condition c.binding) scope trues

  open_changes-are : (scope trues : List ℕ) (changes : List Change)
      → open_changes (filter_map (conditional_change task atoms) changes) scope trues ≡ filter_map (numbered_change atoms) (filter (may_hold scope trues) changes)
  open_changes-are scope trues [] = refl
  open_changes-are scope trues (c ∷ changes) =
      let rest = open_changes-are scope trues changes in
      elim (numbered_change atoms c) as (λ o. numbered_change atoms c ≡ o → open_changes (cons_option (option_map (conditioned c) o) (filter_map (conditional_change task atoms) changes)) scope trues
      ≡ filter_map (numbered_change atoms) (filter (may_hold scope trues) (c ∷ changes))) [
        | None ↦ λ none. rest ∙ skipped none (may_hold scope trues c) (filter (may_hold scope trues) changes)
        | Some k ↦ λ some. taken k some (may_hold scope trues c) (filter (may_hold scope trues) changes) (filter_map (conditional_change task atoms) changes) rest
      ] refl
    where
      skipped : numbered_change atoms c ≡ None → (b : Bool) (others : List Change)
          → filter_map (numbered_change atoms) others ≡ filter_map (numbered_change atoms) (cond b (c ∷ others) others)
      skipped none true others = ap (λ o. cons_option o (filter_map (numbered_change atoms) others)) (sym none)
      skipped none false others = refl

      taken : (k : NumberedChange) → numbered_change atoms c ≡ Some k → (b : Bool) (others : List Change) (conditional : List ConditionalChange)
          → open_changes conditional scope trues ≡ filter_map (numbered_change atoms) others
          → changes_in (cond b (conditioned c k ∷ filter (is_open scope trues) conditional) (filter (is_open scope trues) conditional)) ≡ filter_map (numbered_change atoms) (cond b (c ∷ others) others)
      taken k some true others conditional rest = ap (λ l. k ∷ l) rest ∙ ap (λ o. cons_option o (filter_map (numbered_change atoms) others)) (sym some)
      taken k some false others conditional rest = rest

  -- if a formula holds in a state of numbered atoms, it requires no atom without a number
  pub needs-none : (s : State) → HasNumberedFluents task atoms s → (f : Formula) (binding : List ℕ) → holds task f binding s ≡ true → requires_unnumbered task atoms f binding ≡ false
  needs-none s numbered f binding holding =
      false_from_ne_true (requires_unnumbered task atoms f binding) (λ needs.
      let it = all-any (literal_holds s) (is_unnumbered task atoms) (sure task f binding) (sure_literals_hold task f binding s holding) needs in
      never it.0 it.1 it.2)
    where
      never : (l : Literal) → literal_holds s l ≡ true → is_unnumbered task atoms l ≡ true → ⊥
      never (is_true a) holding needs =
          let parts = and_parts (is_fluent task a.predicate) (not (occurs_in atoms a)) needs in
          true≢false (sym (numbered a parts.0 holding) ∙ not-true (occurs_in atoms a) parts.1)
      never (is_false a) holding needs = true≢false (sym needs)
      never (are_same a b) holding needs = true≢false (sym needs)
      never (are_different a b) holding needs = true≢false (sym needs)

  module _ (distinct : are_distinct atoms ≡ true) where
    abbrev atom_at : ℕ → Atom
    atom_at n = get_or atoms n (record { predicate = 0; objects = [] })

    at : (n : ℕ) → n < length atoms → slice_get atoms n ≡ Some (atom_at n)
    at n below = slice_get-get_or atoms n (record { predicate = 0; objects = [] }) below

    bit-is : (s : State) (n : ℕ) → n < length atoms → bit (bits_of_state atoms s) n ≡ contains s (atom_at n)
    bit-is s n below = get_or-map (contains s) atoms n (record { predicate = 0; objects = [] }) false below

    -- if a formula holds, its literals hold
    pub formula-bit : (s : State) (f : Formula) (binding : List ℕ) → holds task f binding s ≡ true → (n : ℕ) (value : Bool) → n < length atoms
        → says (numbered_literals task atoms f binding) n value ≡ true → bit (bits_of_state atoms s) n ≡ value
    formula-bit s f binding holding n value below said = bit-is s n below ∙ formula-says atoms distinct n (atom_at n) (at n below) task s f binding value holding said

    -- within a scope of numbered atoms
    module _ (scope : List ℕ) (below : (n : ℕ) → is_among scope n ≡ true → n < length atoms) where
      pub formula-within : (s : State) (f : Formula) (binding : List ℕ) → holds task f binding s ≡ true → HoldWithin (numbered_literals task atoms f binding) (bits_of_state atoms s) scope
      formula-within s f binding holding l l_at there = formula-bit s f binding holding l.atom l.value (below l.atom there) (says-at (numbered_literals task atoms f binding) l l_at)

    module _ (s next : State) (i : Instance) (statics : HasInitialStatics task s) (leads : step task s i ≡ Some next) where
      abbrev bits : List Bool
      bits = bits_of_state atoms s

      abbrev nexts : List Bool
      nexts = bits_of_state atoms next

      -- the possible truth values of an atom, by changes that include all whose conditions hold
      may-open : (ok : Change → Bool) → ((c : Change) → ok c ≡ false → holds task c.condition c.binding s ≡ false) → (n : ℕ) → n < length atoms
          → may_become (filter_map (numbered_change atoms) (filter ok (counting_changes task i))) n (contains s (atom_at n)) (contains next (atom_at n)) ≡ true
      may-open ok fails n below =
          let a = atom_at n in
          let changes = filter ok (counting_changes task i) in
          let numbered = filter_map (numbered_change atoms) changes in
          let made = literals_in task s changes in
          let after-is : contains next a ≡ ((contains s a && not (occurs_in (made_by false made) a)) || occurs_in (made_by true made) a) =
          ap (λ (t : State). contains t a) (sym (step-counting task s next i statics leads)) ∙ contains-after_literals s (literals_in task s (counting_changes task i)) a
          ∙ ap (λ l. (contains s a && not (occurs_in (made_by false l) a)) || occurs_in (made_by true l) a) (sym (made-open task s ok fails (counting_changes task i))) in
          subst (λ after. may_become numbered n (contains s a) after ≡ true) (sym after-is)
          (comes (makes numbered true true n) (makes numbered true false n) (λ value. makes numbered false value n)
          (occurs_in (made_by true made) a) (occurs_in (made_by false made) a) (contains s a)
          (makes-made atoms distinct n a (at n below) task s changes true) (makes-made atoms distinct n a (at n below) task s changes false)
          (made-makes atoms distinct n a (at n below) task s changes true) (made-makes atoms distinct n a (at n below) task s changes false))

      -- a pair of truth values for each atom
      pub pair-bits : (n : ℕ) → n < length atoms → is_pair (literals_of_instance task atoms i) (counting_of_instance task atoms i) n (record { before = bit bits n; after = bit nexts n }) ≡ true
      pair-bits n below =
          subst (λ b. is_pair (literals_of_instance task atoms i) (counting_of_instance task atoms i) n (record { before = b; after = bit nexts n }) ≡ true) (sym (bit-is s n below))
          (subst (λ b. is_pair (literals_of_instance task atoms i) (counting_of_instance task atoms i) n (record { before = contains s (atom_at n); after = b }) ≡ true) (sym (bit-is next n below))
          (step-is_pair atoms distinct n (atom_at n) (at n below) task s next i statics leads))

      pub untouched-bits : (n : ℕ) → n < length atoms → touches (counting_of_instance task atoms i) n ≡ false → bit bits n ≡ bit nexts n
      untouched-bits n below none = bit-is s n below ∙ step-untouched atoms distinct n (atom_at n) (at n below) task s next i statics leads none ∙ sym (bit-is next n below)

      -- its precondition requires no atom without a number
      pub instance-requires_none : HasNumberedFluents task atoms s → option_map_or (λ (schema : Schema). requires_unnumbered task atoms schema.precondition i.objects) (slice_get task.schemas i.schema) false ≡ false
      instance-requires_none numbered_fluents =
          elim (slice_get task.schemas i.schema) as (λ o. slice_get task.schemas i.schema ≡ o
          → option_map_or (λ (schema : Schema). requires_unnumbered task atoms schema.precondition i.objects) o false ≡ false) [
            | None ↦ λ _. refl
            | Some schema ↦ λ named. needs-none s numbered_fluents schema.precondition i.objects
                (held (fits task schema i.objects) (has_amount task schema i.objects) (holds task schema.precondition i.objects s) (after_changes task s (changes_of task schema.effect i.objects)) (sym (ap (option_and_then by) named) ∙ leads))
          ] refl
        where
          by : Schema → Option State
          by other = if fits task other i.objects && can_apply task other i.objects s then Some (after_changes task s (changes_of task other.effect i.objects)) else None

          held : (x v y : Bool) (t : State) → (if x && (v && y) then Some t else None) ≡ Some next → y ≡ true
          held true true true t is = refl
          held true true false t is = absurd (cc)
          held true false y t is = absurd (cc)
          held false v y t is = absurd (cc)

      module _ (numbered_fluents : HasNumberedFluents task atoms s) (scope : List ℕ) (below : (n : ℕ) → is_among scope n ≡ true → n < length atoms) where
        pub instance-within : HoldWithin (literals_of_instance task atoms i) bits scope
        instance-within l l_at there =
            bit-is s l.atom (below l.atom there)
            ∙ instance-says atoms distinct l.atom (atom_at l.atom) (at l.atom (below l.atom there)) task s next i statics leads l.value (says-at (literals_of_instance task atoms i) l l_at)

        abbrev ok : Change → Bool
        ok = may_hold scope (projection bits scope)

        fails : (c : Change) → ok c ≡ false → holds task c.condition c.binding s ≡ false
        fails c closed = false_from_ne_true (holds task c.condition c.binding s) (λ holding.
            true≢false (sym (and_from (not (requires_unnumbered task atoms c.condition c.binding)) (agrees (numbered_literals task atoms c.condition c.binding) scope (projection bits scope))
            (ap not (needs-none s numbered_fluents c.condition c.binding holding))
            (projection-agrees bits scope (numbered_literals task atoms c.condition c.binding) (formula-within scope below s c.condition c.binding holding))) ∙ closed))

        pub steps-within : IsStepWithin (literals_of_instance task atoms i) (conditional_of_instance task atoms i) bits nexts scope
        steps-within = record {
          literals_hold = instance-within;
          may = λ n there.
              subst (λ changes. may_become changes n (bit bits n) (bit nexts n) ≡ true) (sym (open_changes-are scope (projection bits scope) (counting_changes task i)))
              (subst (λ b. may_become (filter_map (numbered_change atoms) (filter ok (counting_changes task i))) n b (bit nexts n) ≡ true) (sym (bit-is s n (below n there)))
              (subst (λ b. may_become (filter_map (numbered_change atoms) (filter ok (counting_changes task i))) n (contains s (atom_at n)) b ≡ true) (sym (bit-is next n (below n there)))
              (may-open ok fails n (below n there))));
          untouched = λ n there none. untouched-bits n (below n there) (ap (λ changes. touches changes n) (sym (all_changes-are (counting_changes task i))) ∙ none);
        }
