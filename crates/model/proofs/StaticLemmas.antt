-- An atom of a static predicate is true after an action exactly if it was true before.
use Rattle.std.proofs.Common.{◌≡◌, ℕ, zero, suc, Bool, true, false, ◌&&◌, ◌||◌, not, List, [], ◌∷◌, ◌++◌, Option, None, Some, refl, sym, ap, ◌∙◌}
use Rattle.std.specs.Prelude.{◌==◌, slice_get, cond, if◌then◌else◌, filter, map}
use Rattle.std.specs.Option.{option_and_then}
use Rattle.std.specs.List.{flat_map, list_any}
use Rattle.std.specs.Ordering.{eq_by_cmp}
use Rattle.std.specs.Cmp.{Equal-is}
use Rattle.std.specs.FinSet.{contains, from_list, difference, contains-from_list, contains-union, contains-difference}
use Rattle.std.proofs.lemmas.Bool.{or_parts, or_from, eq-eqb, false_from_ne_true}
use Rattle.std.proofs.lemmas.List.Folds.{list_any-append}
use Rattle.model.specs.Task.{Atom, LiftedAtom, Formula, EffectLiteral, add, delete, Effect, Effects, literal, both, each, when, no_effect, more_effects, Schema, Task, Instance}
use Rattle.model.specs.Meaning.{State, atom_cmp, objects_of, ground_atom, GroundLiteral, adds, deletes, Change, ground_literal, change_under, changes_of, changes_of_all, literals_in, added_by, deleted_by, after_literals, after_changes, step, holds, can_apply, fits, system_of, initial_state}
use Rattle.model.specs.Runs.{run, IsReachable}
use Rattle.model.specs.Fluents.{is_literal_of, touches, any_touches, is_fluent, static_atoms}
use Rattle.model.specs.NumberedAtoms.{occurs_in, atom_of_literal}
use Rattle.model.proofs.Atoms.{atoms_total, atoms_apart, same_state}

-- a ground atom with another predicate is another atom
other_atom : (q : Atom) (a : LiftedAtom) (b : List ℕ) → (a.predicate == q.predicate) ≡ false → eq_by_cmp atom_cmp q (ground_atom b a) ≡ false
other_atom q a b apart =
    false_from_ne_true (eq_by_cmp atom_cmp q (ground_atom b a)) (λ same. other same)
  where
    other : eq_by_cmp atom_cmp q (ground_atom b a) ≡ true → ⊥
    other same =
        let is : q ≡ ground_atom b a = atoms_apart q (ground_atom b a) ((Equal-is (atom_cmp q (ground_atom b a))).0 same) in
        let named : (a.predicate == q.predicate) ≡ true = eq-eqb a.predicate q.predicate (ap (λ (x : Atom). x.predicate) (sym is)) in
        absurd (cc)

-- some change is of the atom
abbrev pub is_changed : Atom → List Change → Bool
is_changed q changes = list_any (λ (c : Change). eq_by_cmp atom_cmp q (atom_of_literal c.literal)) changes

-- an effect that does not touch an atom's predicate does not change the atom
untouched_literal : (q : Atom) (l : EffectLiteral) (b : List ℕ) → is_literal_of q.predicate l ≡ false → eq_by_cmp atom_cmp q (atom_of_literal (ground_literal b l)) ≡ false
untouched_literal q (add a) b apart = other_atom q a b apart
untouched_literal q (delete a) b apart = other_atom q a b apart

untouched_literals : (q : Atom) (condition : Formula) (ls : List EffectLiteral) (b : List ℕ) → list_any (is_literal_of q.predicate) ls ≡ false
    → is_changed q (map (change_under condition b) ls) ≡ false
untouched_literals q condition [] b apart = refl
untouched_literals q condition (l ∷ ls) b apart =
    let parts = or_parts (is_literal_of q.predicate l) (list_any (is_literal_of q.predicate) ls) apart in
    or_from _ _ (untouched_literal q l b parts.0) (untouched_literals q condition ls b parts.1)

unchanged_both : (q : Atom) (xs ys : List Change) → is_changed q xs ≡ false → is_changed q ys ≡ false → is_changed q (xs ++ ys) ≡ false
unchanged_both q xs ys left right =
    list_any-append (λ (c : Change). eq_by_cmp atom_cmp q (atom_of_literal c.literal)) xs ys ∙ or_from (is_changed q xs) (is_changed q ys) left right

unchanged_each : (q : Atom) (of : ℕ → List Change) (objects : List ℕ) → ((one : ℕ) → is_changed q (of one) ≡ false) → is_changed q (flat_map of objects) ≡ false
unchanged_each q of [] none = refl
unchanged_each q of (one ∷ objects) none = unchanged_both q (of one) (flat_map of objects) (none one) (unchanged_each q of objects none)

mutual
  pub untouched : (task : Task) (q : Atom) (e : Effect) (b : List ℕ) → touches q.predicate e ≡ false → is_changed q (changes_of task e b) ≡ false
  untouched task q (literal l) b apart = or_from _ false (untouched_literal q l b apart) refl
  untouched task q (both parts) b apart = all_untouched task q parts b apart
  untouched task q (each types part) b apart =
      unchanged_each q (λ one. changes_of task part (b ++ one ∷ [])) (objects_of task types) (λ one. untouched task q part (b ++ one ∷ []) apart)
  untouched task q (when condition literals) b apart = untouched_literals q condition literals b apart

  all_untouched : (task : Task) (q : Atom) (es : Effects) (b : List ℕ) → any_touches q.predicate es ≡ false → is_changed q (changes_of_all task es b) ≡ false
  all_untouched task q no_effect b apart = refl
  all_untouched task q (more_effects first rest) b apart =
      let parts = or_parts (touches q.predicate first) (any_touches q.predicate rest) apart in
      unchanged_both q (changes_of task first b) (changes_of_all task rest b) (untouched task q first b parts.0) (all_untouched task q rest b parts.1)

-- some literal is of the atom
abbrev is_among : Atom → List GroundLiteral → Bool
is_among q literals = list_any (λ l. eq_by_cmp atom_cmp q (atom_of_literal l)) literals

-- neither do those whose condition holds
not_among : (task : Task) (s : State) (q : Atom) (changes : List Change) → is_changed q changes ≡ false → is_among q (literals_in task s changes) ≡ false
not_among task s q [] none = refl
not_among task s q (c ∷ changes) none =
    let parts = or_parts (eq_by_cmp atom_cmp q (atom_of_literal c.literal)) (is_changed q changes) none in
    by_condition (holds task c.condition c.binding s) parts.0 (not_among task s q changes parts.1)
  where
    by_condition : (held : Bool) → eq_by_cmp atom_cmp q (atom_of_literal c.literal) ≡ false → is_among q (literals_in task s changes) ≡ false
        → is_among q (map (λ (d : Change). d.literal) (cond held (c ∷ filter (λ (d : Change). holds task d.condition d.binding s) changes) (filter (λ (d : Change). holds task d.condition d.binding s) changes))) ≡ false
    by_condition true first rest = or_from _ _ first rest
    by_condition false first rest = rest

not_added : (q : Atom) (literals : List GroundLiteral) → is_among q literals ≡ false → occurs_in (added_by literals) q ≡ false
not_added q [] none = refl
not_added q (adds a ∷ rest) none = let parts = or_parts (eq_by_cmp atom_cmp q a) (is_among q rest) none in or_from _ _ parts.0 (not_added q rest parts.1)
not_added q (deletes a ∷ rest) none = not_added q rest (or_parts (eq_by_cmp atom_cmp q a) (is_among q rest) none).1

not_deleted : (q : Atom) (literals : List GroundLiteral) → is_among q literals ≡ false → occurs_in (deleted_by literals) q ≡ false
not_deleted q [] none = refl
not_deleted q (adds a ∷ rest) none = not_deleted q rest (or_parts (eq_by_cmp atom_cmp q a) (is_among q rest) none).1
not_deleted q (deletes a ∷ rest) none = let parts = or_parts (eq_by_cmp atom_cmp q a) (is_among q rest) none in or_from _ _ parts.0 (not_deleted q rest parts.1)

and_or_nothing : (x : Bool) → ((x && not false) || false) ≡ x
and_or_nothing true = refl
and_or_nothing false = refl

kept : (x y z : Bool) → y ≡ false → z ≡ false → ((x && not y) || z) ≡ x
kept x y z ey ez = ap (λ v. (x && not v) || z) ey ∙ ap (λ v. (x && not false) || v) ez ∙ and_or_nothing x

-- what is true after some literals take effect
pub contains-after_literals : (s : State) (literals : List GroundLiteral) (q : Atom)
    → contains (after_literals s literals) q ≡ ((contains s q && not (occurs_in (deleted_by literals) q)) || occurs_in (added_by literals) q)
contains-after_literals s literals q =
    let gone : State = from_list (deleted_by literals) in
    let new : State = from_list (added_by literals) in
    contains-union atoms_total (difference s gone) new q
    ∙ (λ i. contains-difference atoms_total s gone q i || contains-from_list atoms_total (added_by literals) q i)
    ∙ ap (λ b. (contains s q && not b) || occurs_in (added_by literals) q) (contains-from_list atoms_total (deleted_by literals) q)

-- literals of other atoms leave an atom unchanged
left_by_literals : (s : State) (q : Atom) (literals : List GroundLiteral) → is_among q literals ≡ false → contains (after_literals s literals) q ≡ contains s q
left_by_literals s q literals none =
    contains-after_literals s literals q
    ∙ kept (contains s q) (occurs_in (deleted_by literals) q) (occurs_in (added_by literals) q) (not_deleted q literals none) (not_added q literals none)

-- so do the changes of an effect that does not touch the atom's predicate
contains-after : (task : Task) (s : State) (q : Atom) (e : Effect) (b : List ℕ) → touches q.predicate e ≡ false → contains (after_changes task s (changes_of task e b)) q ≡ contains s q
contains-after task s q e b apart =
    left_by_literals s q (literals_in task s (changes_of task e b)) (not_among task s q (changes_of task e b) (untouched task q e b apart))

pub none_of_all : {X : Type 0} (p : X → Bool) (xs : List X) (k : ℕ) (x : X) → list_any p xs ≡ false → slice_get xs k ≡ Some x → p x ≡ false
none_of_all p [] k x none at = absurd (cc)
none_of_all p (first ∷ xs) zero x none at =
    let same : first ≡ x = cc in ap p (sym same) ∙ (or_parts (p first) (list_any p xs) none).0
none_of_all p (first ∷ xs) (suc k) x none at = none_of_all p xs k x (or_parts (p first) (list_any p xs) none).1 at

given : {X : Type 0} (a b : Bool) (x y : X) → (if a && b then Some x else None) ≡ Some y → x ≡ y
given true true x y is = cc
given true false x y is = absurd (cc)
given false b x y is = absurd (cc)

pub contains-step : (task : Task) (s next : State) (i : Instance) (q : Atom) → is_fluent task q.predicate ≡ false → step task s i ≡ Some next → contains next q ≡ contains s q
contains-step task s next i q static leads =
    elim (slice_get task.schemas i.schema) as (λ o. slice_get task.schemas i.schema ≡ o → option_and_then (next_by) o ≡ Some next → contains next q ≡ contains s q) [
      | None ↦ λ _ none. absurd (cc)
      | Some schema ↦ λ at some.
          let is : after_changes task s (changes_of task schema.effect i.objects) ≡ next = given (fits task schema i.objects) (can_apply task schema i.objects s) _ next some in
          ap (λ (t : State). contains t q) (sym is)
          ∙ contains-after task s q schema.effect i.objects (none_of_all (λ (x : Schema). touches q.predicate x.effect) task.schemas i.schema schema static at)
    ] refl leads
  where
    next_by : Schema → Option State
    next_by schema = if fits task schema i.objects && can_apply task schema i.objects s then Some (after_changes task s (changes_of task schema.effect i.objects)) else None

contains-run : (task : Task) (q : Atom) → is_fluent task q.predicate ≡ false → (actions : List Instance) (s end : State) → run (system_of task) s actions ≡ Some end → contains end q ≡ contains s q
contains-run task q static [] s end runs = let same : s ≡ end = cc in ap (λ (t : State). contains t q) (sym same)
contains-run task q static (a ∷ actions) s end runs =
    elim (step task s a) as (λ o. step task s a ≡ o → option_and_then (λ next. run (system_of task) next actions) o ≡ Some end → contains end q ≡ contains s q) [
      | None ↦ λ _ none. absurd (cc)
      | Some next ↦ λ leads on. contains-run task q static actions next end on ∙ contains-step task s next a q static leads
    ] refl runs

-- so the static atoms of a reachable state are the initial ones
pub contains-reachable : (task : Task) (s : State) (q : Atom) → is_fluent task q.predicate ≡ false → IsReachable (system_of task) s → contains s q ≡ contains (initial_state task) q
contains-reachable task s q static reached = contains-run task q static reached.0 (initial_state task) s reached.1

pub and_false : (x : Bool) → (x && false) ≡ false
and_false true = refl
and_false false = refl

pub or_false : (x : Bool) → (x || false) ≡ x
or_false true = refl
or_false false = refl

-- ---- a reachable state consists of its fluent atoms and the initial static ones

pub same_atom : (q a : Atom) → eq_by_cmp atom_cmp q a ≡ true → q ≡ a
same_atom q a same = atoms_apart q a ((Equal-is (atom_cmp q a)).0 same)

pub occurs_in-filter : (p : Atom → Bool) (atoms : List Atom) (q : Atom) → occurs_in (filter p atoms) q ≡ (p q && occurs_in atoms q)
occurs_in-filter p [] q = sym (and_false (p q))
occurs_in-filter p (a ∷ atoms) q =
    elim (p a) as (λ t. p a ≡ t → occurs_in (if t then a ∷ filter p atoms else filter p atoms) q ≡ (p q && (eq_by_cmp atom_cmp q a || occurs_in atoms q))) [
      | true ↦ λ passes. ap (λ v. eq_by_cmp atom_cmp q a || v) (occurs_in-filter p atoms q) ∙ first_passes (eq_by_cmp atom_cmp q a) (p q) (occurs_in atoms q) (λ same. ap p (same_atom q a same) ∙ passes)
      | false ↦ λ fails. occurs_in-filter p atoms q ∙ first_fails (eq_by_cmp atom_cmp q a) (p q) (occurs_in atoms q) (λ same. ap p (same_atom q a same) ∙ fails)
    ] refl
  where
    first_passes : (e t r : Bool) → (e ≡ true → t ≡ true) → (e || (t && r)) ≡ (t && (e || r))
    first_passes true t r known = sym (ap (λ v. v && true) (known refl))
    first_passes false t r known = refl

    first_fails : (e t r : Bool) → (e ≡ true → t ≡ false) → (t && r) ≡ (t && (e || r))
    first_fails true t r known = ap (λ v. v && r) (known refl) ∙ sym (ap (λ v. v && true) (known refl))
    first_fails false t r known = refl

-- these are the atoms of fluent predicates that are true in the state
pub record AreFluentAtoms (task : Task) (s : State) (atoms : List Atom) : Type 0 where
  pub same : (q : Atom) → is_fluent task q.predicate ≡ true → contains s q ≡ list_any (eq_by_cmp atom_cmp q) atoms
  pub none_static : (q : Atom) → is_fluent task q.predicate ≡ false → list_any (eq_by_cmp atom_cmp q) atoms ≡ false

pub state_of_fluent : (task : Task) (s : State) (atoms : List Atom) → IsReachable (system_of task) s → AreFluentAtoms task s atoms
    → from_list (atoms ++ static_atoms task) ≡ s
state_of_fluent task s atoms reached fluent = same_state (from_list (atoms ++ static_atoms task)) s each
  where
    static_there : (q : Atom) → occurs_in (static_atoms task) q ≡ (not (is_fluent task q.predicate) && occurs_in task.init q)
    static_there q = occurs_in-filter (λ (a : Atom). not (is_fluent task a.predicate)) task.init q

    each : (q : Atom) → contains (from_list {R = atom_cmp} (atoms ++ static_atoms task)) q ≡ contains s q
    each q =
        contains-from_list atoms_total (atoms ++ static_atoms task) q
        ∙ list_any-append (eq_by_cmp atom_cmp q) atoms (static_atoms task)
        ∙ ap (λ v. occurs_in atoms q || v) (static_there q)
        ∙ elim (is_fluent task q.predicate) as (λ f. is_fluent task q.predicate ≡ f → (occurs_in atoms q || (not f && occurs_in task.init q)) ≡ contains s q) [
          | true ↦ λ is. or_false (occurs_in atoms q) ∙ sym (fluent.same q is)
          | false ↦ λ is. ap (λ v. v || occurs_in task.init q) (fluent.none_static q is) ∙ sym (contains-from_list atoms_total task.init q) ∙ sym (contains-reachable task s q is reached)
        ] refl
