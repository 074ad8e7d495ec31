-- Sets that gain atoms, one element of a list after another, and the atoms of the goal that pass two tests alike.
use Rattle.std.proofs.Common.{◌≡◌, ◌∙◌, ℕ, ◌+◌, ◌<◌, ◌≤◌, Bool, true, false, not, ◌&&◌, ◌||◌, List, [], ◌∷◌, cond, get_or, length, map, take, refl, sym, ap}
use Rattle.std.specs.Prelude.{filter}
use Rattle.std.specs.List.{list_any}
use Rattle.std.specs.FinSet.{contains, empty, insert, contains-empty, contains-insert}
use Rattle.std.specs.Ordering.{eq_by_cmp}
use Rattle.std.specs.Cmp.{eq_by_cmp_equiv}
use Rattle.std.proofs.lemmas.List.{take_all}
use Rattle.std.proofs.lemmas.List.Folds.{list_any_more}
use Rattle.formulas.proofs.Trees.{list_any_map}
use Rattle.model.specs.Task.{Task, Atom}
use Rattle.model.specs.Meaning.{State, atom_cmp, initial_state}
use Rattle.model.specs.NumberedAtoms.{occurs_in}
use Rattle.model.specs.StaticallyFalse.{kept_instances}
use Rattle.model.proofs.Atoms.{atoms_total}
use Rattle.model.proofs.StaticLemmas.{or_false, same_atom}
use Rattle.model.proofs.NumberingLemmas.{same_itself}
use Rattle.explain_tasks.specs.Goals.{Gains, GainsAsked, is_added_by, is_never_true, is_neither}

-- ---- one atom

or_turned : (a b : Bool) → (a || b) ≡ (b || (a || false))
or_turned true true = refl
or_turned true false = refl
or_turned false true = refl
or_turned false false = refl

pub gains_one : (s new : State) (b : Atom) → new ≡ insert s b → Gains (occurs_in (b ∷ [])) s new
gains_one s new b is a = ap (λ t. contains t a) is ∙ contains-insert atoms_total s b a ∙ or_turned (eq_by_cmp atom_cmp a b) (contains s a)

pub gains_none : (s : State) (test : Atom → Bool) → ((a : Atom) → test a ≡ false) → Gains test s s
gains_none s test none a = sym (ap (λ b. contains s a || b) (none a) ∙ or_false (contains s a))

and_no : (b : Bool) → (b && false) ≡ false
and_no true = refl
and_no false = refl

-- an atom that is asked for, and one that is not
pub asked_one : (asked : State) (b : Atom) → contains asked b ≡ true → (a : Atom) → occurs_in (b ∷ []) a ≡ (contains asked a && eq_by_cmp atom_cmp b a)
asked_one asked b there a =
    or_false (eq_by_cmp atom_cmp a b) ∙ (eq_by_cmp_equiv atoms_total).symm a b
    ∙ elim (eq_by_cmp atom_cmp b a) as (λ e. eq_by_cmp atom_cmp b a ≡ e → e ≡ (contains asked a && e)) [
      | true ↦ λ same. sym (ap (λ w. w && true) (ap (contains asked) (sym (same_atom b a same)) ∙ there))
      | false ↦ λ _. sym (and_no (contains asked a))
    ] refl

pub asked_none : (asked : State) (b : Atom) → contains asked b ≡ false → (a : Atom) → (contains asked a && eq_by_cmp atom_cmp b a) ≡ false
asked_none asked b out a =
    elim (eq_by_cmp atom_cmp b a) as (λ e. eq_by_cmp atom_cmp b a ≡ e → (contains asked a && e) ≡ false) [
      | true ↦ λ same. ap (λ w. w && true) (ap (contains asked) (sym (same_atom b a same)) ∙ out)
      | false ↦ λ _. and_no (contains asked a)
    ] refl

-- ---- the elements of a list

-- before the first one
pub gains_begun_of : (w : Atom → Bool) (s : State) → s ≡ empty → Gains (λ a. w a && false) empty s
gains_begun_of w s is a =
    let none : State = empty in
    ap (λ t. contains t a) is ∙ sym (ap (λ b. contains none a || b) (and_no (w a)) ∙ or_false (contains none a))

pub gains_begun : (s : State) → s ≡ empty → Gains (λ _. false) empty s
gains_begun s is a =
    let none : State = empty in
    ap (λ t. contains t a) is ∙ sym (or_false (contains none a))

pub gains_nothing : (w : Atom → Bool) (s : State) → Gains (λ a. w a && false) s s
gains_nothing w s a = sym (ap (λ b. contains s a || b) (and_no (w a)) ∙ or_false (contains s a))

both_gained : (p w u v : Bool) → ((p || (w && u)) || (w && v)) ≡ (p || (w && (u || v)))
both_gained true w u v = refl
both_gained false false u v = refl
both_gained false true u v = refl

module _ {X : Type 0} (w : Atom → Bool) (test : Atom → X → Bool) (xs : List X) (i : ℕ) (old : State) where
  pub gains_more : (x : X) (now new : State) → i < length xs → x ≡ get_or xs i x → Gains (λ a. w a && list_any (test a) (take i xs)) old now → Gains (λ a. w a && test a x) now new
      → Gains (λ a. w a && list_any (test a) (take (i + 1) xs)) old new
  gains_more x now new within at before here a =
      here a ∙ ap (λ b. b || (w a && test a x)) (before a) ∙ both_gained (contains old a) (w a) (list_any (test a) (take i xs)) (test a x)
      ∙ ap (λ b. contains old a || (w a && b)) (ap (λ y. list_any (test a) (take i xs) || test a y) at ∙ sym (list_any_more (test a) xs i x within))

  pub gains_all : (now : State) → length xs ≤ i → Gains (λ a. w a && list_any (test a) (take i xs)) old now → Gains (λ a. w a && list_any (test a) xs) old now
  gains_all now past before a = before a ∙ ap (λ l. contains old a || (w a && list_any (test a) l)) (take_all i xs past)

-- what passes one test passes another that agrees with it
pub gains_alike : (test other : Atom → Bool) (old new : State) → ((a : Atom) → test a ≡ other a) → Gains test old new → Gains other old new
gains_alike test other old new same gains a = gains a ∙ ap (λ b. contains old a || b) (same a)

pub mapped : {X Y : Type 0} (w : Atom → Bool) (test : Atom → Y → Bool) (view : X → Y) (xs : List X) (old new : State) → Gains (λ a. w a && list_any (λ x. test a (view x)) xs) old new
    → Gains (λ a. w a && list_any (test a) (map view xs)) old new
mapped w test view xs old new gains a = gains a ∙ ap (λ b. contains old a || (w a && b)) (sym (list_any_map (test a) view xs))

-- ---- the atoms of the goal

or_first : (a b : Bool) → a ≡ true → (a || b) ≡ true
or_first a b is = ap (λ c. c || b) is

or_second : (a b : Bool) → b ≡ true → (a || b) ≡ true
or_second true b is = refl
or_second false b is = is

filter_alike : (p q : Atom → Bool) (xs : List Atom) → ((a : Atom) → occurs_in xs a ≡ true → p a ≡ q a) → filter p xs ≡ filter q xs
filter_alike p q [] same = refl
filter_alike p q (x ∷ xs) same =
    let here : p x ≡ q x = same x (or_first (eq_by_cmp atom_cmp x x) (occurs_in xs x) (same_itself x)) in
    let later : filter p xs ≡ filter q xs = filter_alike p q xs (λ a in_rest. same a (or_second (eq_by_cmp atom_cmp a x) (occurs_in xs a) in_rest)) in
    λ i. cond (here i) (x ∷ later i) (later i)

-- the set of added atoms decides which atoms that are asked for are never true
pub decided_alike : (t : Task) (asks : List Atom) (asked added : State) → Gains (occurs_in asks) empty asked → GainsAsked asked (λ a. list_any (is_added_by t a) (kept_instances t)) empty added
    → filter (is_neither t added) asks ≡ filter (is_never_true t) asks
decided_alike t asks asked added of_asks of_added =
    filter_alike (is_neither t added) (is_never_true t) asks (λ a in_asks.
    let there : contains asked a ≡ true = of_asks a ∙ (λ i. contains-empty atom_cmp a i || in_asks i) in
    let is : contains added a ≡ list_any (is_added_by t a) (kept_instances t) = of_added a ∙ (λ i. contains-empty atom_cmp a i || (there i && list_any (is_added_by t a) (kept_instances t))) in
    ap (λ b. not (contains (initial_state t) a) && not b) is)
