-- The exchanges that pass the test are exactly the symmetries.
use Rattle.std.proofs.Common.{◌≡◌, ◌∙◌, ℕ, Bool, true, false, not, List, [], ◌∷◌, Option, None, Some, refl, sym, ap, subst}
use Rattle.std.specs.Prelude.{◌==◌, cond, nat_eq, IsTrue, Contains}
use Rattle.std.specs.List.{list_any}
use Rattle.std.specs.Option.{option_eq}
use Rattle.std.specs.Ordering.{eq_by_cmp}
use Rattle.std.specs.Cmp.{Equal-is, tied_itself}
use Rattle.std.specs.FinSet.{contains, contains-from_list}
use Rattle.std.proofs.lemmas.Bool.{and_parts, and_from, eqb-true, eq-eqb, not_from_false}
use Rattle.model.specs.Task.{Atom, FunctionValue, Task}
use Rattle.model.specs.Meaning.{atom_cmp, initial_state, value_in}
use Rattle.model.specs.Fluents.{is_fluent, static_atoms}
use Rattle.model.specs.NumberedAtoms.{occurs_in}
use Rattle.model.proofs.Atoms.{atoms_total, atoms_apart}
use Rattle.model.proofs.ListLemmas.{Contains-filter, filter-Contains, Contains-here, Contains-there}
use Rattle.symmetries_definitions.specs.Exchanges.{Exchange, image_of_object, objects_in, are_different, image_of_atom, image_of_formula}
use Rattle.symmetries_definitions.specs.NamedObjects.{named_in_actions}
use Rattle.symmetries_definitions.specs.SameFormula.{is_same_formula}
use Rattle.symmetries_definitions.specs.Symmetries.{declared_type, conjuncts, IsSymmetry, keeps_types, keeps_actions, keeps_values, keeps_statics, keeps_goal, is_symmetry}
use Rattle.symmetries_definitions.specs.Laws.{TestIsExact}
use Rattle.symmetries_definitions.proofs.Lists.{tests_alike, all-at, all-from, any-at, any-found}
use Rattle.symmetries_definitions.proofs.ExchangeLemmas.{own_inverse, image_of_first}
use Rattle.symmetries_definitions.proofs.SameFormulaLemmas.{formula-is, formula-same}
use Rattle.symmetries_definitions.proofs.Images.{atom_twice}

option-is : (a b : Option ℕ) → option_eq nat_eq a b ≡ true → a ≡ b
option-is (Some m) (Some n) same = ap Some (eqb-true m n same)
option-is None None same = refl
option-is _ _ same = absurd (cc)

option-same : (a b : Option ℕ) → a ≡ b → option_eq nat_eq a b ≡ true
option-same a b is = subst (λ c. option_eq nat_eq a c ≡ true) is (itself a)
  where
    itself : (o : Option ℕ) → option_eq nat_eq o o ≡ true
    itself None = refl
    itself (Some n) = eq-eqb n n refl

module _ (task : Task) where
  -- ---- types

  types_kept : (exchange : Exchange) → keeps_types task exchange ≡ true → (o : ℕ) → declared_type task (image_of_object exchange o) ≡ declared_type task o
  types_kept [] all o = refl
  types_kept ((p, q) ∷ rest) all o =
      let parts = and_parts (option_eq nat_eq (declared_type task p) (declared_type task q)) (keeps_types task rest) all in
      by_place (option-is (declared_type task p) (declared_type task q) parts.0) (types_kept rest parts.1 o) (p == o) refl (q == o) refl
    where
      by_place : declared_type task p ≡ declared_type task q → declared_type task (image_of_object rest o) ≡ declared_type task o
          → (first : Bool) → (p == o) ≡ first → (second : Bool) → (q == o) ≡ second → declared_type task (cond first q (cond second p (image_of_object rest o))) ≡ declared_type task o
      by_place same kept true first second _ = sym same ∙ ap (declared_type task) (eqb-true p o first)
      by_place same kept false first true second = same ∙ ap (declared_type task) (eqb-true q o second)
      by_place same kept false first false second = kept

  types_pass : (exchange : Exchange) → are_different (objects_in exchange) ≡ true → IsSymmetry task (image_of_object exchange) → keeps_types task exchange ≡ true
  types_pass exchange different symmetry =
      all-from (λ (pair : ℕ × ℕ). option_eq nat_eq (declared_type task pair.0) (declared_type task pair.1)) exchange (λ pair at.
      option-same (declared_type task pair.0) (declared_type task pair.1)
      (sym (symmetry.types pair.0) ∙ ap (declared_type task) (image_of_first exchange different pair at)))

  -- ---- values

  -- a function with a value has it from an entry
  entry : (f : Atom) (n : ℕ) (values : List FunctionValue) → value_in values f ≡ Some n → (v : FunctionValue) × Contains values v × (v.function ≡ f)
  entry f n [] has = absurd (cc)
  entry f n (v ∷ values) has = by_tie (entry f n values) (eq_by_cmp atom_cmp f v.function) refl has
    where
      by_tie : (value_in values f ≡ Some n → (w : FunctionValue) × Contains values w × (w.function ≡ f)) → (tie : Bool) → eq_by_cmp atom_cmp f v.function ≡ tie
          → cond tie (Some v.value) (value_in values f) ≡ Some n → (w : FunctionValue) × Contains (v ∷ values) w × (w.function ≡ f)
      by_tie rest true tie has = (v, Contains-here v values, sym (atoms_apart f v.function ((Equal-is (atom_cmp f v.function)).0 tie)))
      by_tie rest false tie has = let found = rest has in (found.0, Contains-there v values found.0 found.1, found.2)

  module _ (to : ℕ → ℕ) (both_ways : (o : ℕ) → to (to o) ≡ o) where
    values_kept : keeps_values task to ≡ true → (f : Atom) → value_in task.values (image_of_atom to f) ≡ value_in task.values f
    values_kept all f = by_value (value_in task.values f) refl (value_in task.values (image_of_atom to f)) refl
      where
        image_has : (g : Atom) (n : ℕ) → value_in task.values g ≡ Some n → value_in task.values (image_of_atom to g) ≡ Some n
        image_has g n has =
            let from = entry g n task.values has in
            let same = option-is (value_in task.values (image_of_atom to from.0.function)) (value_in task.values from.0.function)
            (all-at (λ (v : FunctionValue). option_eq nat_eq (value_in task.values (image_of_atom to v.function)) (value_in task.values v.function)) task.values from.0 all from.1) in
            ap (λ h. value_in task.values (image_of_atom to h)) (sym from.2) ∙ same ∙ ap (value_in task.values) from.2 ∙ has

        by_value : (o : Option ℕ) → value_in task.values f ≡ o → (p : Option ℕ) → value_in task.values (image_of_atom to f) ≡ p → value_in task.values (image_of_atom to f) ≡ value_in task.values f
        by_value (Some n) has p _ = image_has f n has ∙ sym has
        by_value None has None none = none ∙ sym has
        by_value None has (Some n) there = there ∙ sym (image_has (image_of_atom to f) n there) ∙ ap (value_in task.values) (atom_twice to both_ways f)

    -- ---- static atoms

    static-at : (a : Atom) → is_fluent task a.predicate ≡ false → contains (initial_state task) a ≡ true → Contains (static_atoms task) a
    static-at a static at =
        let found = any-found (eq_by_cmp atom_cmp a) task.init (sym (contains-from_list atoms_total task.init a) ∙ at) in
        let is : found.0 ≡ a = sym (atoms_apart a found.0 ((Equal-is (atom_cmp a found.0)).0 found.2)) in
        subst (Contains (static_atoms task)) is
        (Contains-filter (λ (b : Atom). not (is_fluent task b.predicate)) task.init found.0 found.1
        (not_from_false (is_fluent task found.0.predicate) (ap (λ (b : Atom). is_fluent task b.predicate) is ∙ static)))

    statics_go : keeps_statics task to ≡ true → (a : Atom) → is_fluent task a.predicate ≡ false → contains (initial_state task) a ≡ true
        → contains (initial_state task) (image_of_atom to a) ≡ true
    statics_go all a static at =
        contains-from_list atoms_total task.init (image_of_atom to a)
        ∙ all-at (λ (b : Atom). occurs_in task.init (image_of_atom to b)) (static_atoms task) a all (static-at a static at)

    statics_kept : keeps_statics task to ≡ true → (a : Atom) → is_fluent task a.predicate ≡ false
        → contains (initial_state task) (image_of_atom to a) ≡ contains (initial_state task) a
    statics_kept all a static =
        tests_alike (contains (initial_state task) (image_of_atom to a)) (contains (initial_state task) a)
        (λ at. ap (contains (initial_state task)) (sym (atom_twice to both_ways a)) ∙ statics_go all (image_of_atom to a) static at)
        (statics_go all a static)

  statics_pass : (to : ℕ → ℕ) → IsSymmetry task to → keeps_statics task to ≡ true
  statics_pass to symmetry =
      all-from (λ (a : Atom). occurs_in task.init (image_of_atom to a)) (static_atoms task) (λ a at.
      let static = filter-Contains (λ (b : Atom). not (is_fluent task b.predicate)) task.init a at in
      sym (contains-from_list atoms_total task.init (image_of_atom to a))
      ∙ symmetry.statics a (is_static (is_fluent task a.predicate) static.1)
      ∙ contains-from_list atoms_total task.init a
      ∙ any-at (eq_by_cmp atom_cmp a) task.init a static.0 ((Equal-is (atom_cmp a a)).1 (tied_itself atoms_total a)))
    where
      is_static : (fluent : Bool) → not fluent ≡ true → fluent ≡ false
      is_static true is = absurd (cc)
      is_static false is = refl

  -- ---- the goal

  goal_kept : (to : ℕ → ℕ) → keeps_goal task to ≡ true → (part : _) → Contains (conjuncts task.goal) part → Contains (conjuncts task.goal) (image_of_formula to part)
  goal_kept to all part at =
      let found = any-found (is_same_formula (image_of_formula to part)) (conjuncts task.goal)
      (all-at (λ g. list_any (is_same_formula (image_of_formula to g)) (conjuncts task.goal)) (conjuncts task.goal) part all at) in
      subst (Contains (conjuncts task.goal)) (sym (formula-is (image_of_formula to part) found.0 found.2)) found.1

  goal_passes : (to : ℕ → ℕ) → IsSymmetry task to → keeps_goal task to ≡ true
  goal_passes to symmetry =
      all-from (λ part. list_any (is_same_formula (image_of_formula to part)) (conjuncts task.goal)) (conjuncts task.goal) (λ part at.
      any-at (is_same_formula (image_of_formula to part)) (conjuncts task.goal) (image_of_formula to part) (symmetry.goal part at) (formula-same (image_of_formula to part) (image_of_formula to part) refl))

  -- ---- the test

  module _ (exchange : Exchange) where
    abbrev to : ℕ → ℕ
    to = image_of_object exchange

    passed : IsTrue (is_symmetry task exchange) → IsTrue (are_different (objects_in exchange)) × IsSymmetry task to
    passed passes =
        let goal = and_parts _ (keeps_goal task to) passes in
        let statics = and_parts _ (keeps_statics task to) goal.0 in
        let values = and_parts _ (keeps_values task to) statics.0 in
        let actions = and_parts _ (keeps_actions task to) values.0 in
        let types = and_parts (are_different (objects_in exchange)) (keeps_types task exchange) actions.0 in (
          types.0,
          record {
            both_ways = own_inverse exchange types.0;
            types = types_kept exchange types.1;
            actions = λ o at. eqb-true (to o) o (all-at (λ n. to n == n) (named_in_actions task) o actions.1 at);
            values = values_kept to (own_inverse exchange types.0) values.1;
            statics = statics_kept to (own_inverse exchange types.0) statics.1;
            goal = goal_kept to goal.1;
          },
        )

    is_passed : IsTrue (are_different (objects_in exchange)) × IsSymmetry task to → IsTrue (is_symmetry task exchange)
    is_passed (different, symmetry) =
        let types = and_from (are_different (objects_in exchange)) (keeps_types task exchange) different (types_pass exchange different symmetry) in
        let actions = and_from _ (keeps_actions task to) types (all-from (λ n. to n == n) (named_in_actions task) (λ o at. eq-eqb (to o) o (symmetry.actions o at))) in
        let values = and_from _ (keeps_values task to) actions (all-from (λ (v : FunctionValue). option_eq nat_eq (value_in task.values (image_of_atom to v.function)) (value_in task.values v.function)) task.values
        (λ v at. option-same (value_in task.values (image_of_atom to v.function)) (value_in task.values v.function) (symmetry.values v.function))) in
        let statics = and_from _ (keeps_statics task to) values (statics_pass to symmetry) in
        and_from _ (keeps_goal task to) statics (goal_passes to symmetry)

pub test_is_exact : TestIsExact
test_is_exact task exchange = (passed task exchange, is_passed task exchange)
