-- The parts of the test, step by step.
use Rattle.std.proofs.Common.{◌≡◌, ◌∙◌, ℕ, inl, inr, ◌+◌, ◌<◌, Bool, true, false, not, ◌&&◌, ◌||◌, List, [], ◌∷◌, ◌++◌, length, get_or, map, take, Option, None, Some, refl, sym, ap, subst, arith}
use Rattle.std.specs.Prelude.{◌==◌, cond, nat_eq, slice_get, filter, Contains}
use Rattle.std.specs.List.{flat_map, list_all, list_any}
use Rattle.std.specs.Option.{option_eq, option_map, option_map_or}
use Rattle.std.specs.FinSet.{contains, contains-from_list}
use Rattle.std.proofs.lemmas.Bool.{and_cases, and_from, and_parts, or_cases, or_parts, or_right, not-false, not-true, eqb-true, eq-eqb, cond-false, true≢false, false≢true}
use Rattle.std.proofs.lemmas.List.Folds.{list_any_at, list_any_more}
use Rattle.std.proofs.lemmas.List.Elements.{Contains-append_cases, Contains-append_left, Contains-append_right}
use Rattle.std.proofs.lemmas.Option.{slice_get_cases, slice_get-map}
use Rattle.std.specs.Cmp.{Equal-is, tied_itself}
use Rattle.std.specs.Ordering.{eq_by_cmp}
use Rattle.task.specs.declared.atoms.Atom.{Atom}
use Rattle.task.specs.declared.atoms.TypeId.{TypeId}
use Rattle.task.specs.contracts.atoms.TypeIdPartialEq.TheImpl as type_impl
use Rattle.task.specs.TaskParts.{type_of, value_of}
use Rattle.model.specs.Task as task
use Rattle.model.specs.Task.{Task, FunctionValue}
use Rattle.model.specs.Meaning.{atom_cmp, initial_state, value_in}
use Rattle.model.specs.Fluents.{is_fluent}
use Rattle.model.specs.NumberedAtoms.{occurs_in}
use Rattle.model.proofs.Atoms.{atoms_total}
use Rattle.model.proofs.Tests.{passes_more_index}
use Rattle.model.proofs.ListLemmas.{Contains-cases, Contains-got, Contains-here, Contains-none, Contains-place, Contains-there}
use Rattle.symmetries_definitions.specs.Exchanges.{Exchange, image_of_object, image_of_atom, image_of_formula, image_of_formulas, image_of_term, objects_in, are_different}
use Rattle.symmetries_definitions.specs.NamedObjects.{named_in_formula, named_in_formulas, named_in_term}
use Rattle.symmetries_definitions.specs.SameFormula.{is_same_formula}
use Rattle.symmetries_definitions.specs.Symmetries.{conjuncts, keeps_types, keeps_actions, keeps_values, keeps_statics, keeps_goal, is_symmetry}
use Rattle.symmetries_definitions.proofs.Lists.{tests_alike, all-at, all-from, any-at, any-found}
use Rattle.symmetries_definitions.proofs.ExchangeLemmas.{image_of_first, own_inverse}
use Rattle.symmetries_definitions.proofs.NamedLemmas.{same_formula}
use Rattle.symmetries_definitions.proofs.SameFormulaLemmas.{formula-is, formula-same}
use Rattle.symmetries.specs.Kept.{has_image, keeps_at, keeps_atom, keeps_value}
use Rattle.symmetries.specs.Lent.{PassAlike}
use Rattle.symmetries.specs.PlacesByObject.{functions_of}
use Rattle.symmetries.specs.Named.{is_among}
use Rattle.symmetries.proofs.PairLemmas.{flip}

-- ---- one place after another

module _ {X : Type 0} (p : X → Bool) (xs : List X) (i : ℕ) where
  -- what is at an index passes, or nothing is there
  pub at_more : i < length xs → option_map_or p (slice_get xs i) true ≡ true → list_all p (take i xs) ≡ true → list_all p (take (i + 1) xs) ≡ true
  at_more within here before =
      elim (slice_get_cases xs i).1 [
        | inl found ↦ passes_more_index p xs i found.0 within before
            (ap p found.3 ∙ sym (ap (λ o. option_map_or p o true) found.2) ∙ here)
        | inr past ↦ absurd (let beyond = past.0 in omega (arith, within, beyond))
      ]

  pub at_fails : option_map_or p (slice_get xs i) true ≡ false → false ≡ list_all p xs
  at_fails here =
      elim (slice_get_cases xs i).1 [
        | inl found ↦ sym (fails xs i found.0 found.2 (sym (ap (λ o. option_map_or p o true) found.2) ∙ here))
        | inr past ↦ absurd (true≢false (sym (ap (λ o. option_map_or p o true) past.1) ∙ here))
      ]
    where
      fails : (ys : List X) (k : ℕ) (y : X) → slice_get ys k ≡ Some y → p y ≡ false → list_all p ys ≡ false
      fails ys k y at is = by_all (list_all p ys) refl
        where
          by_all : (b : Bool) → list_all p ys ≡ b → list_all p ys ≡ false
          by_all true all = absurd (true≢false (sym (all-at p ys y all (Contains-got ys k y at)) ∙ is))
          by_all false all = all

-- ---- types

abbrev pub type_eq : TypeId → TypeId → Bool
type_eq = (type_impl.ghosts).eq

pub types_alike : (a b : Option TypeId) (m n : Option ℕ) → option_map type_of a ≡ m → option_map type_of b ≡ n → option_eq type_eq a b ≡ option_eq nat_eq m n
types_alike a b m n is also = by_types a b ∙ (λ i. option_eq nat_eq (is i) (also i))
  where
    by_types : (a b : Option TypeId) → option_eq type_eq a b ≡ option_eq nat_eq (option_map type_of a) (option_map type_of b)
    by_types None None = refl
    by_types None (Some y) = refl
    by_types (Some x) None = refl
    by_types (Some x) (Some y) = refl

-- ---- actions

-- an object of a pair is not the other one
pub pair_apart : (exchange : Exchange) → are_different (objects_in exchange) ≡ true → (pair : ℕ × ℕ) → Contains exchange pair → (pair.0 == pair.1) ≡ false
pair_apart [] different pair at = absurd (Contains-none pair at)
pair_apart ((p, q) ∷ rest) different pair at =
    let parts = and_parts (not ((q == p) || list_any (λ other. other == p) (objects_in rest))) (not (list_any (λ other. other == q) (objects_in rest)) && are_different (objects_in rest)) different in
    let later = and_parts (not (list_any (λ other. other == q) (objects_in rest))) (are_different (objects_in rest)) parts.1 in
    let here = or_parts (q == p) (list_any (λ other. other == p) (objects_in rest)) (not-true _ parts.0) in
    elim (Contains-cases (p, q) rest pair at) [
      | inl is ↦ ap (λ (x : ℕ × ℕ). x.0 == x.1) (sym is) ∙ flip p q ∙ here.0
      | inr there ↦ pair_apart rest later.1 pair there
    ]

-- neither of the pair is one of these
abbrev pub spares : List ℕ → ℕ × ℕ → Bool
spares named pair = not (is_among named pair.0 || is_among named pair.1)

module _ (named : List ℕ) where
  among-at : (o n : ℕ) → Contains named o → (n == o) ≡ true → is_among named n ≡ true
  among-at o n at same = any-at (λ other. other == n) named o at (flip o n ∙ same)

  apart : (o n : ℕ) → Contains named o → is_among named n ≡ false → (n == o) ≡ false
  apart o n at none = by_test (n == o) refl
    where
      by_test : (b : Bool) → (n == o) ≡ b → (n == o) ≡ false
      by_test true same = absurd (true≢false (sym (among-at o n at same) ∙ none))
      by_test false other = other

  -- an object that actions name is in none of the pairs
  named_stays : (exchange : Exchange) → list_all (spares named) exchange ≡ true → (o : ℕ) → Contains named o → image_of_object exchange o ≡ o
  named_stays [] all o at = refl
  named_stays ((p, q) ∷ rest) all o at =
      let parts = and_parts (spares named (p, q)) (list_all (spares named) rest) all in
      let neither = or_parts (is_among named p) (is_among named q) (not-true _ parts.0) in
      cond-false (p == o) q (cond (q == o) p (image_of_object rest o)) (apart o p at neither.0)
      ∙ cond-false (q == o) p (image_of_object rest o) (apart o q at neither.1)
      ∙ named_stays rest parts.1 o at

  module _ (exchange : Exchange) (different : are_different (objects_in exchange) ≡ true) where
    abbrev to : ℕ → ℕ
    to = image_of_object exchange

    -- if every object that actions name is fixed, no other is named
    moved_unnamed : list_all (λ o. to o == o) named ≡ true → (n : ℕ) → (to n == n) ≡ false → is_among named n ≡ false
    moved_unnamed all n moves = by_test (is_among named n) refl
      where
        by_test : (b : Bool) → is_among named n ≡ b → is_among named n ≡ false
        by_test false none = none
        by_test true found =
            let one = any-found (λ other. other == n) named found in
            absurd (true≢false (sym (ap (λ o. to o == o) (sym (eqb-true one.0 n one.2)) ∙ all-at (λ o. to o == o) named one.0 all one.1) ∙ moves))

    pub named_spared : list_all (spares named) exchange ≡ list_all (λ o. to o == o) named
    named_spared =
        tests_alike (list_all (spares named) exchange) (list_all (λ o. to o == o) named)
        (λ all. all-from (λ o. to o == o) named (λ o at. eq-eqb (to o) o (named_stays exchange all o at)))
        (λ all. all-from (spares named) exchange (λ pair at.
        let goes : to pair.0 ≡ pair.1 = image_of_first exchange different pair at in
        let comes : to pair.1 ≡ pair.0 = ap to (sym goes) ∙ own_inverse exchange different pair.0 in
        let other = pair_apart exchange different pair at in
        let first = moved_unnamed all pair.0 (ap (λ n. n == pair.0) goes ∙ flip pair.1 pair.0 ∙ other) in
        let second = moved_unnamed all pair.1 (ap (λ n. n == pair.1) comes ∙ other) in
        λ i. not (first i || second i)))

-- ---- values

pub value_found : (entries : List (Atom × ℕ)) (values : List FunctionValue) (place : ℕ) (entry : Atom × ℕ) → map value_of entries ≡ values → Some entry ≡ slice_get entries place
    → Some (value_of entry) ≡ slice_get values place
value_found entries values place entry is at =
    ap (option_map value_of) at ∙ sym (slice_get-map value_of entries place) ∙ ap (λ l. slice_get l place) is

pub value_missing : (entries : List (Atom × ℕ)) (values : List FunctionValue) (place : ℕ) → map value_of entries ≡ values → None ≡ slice_get entries place → None ≡ slice_get values place
value_missing entries values place is at =
    ap (option_map value_of) at ∙ sym (slice_get-map value_of entries place) ∙ ap (λ l. slice_get l place) is

-- ---- static atoms

filter_all : {X : Type 0} (f q : X → Bool) (xs : List X) → list_all (λ x. f x || q x) xs ≡ list_all q (filter (λ x. not (f x)) xs)
filter_all f q [] = refl
filter_all f q (x ∷ xs) = by_first (f x) (filter_all f q xs)
  where
    by_first : (b : Bool) → list_all (λ x. f x || q x) xs ≡ list_all q (filter (λ x. not (f x)) xs)
        → ((b || q x) && list_all (λ x. f x || q x) xs) ≡ list_all q (cond (not b) (x ∷ filter (λ x. not (f x)) xs) (filter (λ x. not (f x)) xs))
    by_first true rest = rest
    by_first false rest = ap (λ b. q x && b) rest

pub statics_by_atoms : (t : Task) (to : ℕ → ℕ) → list_all (keeps_atom t to) t.init ≡ keeps_statics t to
statics_by_atoms t to = filter_all (λ (a : task.Atom). is_fluent t a.predicate) (λ a. occurs_in t.init (image_of_atom to a)) t.init

-- the image is initially true
pub true_at_start : (t : Task) (a : task.Atom) (b : Bool) → b ≡ contains (initial_state t) a → b ≡ list_any (eq_by_cmp atom_cmp a) t.init
true_at_start t a b is = is ∙ contains-from_list atoms_total t.init a

-- ---- what names no exchanged object

all-fails : {X : Type 0} (p : X → Bool) (xs : List X) → list_all p xs ≡ false → (x : X) × Contains xs x × (p x ≡ false)
all-fails p [] none = absurd (cc)
all-fails p (x ∷ xs) none =
    elim (and_cases (p x) (list_all p xs) none) [
      | inl here ↦ (x, Contains-here x xs, here)
      | inr later ↦ let rest = all-fails p xs later in (rest.0, Contains-there x xs rest.0 rest.1, rest.2)
    ]

-- what is at the indices of both objects passes
abbrev pub pair_keeps : {X : Type 0} → (X → Bool) → List X → (ℕ → List ℕ) → ℕ × ℕ → Bool
pair_keeps test xs rows pair = keeps_at test xs rows pair.0 && keeps_at test xs rows pair.1

-- If the indices of each object are in its row, and what names no exchanged object passes, the indices of the exchanged objects
-- decide.
module _ {X : Type 0} (test : X → Bool) (xs : List X) (named_by : X → List ℕ) (rows : ℕ → List ℕ) (exchange : Exchange)
    (covers : (place : ℕ) (x : X) → slice_get xs place ≡ Some x → (o : ℕ) → is_among (named_by x) o ≡ true → is_among (rows o) place ≡ true)
    (still : (x : X) → Contains xs x → ((o : ℕ) → Contains (named_by x) o → image_of_object exchange o ≡ o) → test x ≡ true) where
  all_keep : list_all test xs ≡ true → (o : ℕ) → keeps_at test xs rows o ≡ true
  all_keep all o = all-from (λ place. option_map_or test (slice_get xs place) true) (rows o) (λ place _. by_place place (slice_get xs place) refl)
    where
      by_place : (place : ℕ) (found : Option X) → slice_get xs place ≡ found → option_map_or test found true ≡ true
      by_place place None _ = refl
      by_place place (Some x) at = all-at test xs x all (Contains-got xs place x at)

  at_row : (place : ℕ) (x : X) → slice_get xs place ≡ Some x → (o : ℕ) → is_among (named_by x) o ≡ true → keeps_at test xs rows o ≡ true → test x ≡ true
  at_row place x at o names keeps =
      let found = any-found (λ other. other == place) (rows o) (covers place x at o names) in
      sym (ap (λ r. option_map_or test r true) at)
      ∙ ap (λ n. option_map_or test (slice_get xs n) true) (sym (eqb-true found.0 place found.2))
      ∙ all-at (λ n. option_map_or test (slice_get xs n) true) (rows o) found.0 keeps found.1

  one_keeps : list_all (pair_keeps test xs rows) exchange ≡ true → (x : X) → Contains xs x → test x ≡ true
  one_keeps all x there = by_spared (list_all (spares (named_by x)) exchange) refl
    where
      by_spared : (b : Bool) → list_all (spares (named_by x)) exchange ≡ b → test x ≡ true
      by_spared true spared = still x there (named_stays (named_by x) exchange spared)
      by_spared false touched =
          let place = Contains-place xs x there in
          let pair = all-fails (spares (named_by x)) exchange touched in
          let keeps = and_parts (keeps_at test xs rows pair.0.0) (keeps_at test xs rows pair.0.1) (all-at (pair_keeps test xs rows) exchange pair.0 all pair.1) in
          elim (or_cases (is_among (named_by x) pair.0.0) (is_among (named_by x) pair.0.1) (not-false _ pair.2)) [
            | inl first ↦ at_row place.0 x place.1 pair.0.0 first keeps.0
            | inr second ↦ at_row place.0 x place.1 pair.0.1 second keeps.1
          ]

  pub covered : list_all (pair_keeps test xs rows) exchange ≡ list_all test xs
  covered =
      tests_alike (list_all (pair_keeps test xs rows) exchange) (list_all test xs)
      (λ all. all-from test xs (one_keeps all))
      (λ all. all-from (pair_keeps test xs rows) exchange (λ pair _. and_from (keeps_at test xs rows pair.0) (keeps_at test xs rows pair.1) (all_keep all pair.0) (all_keep all pair.1)))

-- an atom with fixed objects is its own image
still_atom : (to : ℕ → ℕ) (a : task.Atom) → ((o : ℕ) → Contains a.objects o → to o ≡ o) → image_of_atom to a ≡ a
still_atom to a stay = λ i. record { predicate = a.predicate; objects = each a.objects stay i }
  where
    each : (objects : List ℕ) → ((o : ℕ) → Contains objects o → to o ≡ o) → map to objects ≡ objects
    each [] stays = refl
    each (o ∷ objects) stays = λ i. stays o (Contains-here o objects) i ∷ each objects (λ other at. stays other (Contains-there o objects other at)) i

option_itself : (o : Option ℕ) → option_eq nat_eq o o ≡ true
option_itself None = refl
option_itself (Some n) = eq-eqb n n refl

module _ (t : Task) (exchange : Exchange) (rows : ℕ → List ℕ) where
  pub values_covered : ((place : ℕ) (a : task.Atom) → slice_get (functions_of t.values) place ≡ Some a → (o : ℕ) → is_among a.objects o ≡ true → is_among (rows o) place ≡ true)
      → list_all (pair_keeps (keeps_value t (image_of_object exchange)) t.values rows) exchange ≡ keeps_values t (image_of_object exchange)
  values_covered covers =
      covered (keeps_value t (image_of_object exchange)) t.values (λ (v : FunctionValue). v.function.objects) rows exchange
      (λ place v at. covers place v.function (slice_get-map (λ (v : FunctionValue). v.function) t.values place ∙ ap (option_map (λ (v : FunctionValue). v.function)) at))
      (λ v there stay.
      ap (λ f. option_eq nat_eq (value_in t.values f) (value_in t.values v.function)) (still_atom (image_of_object exchange) v.function stay) ∙ option_itself (value_in t.values v.function))

  pub atoms_covered : ((place : ℕ) (a : task.Atom) → slice_get t.init place ≡ Some a → (o : ℕ) → is_among a.objects o ≡ true → is_among (rows o) place ≡ true)
      → list_all (pair_keeps (keeps_atom t (image_of_object exchange)) t.init rows) exchange ≡ list_all (keeps_atom t (image_of_object exchange)) t.init
  atoms_covered covers =
      covered (keeps_atom t (image_of_object exchange)) t.init (λ (a : task.Atom). a.objects) rows exchange covers
      (λ a there stay.
      or_right (is_fluent t a.predicate) (occurs_in t.init (image_of_atom (image_of_object exchange) a))
      (ap (occurs_in t.init) (still_atom (image_of_object exchange) a stay)
      ∙ any-at (eq_by_cmp atom_cmp a) t.init a there ((Equal-is (atom_cmp a a)).1 (tied_itself atoms_total a))))

-- ---- conjuncts of the goal

-- a number of a row is among it
pub listed_at : (row : List ℕ) (i d : ℕ) → i < length row → (whole : List ℕ) → row ≡ whole → is_among whole (get_or row i d) ≡ true
listed_at row i d within whole is = ap (λ l. is_among l (get_or row i d)) (sym is) ∙ list_any_at (λ other. other == get_or row i d) row i d within (eq-eqb (get_or row i d) (get_or row i d) refl)

pub any_here_index : {X : Type 0} (p : X → Bool) (xs : List X) (i : ℕ) (d : X) → i < length xs → p (get_or xs i d) ≡ true → true ≡ list_any p xs
any_here_index p xs i d within here = sym (list_any_at p xs i d within here)

pub any_more_index : {X : Type 0} (p : X → Bool) (xs : List X) (i : ℕ) (d : X) → i < length xs → list_any p (take i xs) ≡ false → p (get_or xs i d) ≡ false → list_any p (take (i + 1) xs) ≡ false
any_more_index p xs i d within before here = list_any_more p xs i d within ∙ (λ j. before j || here j)

module _ (to : ℕ → ℕ) where
  named_in_image_of_terms : (terms : List task.Term) (o : ℕ) → Contains (flat_map named_in_term terms) o → Contains (flat_map named_in_term (map (image_of_term to) terms)) (to o)
  named_in_image_of_terms [] o at = absurd (Contains-none o at)
  named_in_image_of_terms (task.variable n ∷ terms) o at = named_in_image_of_terms terms o at
  named_in_image_of_terms (task.object n ∷ terms) o at =
      elim (Contains-cases n (flat_map named_in_term terms) o at) [
        | inl is ↦ subst (λ m. Contains (to n ∷ flat_map named_in_term (map (image_of_term to) terms)) (to m)) is (Contains-here (to n) (flat_map named_in_term (map (image_of_term to) terms)))
        | inr later ↦ Contains-there (to n) (flat_map named_in_term (map (image_of_term to) terms)) (to o) (named_in_image_of_terms terms o later)
      ]

  -- what one of two parts names
  named_in_either : (xs ys us vs : List ℕ) (o : ℕ) → (Contains xs o → Contains us (to o)) → (Contains ys o → Contains vs (to o)) → Contains (xs ++ ys) o → Contains (us ++ vs) (to o)
  named_in_either xs ys us vs o first second at =
      elim (Contains-append_cases xs ys o at) [
        | inl left ↦ Contains-append_left us vs (to o) (first left)
        | inr right ↦ Contains-append_right us vs (to o) (second right)
      ]

  named_in_image_of_term : (t : task.Term) (o : ℕ) → Contains (named_in_term t) o → Contains (named_in_term (image_of_term to t)) (to o)
  named_in_image_of_term (task.variable n) o at = absurd (Contains-none o at)
  named_in_image_of_term (task.object n) o at =
      elim (Contains-cases n [] o at) [
        | inl is ↦ subst (λ m. Contains (to n ∷ []) (to m)) is (Contains-here (to n) [])
        | inr later ↦ absurd (Contains-none o later)
      ]

  mutual
    named_in_image : (f : task.Formula) (o : ℕ) → Contains (named_in_formula f) o → Contains (named_in_formula (image_of_formula to f)) (to o)
    named_in_image (task.atom a) o at = named_in_image_of_terms a.terms o at
    named_in_image (task.equal t u) o at =
        named_in_either (named_in_term t) (named_in_term u) (named_in_term (image_of_term to t)) (named_in_term (image_of_term to u)) o (named_in_image_of_term t o) (named_in_image_of_term u o) at
    named_in_image (task.and parts) o at = named_in_images parts o at
    named_in_image (task.or parts) o at = named_in_images parts o at
    named_in_image (task.not part) o at = named_in_image part o at
    named_in_image (task.imply premise conclusion) o at =
        named_in_either (named_in_formula premise) (named_in_formula conclusion) (named_in_formula (image_of_formula to premise)) (named_in_formula (image_of_formula to conclusion)) o
        (named_in_image premise o) (named_in_image conclusion o) at
    named_in_image (task.exists types part) o at = named_in_image part o at
    named_in_image (task.forall types part) o at = named_in_image part o at

    named_in_images : (fs : task.Formulas) (o : ℕ) → Contains (named_in_formulas fs) o → Contains (named_in_formulas (image_of_formulas to fs)) (to o)
    named_in_images task.no_formula o at = absurd (Contains-none o at)
    named_in_images (task.more_formulas first rest) o at =
        named_in_either (named_in_formula first) (named_in_formulas rest) (named_in_formula (image_of_formula to first)) (named_in_formulas (image_of_formulas to rest)) o
        (named_in_image first o) (named_in_images rest o) at

  named_among : (f : task.Formula) (o : ℕ) → is_among (named_in_formula f) o ≡ true → is_among (named_in_formula (image_of_formula to f)) (to o) ≡ true
  named_among f o at =
      let found = any-found (λ other. other == o) (named_in_formula f) at in
      let same : found.0 ≡ o = eqb-true found.0 o found.2 in
      any-at (λ other. other == to o) (named_in_formula (image_of_formula to f)) (to o)
      (subst (λ n. Contains (named_in_formula (image_of_formula to f)) (to n)) same (named_in_image f found.0 found.1)) (eq-eqb (to o) (to o) refl)

  -- the image of a formula is in the row of the image of an object that it names
  module _ (xs : List task.Formula) (rows : ℕ → List ℕ) (indexed : (o place : ℕ) → is_among (rows o) place ≡ option_map_or (λ f. is_among (named_in_formula f) o) (slice_get xs place) false) where
    pub image_in_row : (f : task.Formula) (o : ℕ) → is_among (named_in_formula f) o ≡ true
        → list_any (λ place. option_map_or (is_same_formula (image_of_formula to f)) (slice_get xs place) false) (rows (to o)) ≡ list_any (is_same_formula (image_of_formula to f)) xs
    image_in_row f o names =
        let is : task.Formula → Bool = is_same_formula (image_of_formula to f) in
        let at : ℕ → Bool = λ place. option_map_or is (slice_get xs place) false in
        tests_alike (list_any at (rows (to o))) (list_any is xs)
        (λ some.
        let one = any-found at (rows (to o)) some in
        somewhere one.0 (slice_get xs one.0) refl one.2)
        (λ some.
        let one = any-found is xs some in
        let place = Contains-place xs one.0 one.1 in
        let same : image_of_formula to f ≡ one.0 = formula-is (image_of_formula to f) one.0 one.2 in
        let listed : is_among (rows (to o)) place.0 ≡ true =
        indexed (to o) place.0 ∙ ap (λ found. option_map_or (λ g. is_among (named_in_formula g) (to o)) found false) place.1
        ∙ ap (λ g. is_among (named_in_formula g) (to o)) (sym same) ∙ named_among f o names in
        let row = any-found (λ other. other == place.0) (rows (to o)) listed in
        any-at at (rows (to o)) row.0 row.1
        (ap at (eqb-true row.0 place.0 row.2) ∙ ap (λ found. option_map_or is found false) place.1 ∙ one.2))
      where
        somewhere : (place : ℕ) (found : Option task.Formula) → slice_get xs place ≡ found → option_map_or (is_same_formula (image_of_formula to f)) (slice_get xs place) false ≡ true
            → list_any (is_same_formula (image_of_formula to f)) xs ≡ true
        somewhere place None none passes = absurd (false≢true (sym (ap (λ x. option_map_or (is_same_formula (image_of_formula to f)) x false) none) ∙ passes))
        somewhere place (Some g) got passes =
            any-at (is_same_formula (image_of_formula to f)) xs g (Contains-got xs place g got) (sym (ap (λ x. option_map_or (is_same_formula (image_of_formula to f)) x false) got) ∙ passes)

-- the conjuncts that name exchanged objects decide
pub goal_covered : (t : Task) (exchange : Exchange) (rows : ℕ → List ℕ) (xs : List task.Formula) → PassAlike xs (conjuncts t.goal)
    → ((o place : ℕ) → is_among (rows o) place ≡ option_map_or (λ f. is_among (named_in_formula f) o) (slice_get xs place) false)
    → list_all (pair_keeps (has_image t (image_of_object exchange)) xs rows) exchange ≡ keeps_goal t (image_of_object exchange)
goal_covered t exchange rows xs alike indexed =
    covered (has_image t (image_of_object exchange)) xs named_in_formula rows exchange
    (λ place f at o names. indexed o place ∙ ap (λ found. option_map_or (λ g. is_among (named_in_formula g) o) found false) at ∙ names)
    (λ f there stay.
    let itself : image_of_formula (image_of_object exchange) f ≡ f = same_formula (image_of_object exchange) f stay in
    sym (alike (is_same_formula (image_of_formula (image_of_object exchange) f))).1
    ∙ any-at (is_same_formula (image_of_formula (image_of_object exchange) f)) xs f there (formula-same (image_of_formula (image_of_object exchange) f) f itself))
    ∙ (alike (has_image t (image_of_object exchange))).0

-- ---- the whole

module _ (t : Task) (exchange : Exchange) (different : are_different (objects_in exchange) ≡ true) where
  abbrev by : ℕ → ℕ
  by = image_of_object exchange

  pub no_types : keeps_types t exchange ≡ false → false ≡ is_symmetry t exchange
  no_types none = sym (λ i. different i && none i && keeps_actions t by && keeps_values t by && keeps_statics t by && keeps_goal t by)

  module _ (types : keeps_types t exchange ≡ true) where
    pub no_actions : keeps_actions t by ≡ false → false ≡ is_symmetry t exchange
    no_actions none = sym (λ i. different i && types i && none i && keeps_values t by && keeps_statics t by && keeps_goal t by)

    module _ (actions : keeps_actions t by ≡ true) where
      pub no_values : keeps_values t by ≡ false → false ≡ is_symmetry t exchange
      no_values none = sym (λ i. different i && types i && actions i && none i && keeps_statics t by && keeps_goal t by)

      module _ (values : keeps_values t by ≡ true) where
        pub no_statics : keeps_statics t by ≡ false → false ≡ is_symmetry t exchange
        no_statics none = sym (λ i. different i && types i && actions i && values i && none i && keeps_goal t by)

        pub goal_decides : keeps_statics t by ≡ true → keeps_goal t by ≡ is_symmetry t exchange
        goal_decides statics = sym (λ i. different i && types i && actions i && values i && statics i && keeps_goal t by)
