-- Which atoms of the initial state have only known names.
use Rattle.std.proofs.Common.{◌≡◌, ℕ, ◌<◌, ◌≤◌, Bool, true, false, ◌&&◌, List, [], ◌∷◌, map, length, take, nat_lt, nat_le, refl, ap, sym, ◌∙◌, arith}
use Rattle.std.specs.List.{list_all}
use Rattle.std.proofs.lemmas.Bool.Decides.{nat_tests}
use Rattle.std.proofs.lemmas.List.{length-map, take_all}
use Rattle.model.specs.Task as task
use Rattle.model.specs.Trees.{Name, GroundAtom}
use Rattle.model.specs.Typing.{Known, folded, is_same, is_known, is_named, number_in, names_of_predicates, names_of_objects}
use Rattle.typing.proofs.Lists.{list_all-map, list_any-position}

-- a name is known if its number is that of one
known_below : (names : List task.Name) (name : Name) → is_known names name ≡ nat_lt (number_in names name) (length names)
known_below names name = list_any-position (is_same (folded name)) names

-- and each of some objects is known, if they are no more than an atom may have
pub objects_known : (known : Known) (given : List Name) (objects : List ℕ) → objects ≡ take 8 (map (number_in (names_of_objects known.objects)) given) → length given ≤ 8
    → list_all (λ n. nat_lt n (length known.objects)) objects ≡ list_all (is_known (names_of_objects known.objects)) given
objects_known known given objects is few =
    ap (list_all (λ n. nat_lt n (length known.objects))) (is ∙ take_all 8 (map (number_in names) given) (omega (arith, few, length-map given (number_in names))))
    ∙ list_all-map (λ n. nat_lt n (length known.objects)) (number_in names) given ∙ each given
  where
    names : List task.Name
    names = names_of_objects known.objects

    count : length known.objects ≡ length (names_of_objects known.objects)
    count = sym (length-map known.objects (λ (o : task.Object). o.name))

    each : (xs : List Name) → list_all (λ x. nat_lt (number_in (names_of_objects known.objects) x) (length known.objects)) xs ≡ list_all (is_known (names_of_objects known.objects)) xs
    each [] = refl
    each (x ∷ xs) =
        λ i. (ap (nat_lt (number_in (names_of_objects known.objects) x)) count ∙ sym (known_below (names_of_objects known.objects) x)) i && each xs i

-- the name of the predicate is known, and the objects are no more than allowed
module _ (known : Known) (a : GroundAtom) (predicate : ℕ) (is : predicate ≡ number_in (names_of_predicates known.predicates) a.predicate) where
  declared : is_known (names_of_predicates known.predicates) a.predicate ≡ nat_lt predicate (length known.predicates)
  declared =
      known_below (names_of_predicates known.predicates) a.predicate
      ∙ (λ i. nat_lt (sym is i) (length-map known.predicates (λ (p : task.Predicate). p.name) i))

  pub all_named : predicate < length known.predicates → length a.objects ≤ 8 → (all : Bool) → all ≡ list_all (is_known (names_of_objects known.objects)) a.objects → all ≡ is_named known a
  all_named below few all each =
      let is_declared : nat_lt predicate (length known.predicates) ≡ true = grind (arith, nat_tests) in
      let is_narrow : nat_le (length a.objects) 8 ≡ true = grind (arith, nat_tests) in
      each ∙ sym (λ i. ((declared ∙ is_declared) i && is_narrow i) && list_all (is_known (names_of_objects known.objects)) a.objects)

  pub not_named : (predicate < length known.predicates → length a.objects ≤ 8 → ⊥) → false ≡ is_named known a
  not_named none =
      by (nat_lt predicate (length known.predicates)) (nat_le (length a.objects) 8) refl refl
      ∙ sym (λ i. (declared i && nat_le (length a.objects) 8) && list_all (is_known (names_of_objects known.objects)) a.objects)
    where
      by : (b c : Bool) → nat_lt predicate (length known.predicates) ≡ b → nat_le (length a.objects) 8 ≡ c
          → false ≡ ((b && c) && list_all (is_known (names_of_objects known.objects)) a.objects)
      by false c e f = refl
      by true false e f = refl
      by true true e f = absurd (none (below e) (few f))
        where
          below : nat_lt predicate (length known.predicates) ≡ true → predicate < length known.predicates
          below e = grind (arith, nat_tests)

          few : nat_le (length a.objects) 8 ≡ true → length a.objects ≤ 8
          few e = grind (arith, nat_tests)
