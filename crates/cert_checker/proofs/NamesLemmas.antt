-- Names and what they denote.
use Rattle.std.proofs.Common.{◌≡◌, ℕ, zero, suc, ◌<◌, ◌≤◌, Bool, true, false, List, [], ◌∷◌, map, length, get_or, cond, Option, None, Some, refl, sym, ap, ◌∙◌, subst, true≢false, arith}
use Rattle.std.specs.Prelude.{IsTrue, ◌==◌, slice_get, nat_lt}
use Rattle.std.specs.Cmp.{first_so, second_so}
use Rattle.std.specs.List.{position, position_or_len}
use Rattle.std.specs.Option.{option_map_or}
use Rattle.std.specs.Cmp.Lexicographic.{pointwise, as_long}
use Rattle.std.proofs.lemmas.Bool.{eqb-true, leb-true, ltb-true}
use Rattle.std.proofs.lemmas.List.Sums.{passes_at_first}
use Rattle.model.specs.Task.{Name, Atom, Predicate, Task}
use Rattle.model.specs.Meaning.{is_of}
use Rattle.model.specs.WellTyped.{is_atom, is_task, has_few_arguments, max_arguments}
use Rattle.model.specs.Resolution.{is_same}
use Rattle.model.specs.PlanText.{object_names}
use Rattle.model.proofs.Tests.{passes_got}
use Rattle.certificate_definitions.specs.CertificateText.{NamedAtom}
use Rattle.certificate_definitions.specs.CertificateNames.{AreNumbersOf, IsNumberOf, Names, predicate_names}

module _ (names : List Name) where
  -- a name that is not among these has no number
  pub unnamed : (these : List Name) (k : ℕ) (name : Name) (numbers : List ℕ) → slice_get these k ≡ Some name → position (is_same name) names ≡ None
      → AreNumbersOf names these numbers → ⊥
  unnamed [] k name numbers at none are = absurd (cc at)
  unnamed (first ∷ these) k name [] at none are = absurd (cc are)
  unnamed (first ∷ these) zero name (n ∷ numbers) at none are =
      let here : position (is_same first) names ≡ Some n = cc in
      let same : first ≡ name = cc in
      absurd (cc (sym here ∙ ap (λ name. position (is_same name) names) same ∙ none))
  unnamed (first ∷ these) (suc k) name (n ∷ numbers) at none are = unnamed these k name numbers at none (rest_are are)
    where
      rest_are : AreNumbersOf names (first ∷ these) (n ∷ numbers) → AreNumbersOf names these numbers
      rest_are are = cc

  one_number : (name : Name) (m n : ℕ) → IsNumberOf names name m → IsNumberOf names name n → m ≡ n
  one_number name m n is other = some_same m n (sym is ∙ other)
    where
      some_same : (m n : ℕ) → ◌≡◌ {A = Option ℕ} (Some m) (Some n) → m ≡ n
      some_same m n same = cc

  one_list : (these : List Name) (a b : List ℕ) → AreNumbersOf names these a → AreNumbersOf names these b → a ≡ b
  one_list these a b is other = somes_same a b (sym is ∙ other)
    where
      somes_same : (a b : List ℕ) → map (λ (n : ℕ). Some n) a ≡ map (λ (n : ℕ). Some n) b → a ≡ b
      somes_same [] [] same = refl
      somes_same [] (n ∷ b) same = absurd (cc same)
      somes_same (m ∷ a) [] same = absurd (cc same)
      somes_same (m ∷ a) (n ∷ b) same =
          let here : m ≡ n = cc in
          let more : map (λ (n : ℕ). Some n) a ≡ map (λ (n : ℕ). Some n) b = cc in
          let rest : a ≡ b = somes_same a b more in
          λ i. here i ∷ rest i

-- a name denotes only one atom
pub one_named : (task : Task) (name : NamedAtom) (a b : Atom) → Names task name a → Names task name b → a ≡ b
one_named task name a b is other =
    let predicate : a.predicate ≡ b.predicate = one_number (predicate_names task) name.predicate a.predicate b.predicate is.predicate other.predicate in
    let objects : a.objects ≡ b.objects = one_list (object_names task) name.objects a.objects b.objects is.objects other.objects in
    λ i. record { predicate = predicate i; objects = objects i }

-- a well-typed atom has no more objects than the allowed arguments
pub few_objects : (task : Task) (a : Atom) → IsTrue (is_task task) → IsTrue (is_atom task a) → length a.objects ≤ 8
few_objects task a well typed =
    elim (slice_get task.predicates a.predicate) as (λ o. slice_get task.predicates a.predicate ≡ o
    → option_map_or (λ (p : Predicate). pointwise (is_of task) p.arguments a.objects) o false ≡ true → length a.objects ≤ 8) [
      | None ↦ λ at none. absurd (true≢false (sym none))
      | Some p ↦ λ at fit.
          let few = passes_got has_few_arguments task.predicates a.predicate p at
          (first_so _ _ (second_so _ _ (first_so _ _ (first_so _ _ (first_so _ _ well))))) in
          subst (λ n. n ≤ 8) (as_long (is_of task) p.arguments a.objects fit) (leb-true (length p.arguments) max_arguments few)
    ] refl typed

pub got : {X Y : Type 0} (f : X → Y) (xs : List X) (k : ℕ) (x : X) → k < length xs → x ≡ get_or xs k x → slice_get (map f xs) k ≡ Some (f x)
got f [] k x within is = absurd (omega (arith, within))
got f (y ∷ xs) zero x within is = ap (λ x. Some (f x)) (sym is)
got f (y ∷ xs) (suc k) x within is = got f xs k x (omega (arith, within)) is

pub same_bytes : (a b : Name) → is_same a b ≡ true → a ≡ b
same_bytes [] [] same = refl
same_bytes [] (y ∷ b) same = absurd (true≢false (sym same))
same_bytes (x ∷ a) [] same = absurd (true≢false (sym same))
same_bytes (x ∷ a) (y ∷ b) same =
    let here : x ≡ y = eqb-true x y (first_so (x == y) (is_same a b) same) in
    let rest : a ≡ b = same_bytes a b (second_so (x == y) (is_same a b) same) in
    λ i. here i ∷ rest i

passes_there : (test : Name → Bool) (names : List Name) (n : ℕ) → position test names ≡ Some n → test (get_or names n []) ≡ true
passes_there test names n at = by_test (nat_lt (position_or_len test names) (length names)) refl at
  where
    by_test : (b : Bool) → nat_lt (position_or_len test names) (length names) ≡ b → cond b (Some (position_or_len test names)) None ≡ Some n → test (get_or names n []) ≡ true
    by_test true below at =
        let same : position_or_len test names ≡ n = cc in
        subst (λ n. test (get_or names n []) ≡ true) same (passes_at_first test names [] (ltb-true (position_or_len test names) (length names) below))
    by_test false past at = absurd (cc at)

first_named : (names : List Name) (a b : Name) (n : ℕ) → IsNumberOf names a n → IsNumberOf names b n → a ≡ b
first_named names a b n is other =
    same_bytes a (get_or names n []) (passes_there (is_same a) names n is) ∙ sym (same_bytes b (get_or names n []) (passes_there (is_same b) names n other))

list_named : (names : List Name) (a b : List Name) (numbers : List ℕ) → AreNumbersOf names a numbers → AreNumbersOf names b numbers → a ≡ b
list_named names [] [] numbers are other = refl
list_named names [] (y ∷ b) [] are other = absurd (cc other)
list_named names [] (y ∷ b) (n ∷ numbers) are other = absurd (cc are)
list_named names (x ∷ a) [] [] are other = absurd (cc are)
list_named names (x ∷ a) [] (n ∷ numbers) are other = absurd (cc other)
list_named names (x ∷ a) (y ∷ b) [] are other = absurd (cc are)
list_named names (x ∷ a) (y ∷ b) (n ∷ numbers) are other =
    let here : x ≡ y = first_named names x y n (head_is names x a n numbers are) (head_is names y b n numbers other) in
    let rest : a ≡ b = list_named names a b numbers (rest_is names x a n numbers are) (rest_is names y b n numbers other) in
    λ i. here i ∷ rest i
  where
    head_is : (names : List Name) (x : Name) (a : List Name) (n : ℕ) (numbers : List ℕ) → AreNumbersOf names (x ∷ a) (n ∷ numbers) → IsNumberOf names x n
    head_is names x a n numbers are = cc

    rest_is : (names : List Name) (x : Name) (a : List Name) (n : ℕ) (numbers : List ℕ) → AreNumbersOf names (x ∷ a) (n ∷ numbers) → AreNumbersOf names a numbers
    rest_is names x a n numbers are = cc

-- an atom has only one name
pub same_names : (task : Task) (x y : NamedAtom) (a : Atom) → Names task x a → Names task y a → x ≡ y
same_names task x y a is other =
    let predicate : x.predicate ≡ y.predicate = first_named (predicate_names task) x.predicate y.predicate a.predicate is.predicate other.predicate in
    let objects : x.objects ≡ y.objects = list_named (object_names task) x.objects y.objects a.objects is.objects other.objects in
    λ i. record { predicate = predicate i; objects = objects i }
