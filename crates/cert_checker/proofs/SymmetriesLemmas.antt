-- Exchanges that are symmetries of the task.
use Rattle.std.proofs.Common.{◌≡◌, ◌∙◌, ℕ, zero, suc, ◌+◌, ◌<◌, ◌≤◌, inl, inr, Bool, true, false, not, true≢false, List, [], ◌∷◌, ◌++◌, length, map, take, get_or, Option, None, Some, refl, sym, ap, subst, append_assoc, arith}
use Rattle.std.specs.Prelude.{All, IsTrue, ◌&&◌, ◌||◌, ◌==◌, nat_eq, nat_le, slice_get, if◌then◌else◌}
use Rattle.std.specs.List.{list_all, list_any}
use Rattle.std.specs.Option.{option_eq, option_map}
use Rattle.std.proofs.lemmas.Bool.{and_parts, cases_order, eq-eqb, false≢true, leb-true, lt-ltb}
use Rattle.std.specs.Global.{Vec}
use Rattle.std.proofs.lemmas.Option.{get_or_from_slice_get, same_Some, slice_get-get_or, slice_get_within}
use Rattle.std.proofs.lemmas.List.{map-append, take_more}
use Rattle.std.proofs.lemmas.Grind.{flat_map-append}
use Rattle.task.specs.declared.atoms.ObjectId.{ObjectId}
use Rattle.task.specs.TaskParts.{object_of}
use Rattle.model.specs.Task.{Atom, Object, Task}
use Rattle.symmetries_definitions.specs.Exchanges.{Exchange, image_of_object, objects_in, are_different}
use Rattle.symmetries_definitions.specs.Symmetries.{declared_type, is_symmetry, keeps_types, keeps_actions, keeps_values, keeps_statics, keeps_goal}
use Rattle.symmetries_definitions.specs.Orbits.{keeps_atoms}
use Rattle.symmetries.specs.ObjectPairs.{exchange_among, is_object, pair_of, pairs_in, two_by_two}
use Rattle.model.specs.NumberedAtoms.{numbered_atoms}
use Rattle.certificate_definitions.specs.Certificates.{Certificate, is_symmetry_for}
use Rattle.symmetries.specs.declared.exchange.Exchange as code
use Rattle.symmetries.specs.Exchange.{exchange_of}
use Rattle.certificate.specs.CertificateParts.{exchange_in}
use Rattle.cert_checker.specs.CheckedLines.{AreSymmetries}
use Rattle.cert_checker.proofs.NamesLemmas.{got}
use Rattle.cert_checker.specs.Exchanged.{is_said, is_symmetry_by}

-- ---- tests of two parts

module _ {X : Type 0} (p q : X → Bool) where
  first_all : (xs : List X) → All (λ x. IsTrue (p x && q x)) xs → IsTrue (list_all p xs)
  first_all [] all = refl
  first_all (x ∷ xs) all =
      let here = (and_parts (p x) (q x) (all 0 x (omega arith))).0 in
      let more = first_all xs (λ k d below. all (suc k) d (omega (arith, below))) in
      λ i. here i && more i

  second_all : (xs : List X) → All (λ x. IsTrue (p x && q x)) xs → IsTrue (list_all q xs)
  second_all [] all = refl
  second_all (x ∷ xs) all =
      let here = (and_parts (p x) (q x) (all 0 x (omega arith))).1 in
      let more = second_all xs (λ k d below. all (suc k) d (omega (arith, below))) in
      λ i. here i && more i

module _ (task : Task) (c : Certificate) (symmetric : AreSymmetries task c) where
  pub all_symmetries : IsTrue (list_all (is_symmetry task) c.exchanges)
  all_symmetries = first_all (is_symmetry task) (keeps_atoms (numbered_atoms task c.atoms)) c.exchanges symmetric

  pub all_keep_atoms : IsTrue (list_all (keeps_atoms (numbered_atoms task c.atoms)) c.exchanges)
  all_keep_atoms = second_all (is_symmetry task) (keeps_atoms (numbered_atoms task c.atoms)) c.exchanges symmetric

-- ---- the objects of an exchange

paired : (e : Exchange) → two_by_two (objects_in e) ≡ Some e
paired [] = refl
paired (pair ∷ e) = ap (option_map (λ (pairs : Exchange). pair ∷ pairs)) (paired e)

past : {X : Type 0} (xs : List X) (k : ℕ) → length xs ≤ k → slice_get xs k ≡ None
past [] k long = refl
past (x ∷ xs) zero long = absurd (omega (arith, long))
past (x ∷ xs) (suc k) long = past xs k (omega (arith, long))

pub within : {X : Type 0} (xs : List X) (k : ℕ) → k < length xs → (x : X) × (slice_get xs k ≡ Some x)
within [] k below = absurd (omega (arith, below))
within (x ∷ xs) zero below = (x, refl)
within (x ∷ xs) (suc k) below = within xs k (omega (arith, below))

module _ (task : Task) where
  abbrev count : ℕ
  count = length task.objects

  untyped : (o : ℕ) → count ≤ o → declared_type task o ≡ None
  untyped o long = ap (option_map (λ (x : Object). x.type)) (past task.objects o long)

  -- one of two numbers is that of no object: they are not of one type, unless both are
  types_differ : (a b : ℕ) → a < count → count ≤ b → option_eq nat_eq (declared_type task a) (declared_type task b) ≡ true → ⊥
  types_differ a b below long same =
      let (x, at) = within task.objects a below in
      true≢false (sym same ∙ (λ i. option_eq nat_eq (option_map (λ (x : Object). x.type) (at i)) (untyped b long i)))

  types_differ_back : (a b : ℕ) → count ≤ a → b < count → option_eq nat_eq (declared_type task a) (declared_type task b) ≡ true → ⊥
  types_differ_back a b long below same =
      let (x, at) = within task.objects b below in
      true≢false (sym same ∙ (λ i. option_eq nat_eq (untyped a long i) (option_map (λ (x : Object). x.type) (at i))))

  both_objects : (a b : ℕ) → a ≤ count → b ≤ count → (b ≡ a → ⊥) → option_eq nat_eq (declared_type task a) (declared_type task b) ≡ true → (a < count) × (b < count)
  both_objects a b most_a most_b differ same =
      elim (cases_order a count) [
        | inl a_none ↦ elim (cases_order b count) [
          | inl b_none ↦ absurd (differ (b_none ∙ sym a_none))
          | inr (inl b_is) ↦ absurd (types_differ_back a b (omega (arith, a_none)) b_is same)
          | inr (inr above) ↦ absurd (omega (arith, above, most_b))
        ]
        | inr (inl a_is) ↦ elim (cases_order b count) [
          | inl b_none ↦ absurd (types_differ a b a_is (omega (arith, b_none)) same)
          | inr (inl b_is) ↦ (a_is, b_is)
          | inr (inr above) ↦ absurd (omega (arith, above, most_b))
        ]
        | inr (inr above) ↦ absurd (omega (arith, above, most_a))
      ]

  -- neither of two parts is so
  neither : (a b : Bool) → not (a || b) ≡ true → a ≡ false
  neither true b is = absurd (false≢true is)
  neither false b is = refl

  unlike : (a b : ℕ) (rest : Bool) → not ((b == a) || rest) ≡ true → b ≡ a → ⊥
  unlike a b rest is same = true≢false (sym (eq-eqb b a same) ∙ neither (b == a) rest is)

  -- different objects of one type two by two are objects of the task
  objects_there : (e : Exchange) → is_said task e ≡ true → are_different (objects_in e) ≡ true → keeps_types task e ≡ true → list_all (is_object task) (objects_in e) ≡ true
  objects_there [] said different types = refl
  objects_there (pair ∷ e) said different types =
      let a = pair.0 in
      let b = pair.1 in
      let test : ℕ → Bool = λ o. nat_le o count in
      let (said_a, said_rest) = and_parts (test a) (list_all test (b ∷ objects_in e)) said in
      let (said_b, said_more) = and_parts (test b) (list_all test (objects_in e)) said_rest in
      let (a_new, rest) = and_parts (not (list_any (λ other. other == a) (b ∷ objects_in e))) (are_different (b ∷ objects_in e)) different in
      let (b_new, more) = and_parts (not (list_any (λ other. other == b) (objects_in e))) (are_different (objects_in e)) rest in
      let (type, types_more) = and_parts (option_eq nat_eq (declared_type task a) (declared_type task b)) (keeps_types task e) types in
      let both = both_objects a b (leb-true a count said_a) (leb-true b count said_b) (unlike a b (list_any (λ other. other == a) (objects_in e)) a_new) type in
      let first = lt-ltb a count both.0 in
      let second = lt-ltb b count both.1 in
      let others = objects_there e said_more more types_more in
      λ i. first i && (second i && others i)

  -- ---- what is made of it

  different_types : (e : Exchange) → is_symmetry task e ≡ true → (are_different (objects_in e) ≡ true) × (keeps_types task e ≡ true)
  different_types e is =
      let to = image_of_object e in
      let (first, _) = and_parts (are_different (objects_in e) && keeps_types task e && keeps_actions task to && keeps_values task to && keeps_statics task to) (keeps_goal task to) is in
      let (first, _) = and_parts (are_different (objects_in e) && keeps_types task e && keeps_actions task to && keeps_values task to) (keeps_statics task to) first in
      let (first, _) = and_parts (are_different (objects_in e) && keeps_types task e && keeps_actions task to) (keeps_values task to) first in
      let (first, _) = and_parts (are_different (objects_in e) && keeps_types task e) (keeps_actions task to) first in
      and_parts (are_different (objects_in e)) (keeps_types task e) first

  symmetry_among : (e : Exchange) → is_said task e ≡ true → is_symmetry task e ≡ true → exchange_among task (objects_in e) ≡ Some e
  symmetry_among e said is =
      let (different, types) = different_types e is in
      let there = objects_there e said different types in
      (λ i. if there i && different i then two_by_two (objects_in e) else None) ∙ paired e

  -- what is an exchange of these objects is this one
  pub among_is : (e made : Exchange) → exchange_among task (objects_in e) ≡ Some made → made ≡ e
  among_is e made is =
      elim (list_all (is_object task) (objects_in e) && are_different (objects_in e)) as (λ b. (if b then two_by_two (objects_in e) else None) ≡ Some made → made ≡ e) [
        | true ↦ λ same. same_Some made e (sym same ∙ paired e)
        | false ↦ λ none. absurd (cc none)
      ] is

  module _ (atoms : List Atom) where
    abbrev pub only_symmetry : Exchange → Option Exchange
    only_symmetry e = if is_symmetry_by task atoms e then Some e else None

    -- where there is none, it is no symmetry
    pub none_symmetric : (e : Exchange) → is_said task e ≡ true → exchange_among task (objects_in e) ≡ None → None ≡ only_symmetry e
    none_symmetric e said none =
        elim (is_symmetry task e) as (λ b. is_symmetry task e ≡ b → None ≡ (if b && keeps_atoms atoms e then Some e else None)) [
          | true ↦ λ is. absurd (cc (sym none ∙ symmetry_among e said is))
          | false ↦ λ fails. refl
        ] refl

    pub is_symmetric : (e made : Exchange) (b : Bool) → exchange_among task (objects_in e) ≡ Some made → b ≡ is_symmetry_by task atoms made → b ≡ true → Some made ≡ only_symmetry e
    is_symmetric e made b among is holds =
        let same = among_is e made among in
        ap Some same ∙ (λ i. if (sym (ap (is_symmetry_by task atoms) (sym same) ∙ sym is ∙ holds)) i then Some e else None)

    pub not_symmetric : (e made : Exchange) (b : Bool) → exchange_among task (objects_in e) ≡ Some made → b ≡ is_symmetry_by task atoms made → b ≡ false → None ≡ only_symmetry e
    not_symmetric e made b among is fails =
        let same = among_is e made among in
        λ i. if (sym (ap (is_symmetry_by task atoms) (sym same) ∙ sym is ∙ fails)) i then Some e else None

    pub only_some : (e made : Exchange) → Some made ≡ only_symmetry e → (made ≡ e) × (is_symmetry_by task atoms e ≡ true)
    only_some e made =
        elim (is_symmetry_by task atoms e) as (λ b. Some made ≡ (if b then Some e else None) → (made ≡ e) × (b ≡ true)) [
          | true ↦ λ same. (same_Some made e same, refl)
          | false ↦ λ none. absurd (cc none)
        ]

    pub only_none : (e : Exchange) → None ≡ only_symmetry e → is_symmetry_by task atoms e ≡ false
    only_none e =
        elim (is_symmetry_by task atoms e) as (λ b. None ≡ (if b then Some e else None) → b ≡ false) [
          | true ↦ λ some. absurd (cc some)
          | false ↦ λ none. refl
        ]

-- ---- the code's exchanges

-- the objects of the pairs so far, and of one pair more
pub objects_more : (pairs : List (ObjectId × ObjectId)) (k : ℕ) (objects : List ObjectId) (pair : ObjectId × ObjectId) → k < length pairs → pair ≡ get_or pairs k pair
    → map object_of objects ≡ objects_in (pairs_in (take k pairs)) → map object_of ((objects ++ pair.0 ∷ []) ++ pair.1 ∷ []) ≡ objects_in (pairs_in (take (k + 1) pairs))
objects_more pairs k objects pair lt at before =
    let both : (e : Exchange) (p : ℕ × ℕ) → objects_in (e ++ p ∷ []) ≡ objects_in e ++ p.0 ∷ p.1 ∷ [] = λ e p. flat_map-append (λ (pair : ℕ × ℕ). pair.0 ∷ pair.1 ∷ []) e (p ∷ []) in
    map-append object_of (objects ++ pair.0 ∷ []) (pair.1 ∷ []) ∙ ap (λ l. l ++ object_of pair.1 ∷ []) (map-append object_of objects (pair.0 ∷ []))
    ∙ append_assoc (map object_of objects) (object_of pair.0 ∷ []) (object_of pair.1 ∷ []) ∙ ap (λ l. l ++ object_of pair.0 ∷ object_of pair.1 ∷ []) before
    ∙ sym (ap (λ l. objects_in (pairs_in l)) (take_more pairs k pair lt ∙ ap (λ p. take k pairs ++ p ∷ []) (sym at))
    ∙ ap objects_in (map-append pair_of (take k pairs) (pair ∷ [])) ∙ both (pairs_in (take k pairs)) (pair_of pair))

-- what the test of one task says is so of the same task
pub fails_by : (tested task : Task) (atoms : List Atom) (e : Exchange) (b : Bool) → tested ≡ task → b ≡ is_symmetry tested e → b ≡ false → false ≡ is_symmetry_by task atoms e
fails_by tested task atoms e b same is fails = ap (λ x. x && keeps_atoms atoms e) (sym fails ∙ is ∙ ap (λ t. is_symmetry t e) same)

pub keeps_by : (tested task : Task) (those atoms : List Atom) (e : Exchange) (b keeps : Bool) → tested ≡ task → those ≡ atoms → b ≡ is_symmetry tested e → b ≡ true → keeps ≡ keeps_atoms those e
    → keeps ≡ is_symmetry_by task atoms e
keeps_by tested task those atoms e b keeps same numbered is holds kept =
    kept ∙ ap (λ l. keeps_atoms l e) numbered ∙ ap (λ x. x && keeps_atoms atoms e) (sym holds ∙ is ∙ ap (λ t. is_symmetry t e) same)

-- the exchange at a place
pub exchange_at : (c : Certificate) (xs : List (Vec (ObjectId × ObjectId))) (k : ℕ) (v : Vec (ObjectId × ObjectId)) (items : List (ObjectId × ObjectId)) → map exchange_in xs ≡ c.exchanges → k < length xs
    → v ≡ get_or xs k v → items ≡ v.items → slice_get c.exchanges k ≡ Some (pairs_in items)
exchange_at c xs k v items are lt at same =
    subst (λ l. slice_get l k ≡ Some (pairs_in items)) are (got exchange_in xs k v lt at ∙ ap (λ l. Some (pairs_in l)) (sym same))

pub made_more : (exchanges : List Exchange) (place : ℕ) (e : Exchange) (made : List code.Exchange) (x : code.Exchange) → slice_get exchanges place ≡ Some e → exchange_of x ≡ e
    → map exchange_of made ≡ take place exchanges → map exchange_of (made ++ x ∷ []) ≡ take (place + 1) exchanges
made_more exchanges place e made x at same before =
    map-append exchange_of made (x ∷ []) ∙ (λ i. before i ++ same i ∷ [])
    ∙ sym (take_more exchanges place e (slice_get_within exchanges place e at) ∙ ap (λ y. take place exchanges ++ y ∷ []) (get_or_from_slice_get exchanges place e e at))

module _ (task : Task) (c : Certificate) where
  -- each of the first `count` exchanges is a symmetry
  abbrev AreSymmetricTo : ℕ → Type 0
  AreSymmetricTo count = (k : ℕ) (e : Exchange) → k < count → slice_get c.exchanges k ≡ Some e → is_symmetry_for task c e ≡ true

  pub symmetric_more : (place : ℕ) (e : Exchange) → slice_get c.exchanges place ≡ Some e → is_symmetry_for task c e ≡ true → AreSymmetricTo place → AreSymmetricTo (place + 1)
  symmetric_more place e at is before k other lt at_k =
      elim (cases_order k place) [
        | inl same ↦
            let there : slice_get c.exchanges place ≡ Some other = subst (λ n. slice_get c.exchanges n ≡ Some other) same at_k in
            subst (λ (x : Exchange). is_symmetry_for task c x ≡ true) (same_Some e other (sym at ∙ there)) is
        | inr (inl earlier) ↦ before k other earlier at_k
        | inr (inr later) ↦ absurd (omega (arith, lt, later))
      ]

  pub symmetric_all : (place : ℕ) → length c.exchanges ≤ place → AreSymmetricTo place → AreSymmetries task c
  symmetric_all place past each = λ k d below. each k (get_or c.exchanges k d) (omega (arith, below, past)) (slice_get-get_or c.exchanges k d below)

  pub for_numbered : (atoms : List Atom) (e : Exchange) (b : Bool) → atoms ≡ numbered_atoms task c.atoms → is_symmetry_by task atoms e ≡ b → is_symmetry_for task c e ≡ b
  for_numbered atoms e b numbered is = ap (λ those. is_symmetry_by task those e) (sym numbered) ∙ is
