-- The ancestors of a type are exactly the types on its chain of parents: a chain of as many steps as there are types decides
-- ancestry.
use Rattle.std.proofs.Common.{◌≡◌, ℕ, ◌<◌, ◌≤◌, Bool, true, false, ◌||◌, List, [], ◌∷◌, length, slice_get, slice_index, nat_eq, Some, refl, ap, sym, subst, ◌∙◌, arith, zero, suc, true≢false, ◌⊎◌, inl, inr}
use Rattle.std.specs.List.{list_any, AllByRecursion, IsDistinct}
use Rattle.std.proofs.lemmas.Bool.Decides.{nat_tests}
use Rattle.std.proofs.lemmas.Bool.{eqb-true, or_cases, or_from, or_parts, or_right}
use Rattle.std.proofs.lemmas.Map.Steps.{length-le_from_distinct_below}
use Rattle.model.specs.Typing.{chain, comes_back, Descends, itself, by_parent, DescendsFromItself}

-- whether a number is among some
abbrev pub among : ℕ → List ℕ → Bool
among n xs = list_any (nat_eq n) xs

pub same_true : (n : ℕ) → nat_eq n n ≡ true
same_true n = grind (arith, nat_tests)

not_among : (x : ℕ) (xs : List ℕ) → among x xs ≡ false → AllByRecursion (λ y. nat_eq x y ≡ false) xs
not_among x [] h = tt
not_among x (y ∷ ys) h =
    let each = or_parts (nat_eq x y) (among x ys) h in
    (each.0, not_among x ys each.1)

pub distinct_none : IsDistinct nat_eq []
unfolding IsDistinct
distinct_none = tt

pub distinct_more : (x : ℕ) (xs : List ℕ) → among x xs ≡ false → IsDistinct nat_eq xs → IsDistinct nat_eq (x ∷ xs)
unfolding IsDistinct
distinct_more x xs h d = (not_among x xs h, d)

-- a number below the length has an element
pub got : (xs : List ℕ) (n : ℕ) → n < length xs → slice_get xs n ≡ Some (slice_index xs n)
got [] n l = absurd (omega (arith, l))
got (x ∷ xs) zero l = refl
got (x ∷ xs) (suc n) l = got xs n (omega (arith, l))

-- and one past it none
past : (xs : List ℕ) (n : ℕ) → length xs ≤ n → slice_index xs n ≡ 0
past [] n l = refl
past (x ∷ xs) zero l = absurd (omega (arith, l))
past (x ∷ xs) (suc n) l = past xs n (omega (arith, l))

got_index : (xs : List ℕ) (n x : ℕ) → slice_get xs n ≡ Some x → (slice_index xs n ≡ x) × (n < length xs)
got_index [] n x e = absurd (cc)
got_index (y ∷ xs) zero x e = (cc, omega arith)
got_index (y ∷ xs) (suc n) x e = let rest = got_index xs n x e in (rest.0, omega (arith, rest.1))

low_or_not : (a b : ℕ) → (a < b) ⊎ (b ≤ a)
low_or_not a zero = inr (omega arith)
low_or_not zero (suc b) = inl (omega arith)
low_or_not (suc a) (suc b) = elim (low_or_not a b) [
  | inl l ↦ inl (omega (arith, l))
  | inr l ↦ inr (omega (arith, l))
]

-- only `object` is an ancestor of `object`
above_object : (parents : List ℕ) (steps x : ℕ) → among x (chain parents steps zero) ≡ true → x ≡ 0
above_object parents zero x on = absurd (true≢false (sym on))
above_object parents (suc steps) x on = elim (or_cases (nat_eq x 0) false on) [
  | inl same ↦ eqb-true x 0 same
  | inr never ↦ absurd (true≢false (sym never))
]

module _ (parents : List ℕ) where
  -- a type begins its chain
  own : (steps type : ℕ) → among type (chain parents (suc steps) type) ≡ true
  own steps zero = refl
  own steps (suc type) = ap (λ b. b || among (suc type) (chain parents steps (slice_index parents (suc type)))) (same_true (suc type))

  -- if `object` is its own parent, the ancestors of a type are on its chain
  pub on_chain : slice_get parents 0 ≡ Some 0 → (type above : ℕ) → Descends parents type above → (steps : ℕ) × (among above (chain parents steps type) ≡ true)
  on_chain root type above (itself same) = (1, own 0 same)
  on_chain root type above (by_parent lower parent higher is up) = by lower is (on_chain root parent higher up)
    where
      by : (lower : ℕ) → slice_get parents lower ≡ Some parent → ((steps : ℕ) × (among higher (chain parents steps parent) ≡ true)) → (steps : ℕ) × (among higher (chain parents steps lower) ≡ true)
      by zero is found = (found.0, subst (λ t. among higher (chain parents found.0 t) ≡ true) (sym (got_index parents 0 parent is).0 ∙ (got_index parents 0 0 root).0) found.1)
      by (suc k) is found = (
        suc found.0,
        or_right (nat_eq higher (suc k)) _ (subst (λ t. among higher (chain parents found.0 t) ≡ true) (sym (got_index parents (suc k) parent is).0) found.1),
      )

  -- and the converse, except for `object`
  descends : (steps type above : ℕ) → 0 < above → among above (chain parents steps type) ≡ true → Descends parents type above
  descends zero type above positive on = absurd (true≢false (sym on))
  descends (suc steps) zero above positive on = absurd (omega (arith, positive, above_object parents (suc steps) above on))
  descends (suc steps) (suc type) above positive on =
      by (or_cases (nat_eq above (suc type)) (among above (chain parents steps (slice_index parents (suc type)))) on) (descends steps (slice_index parents (suc type)) above positive)
    where
      beyond : (suc type < length parents) ⊎ (length parents ≤ suc type) → among above (chain parents steps (slice_index parents (suc type))) ≡ true → Descends parents (slice_index parents (suc type)) above
          → Descends parents (suc type) above
      beyond (inl low) later up = by_parent (suc type) (slice_index parents (suc type)) above (got parents (suc type) low) up
      beyond (inr high) later up =
          absurd (omega (arith, positive, above_object parents steps above (subst (λ t. among above (chain parents steps t) ≡ true) (past parents (suc type) high) later)))

      by : (nat_eq above (suc type) ≡ true) ⊎ (among above (chain parents steps (slice_index parents (suc type))) ≡ true)
          → (among above (chain parents steps (slice_index parents (suc type))) ≡ true → Descends parents (slice_index parents (suc type)) above) → Descends parents (suc type) above
      by (inl same) up = subst (λ t. Descends parents t above) (eqb-true above (suc type) same) (itself above)
      by (inr later) up = beyond (low_or_not (suc type) (length parents)) later (up later)

  -- ---- a chain of as many steps as there are types has all ancestors

  -- If a type is on the chain of its parent, another type on a chain is on a part of it without repetition, or on a shorter chain
  -- of the parent.
  shorter : (type x most steps lower : ℕ) → among (suc type) (chain parents most lower) ≡ true → among x (chain parents steps lower) ≡ true
      → (among x (chain parents most lower) ≡ true) ⊎ ((fewer : ℕ) × (fewer < steps) × (among x (chain parents fewer (slice_index parents (suc type))) ≡ true))
  shorter type x zero steps lower back on = absurd (true≢false (sym back))
  shorter type x (suc most) zero lower back on = absurd (true≢false (sym on))
  shorter type x (suc most) (suc steps) zero back on = absurd (omega (arith, above_object parents (suc most) (suc type) back))
  shorter type x (suc most) (suc steps) (suc lower) back on =
      by (or_cases (nat_eq x (suc lower)) (among x (chain parents steps next)) on) (or_cases (nat_eq (suc type) (suc lower)) (among (suc type) (chain parents most next)) back)
      (shorter type x most steps next)
    where
      next : ℕ
      next = slice_index parents (suc lower)

      by : (nat_eq x (suc lower) ≡ true) ⊎ (among x (chain parents steps next) ≡ true) → (nat_eq (suc type) (suc lower) ≡ true) ⊎ (among (suc type) (chain parents most next) ≡ true)
          → (among (suc type) (chain parents most next) ≡ true → among x (chain parents steps next) ≡ true
          → (among x (chain parents most next) ≡ true) ⊎ ((fewer : ℕ) × (fewer < steps) × (among x (chain parents fewer (slice_index parents (suc type))) ≡ true)))
          → (among x (chain parents (suc most) (suc lower)) ≡ true) ⊎ ((fewer : ℕ) × (fewer < suc steps) × (among x (chain parents fewer (slice_index parents (suc type))) ≡ true))
      by (inl here) come rest = inl (ap (λ b. b || among x (chain parents most next)) here)
      by (inr later) (inl same) rest =
          inr (steps, omega arith, subst (λ t. among x (chain parents steps (slice_index parents t)) ≡ true) (sym (eqb-true (suc type) (suc lower) same)) later)
      by (inr later) (inr come) rest = elim (rest come later) [
        | inl near ↦ inl (or_right (nat_eq x (suc lower)) (among x (chain parents most next)) near)
        | inr far ↦ inr (far.0, omega (arith, far.1), far.2)
      ]

  -- so the chain of the parent has all its ancestors
  comes_round : (type x most bound steps : ℕ) → steps ≤ bound → among (suc type) (chain parents most (slice_index parents (suc type))) ≡ true
      → among x (chain parents steps (slice_index parents (suc type))) ≡ true → among x (chain parents most (slice_index parents (suc type))) ≡ true
  comes_round type x most zero steps l back on =
      let none : steps ≡ 0 = omega (arith, l) in
      absurd (true≢false (sym (subst (λ n. among x (chain parents n (slice_index parents (suc type))) ≡ true) none on)))
  comes_round type x most (suc bound) steps l back on = elim (shorter type x most steps (slice_index parents (suc type)) back on) [
    | inl near ↦ near
    | inr far ↦ comes_round type x most bound far.0 (omega (arith, l, far.1)) back far.2
  ]

  -- the chain has all ancestors of the type
  abbrev IsWhole : ℕ → ℕ → Type 0
  IsWhole most type = (steps x : ℕ) → among x (chain parents steps type) ≡ true → among x (chain parents most type) ≡ true

  -- the types on a chain are distinct, or it is whole
  apart_or_whole : (most type : ℕ) → IsDistinct nat_eq (chain parents most type) ⊎ IsWhole most type
  apart_or_whole zero type = inl distinct_none
  apart_or_whole (suc most) zero = inl (distinct_more 0 [] refl distinct_none)
  apart_or_whole (suc most) (suc type) = by (apart_or_whole most next)
    where
      next : ℕ
      next = slice_index parents (suc type)

      whole : IsWhole most next → IsWhole (suc most) (suc type)
      whole rest zero x on = absurd (true≢false (sym on))
      whole rest (suc steps) x on = elim (or_cases (nat_eq x (suc type)) (among x (chain parents steps next)) on) [
        | inl same ↦ ap (λ b. b || among x (chain parents most next)) same
        | inr later ↦ or_right (nat_eq x (suc type)) (among x (chain parents most next)) (rest steps x later)
      ]

      by_back : IsDistinct nat_eq (chain parents most next) → (b : Bool) → among (suc type) (chain parents most next) ≡ b
          → IsDistinct nat_eq (chain parents (suc most) (suc type)) ⊎ IsWhole (suc most) (suc type)
      by_back apart false back = inl (distinct_more (suc type) (chain parents most next) back apart)
      by_back apart true back = inr (whole (λ steps x on. comes_round type x most steps steps (omega arith) back on))

      by : IsDistinct nat_eq (chain parents most next) ⊎ IsWhole most next → IsDistinct nat_eq (chain parents (suc most) (suc type)) ⊎ IsWhole (suc most) (suc type)
      by (inl apart) = by_back apart (among (suc type) (chain parents most next)) refl
      by (inr rest) = inr (whole rest)

  -- the numbers of types other than `object`, and this many of them
  record AreTypes (most : ℕ) (xs : List ℕ) : Type 0 where
    pub count : length xs ≡ most
    pub no_object : among 0 xs ≡ false
    pub low : (x : ℕ) → among x xs ≡ true → x < length parents

  -- a chain that lacks an ancestor has as many types as steps, and has not ended
  may_continue : (above most steps type : ℕ) → 0 < above → among above (chain parents steps type) ≡ true → among above (chain parents most type) ≡ false → AreTypes most (chain parents most type)
  may_continue above zero steps type positive on off = record { count = refl; no_object = refl; low = λ x none. absurd (true≢false (sym none)) }
  may_continue above (suc most) zero type positive on off = absurd (true≢false (sym on))
  may_continue above (suc most) (suc steps) zero positive on off = absurd (omega (arith, positive, above_object parents (suc steps) above on))
  may_continue above (suc most) (suc steps) (suc type) positive on off =
      by (or_parts (nat_eq above (suc type)) (among above (chain parents most next)) off) (or_cases (nat_eq above (suc type)) (among above (chain parents steps next)) on)
      (may_continue above most steps next positive)
    where
      next : ℕ
      next = slice_index parents (suc type)

      more : suc type < length parents → AreTypes most (chain parents most next) → AreTypes (suc most) (suc type ∷ chain parents most next)
      more low rest = record {
        count = ap suc rest.count;
        no_object = or_from (nat_eq 0 (suc type)) (among 0 (chain parents most next)) (grind (arith, nat_tests)) rest.no_object;
        low = λ x here. elim (or_cases (nat_eq x (suc type)) (among x (chain parents most next)) here) [
          | inl same ↦ subst (λ n. n < length parents) (sym (eqb-true x (suc type) same)) low
          | inr later ↦ rest.low x later
        ];
      }

      by : (nat_eq above (suc type) ≡ false) × (among above (chain parents most next) ≡ false) → (nat_eq above (suc type) ≡ true) ⊎ (among above (chain parents steps next) ≡ true)
          → (among above (chain parents steps next) ≡ true → among above (chain parents most next) ≡ false → AreTypes most (chain parents most next))
          → AreTypes (suc most) (suc type ∷ chain parents most next)
      by away (inl same) rest = absurd (true≢false (sym same ∙ away.0))
      by away (inr later) rest = elim (low_or_not (suc type) (length parents)) [
        | inl low ↦ more low (rest later away.1)
        | inr high ↦ absurd (omega (arith, positive, above_object parents steps above (subst (λ t. among above (chain parents steps t) ≡ true) (past parents (suc type) high) later)))
      ]

  -- so an ancestor other than `object` is on the chain of as many steps as there are types
  on_whole_chain : (above steps type : ℕ) → 0 < above → 0 < length parents → among above (chain parents steps type) ≡ true → among above (chain parents (length parents) type) ≡ true
  on_whole_chain above steps type positive some on = by (among above (chain parents (length parents) type)) refl
    where
      full : among above (chain parents (length parents) type) ≡ false → AreTypes (length parents) (chain parents (length parents) type) → IsDistinct nat_eq (chain parents (length parents) type) ⊎ IsWhole (length parents) type
          → among above (chain parents (length parents) type) ≡ true
      full off types (inr whole) = whole steps above on
      full off types (inl apart) =
          let within = length-le_from_distinct_below (0 ∷ chain parents (length parents) type) (length parents) (distinct_more 0 (chain parents (length parents) type) types.no_object apart)
          (λ q here. elim (or_cases (nat_eq q 0) (among q (chain parents (length parents) type)) here) [
            | inl same ↦ subst (λ n. n < length parents) (sym (eqb-true q 0 same)) some
            | inr later ↦ types.low q later
          ]) in
          absurd (omega (arith, within, types.count))

      by : (b : Bool) → among above (chain parents (length parents) type) ≡ b → among above (chain parents (length parents) type) ≡ true
      by true is = is
      by false is = full is (may_continue above (length parents) steps type positive on is) (apart_or_whole (length parents) type)

-- ---- a type that is its own ancestor

-- it is on the chain of its parent
pub comes_back_from : (parents : List ℕ) → slice_get parents 0 ≡ Some 0 → (type : ℕ) → 0 < type → DescendsFromItself parents type → comes_back parents type ≡ true
comes_back_from parents root type positive back =
    let found = on_chain parents root back.parent type back.descends in
    let at = got_index parents type back.parent back.is_parent in
    on_whole_chain parents type found.0 (slice_index parents type) positive (omega (arith, at.1)) (subst (λ t. among type (chain parents found.0 t) ≡ true) (sym at.0) found.1)

-- and the converse
pub descends_from_itself : (parents : List ℕ) (type : ℕ) → 0 < type → type < length parents → comes_back parents type ≡ true → DescendsFromItself parents type
descends_from_itself parents type positive low back = record {
  parent = slice_index parents type;
  is_parent = got parents type low;
  descends = descends parents (length parents) (slice_index parents type) type positive back;
}
