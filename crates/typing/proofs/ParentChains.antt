-- Chains of parents: if no type is on the chain of its own parent, each chain ends in `object`, consists exactly of the ancestors
-- of its first type, and includes the chains of all its types.
use Rattle.std.proofs.Common.{◌≡◌, ℕ, ◌+◌, ◌<◌, ◌≤◌, Bool, true, false, ◌||◌, ◌&&◌, List, [], ◌∷◌, length, slice_index, nat_eq, refl, ap, sym, subst, ◌∙◌, arith, zero, suc, true≢false, ◌⊎◌, inl, inr, Some, slice_get}
use Rattle.std.specs.Prelude.{◌↔◌, Contains}
use Rattle.std.specs.List.{list_all, IsDistinct}
use Rattle.std.proofs.lemmas.Bool.Decides.{nat_tests}
use Rattle.std.proofs.lemmas.Bool.{eqb-true, or_cases, or_from, or_right}
use Rattle.std.proofs.lemmas.Map.Steps.{length-le_from_distinct_below}
use Rattle.model.specs.Task as task
use Rattle.model.specs.Meaning.{supertypes_in}
use Rattle.model.specs.Typing.{chain, whole_chain, comes_back, types_from, Descends, itself, by_parent}
use Rattle.model.proofs.ListLemmas.{Contains-here, Contains-there, Contains-none, Contains-cases}
use Rattle.model.proofs.TypeDescent.{among, same_true, distinct_none, distinct_more, got, on_chain}

both : (a b : Bool) → a ≡ true → b ≡ true → (a && b) ≡ true
both a b p q = grind (arith, nat_tests)

-- each element of those that pass
all_among : (p : ℕ → Bool) (xs : List ℕ) → ((x : ℕ) → among x xs ≡ true → p x ≡ true) → list_all p xs ≡ true
all_among p [] h = refl
all_among p (x ∷ xs) h =
    both (p x) (list_all p xs) (h x (ap (λ b. b || among x xs) (same_true x))) (all_among p xs (λ y among_rest. h y (or_right (nat_eq y x) (among y xs) among_rest)))

-- a number among some is one of them
pub among_Contains : (x : ℕ) (xs : List ℕ) → among x xs ≡ true → Contains xs x
among_Contains x [] h = absurd (true≢false (sym h))
among_Contains x (y ∷ ys) h = by (or_cases (nat_eq x y) (among x ys) h) (among_Contains x ys)
  where
    by : (nat_eq x y ≡ true) ⊎ (among x ys ≡ true) → (among x ys ≡ true → Contains ys x) → Contains (y ∷ ys) x
    by (inl same) rest = subst (λ n. Contains (n ∷ ys) x) (eqb-true x y same) (Contains-here x ys)
    by (inr later) rest = Contains-there y ys x (rest later)

pub Contains_among : (x : ℕ) (xs : List ℕ) → Contains xs x → among x xs ≡ true
Contains_among x [] at = absurd (Contains-none x at)
Contains_among x (y ∷ ys) at = by (Contains-cases y ys x at) (Contains_among x ys)
  where
    by : (y ≡ x) ⊎ Contains ys x → (Contains ys x → among x ys ≡ true) → among x (y ∷ ys) ≡ true
    by (inl same) rest = ap (λ n. nat_eq x n || among x ys) same ∙ ap (λ b. b || among x ys) (same_true x)
    by (inr later) rest = or_right (nat_eq x y) (among x ys) (rest later)

module _ (parents : List ℕ) where
  -- the chain reaches `object` within this many steps
  abbrev pub ends : ℕ → ℕ → Bool
  ends zero number = false
  ends (suc most) zero = true
  ends (suc most) (suc number) = ends most (slice_index parents (suc number))

  -- then one more step changes nothing
  one_more : (most number : ℕ) → ends most number ≡ true → (ends (suc most) number ≡ true) × (chain parents (suc most) number ≡ chain parents most number)
  one_more zero number h = absurd (true≢false (sym h))
  one_more (suc most) zero h = (refl, refl)
  one_more (suc most) (suc number) h =
      let rest = one_more most (slice_index parents (suc number)) h in
      (rest.0, ap (λ xs. suc number ∷ xs) rest.1)

  -- and no chain has more than one that has ended
  on_ended : (most steps number x : ℕ) → ends most number ≡ true → among x (chain parents steps number) ≡ true → among x (chain parents most number) ≡ true
  on_ended zero steps number x h on = absurd (true≢false (sym h))
  on_ended (suc most) zero number x h on = absurd (true≢false (sym on))
  on_ended (suc most) (suc steps) zero x h on = on
  on_ended (suc most) (suc steps) (suc number) x h on =
      by (or_cases (nat_eq x (suc number)) (among x (chain parents steps (slice_index parents (suc number)))) on) (on_ended most steps (slice_index parents (suc number)) x h)
    where
      by : (nat_eq x (suc number) ≡ true) ⊎ (among x (chain parents steps (slice_index parents (suc number))) ≡ true)
          → (among x (chain parents steps (slice_index parents (suc number))) ≡ true → among x (chain parents most (slice_index parents (suc number))) ≡ true) → among x (chain parents (suc most) (suc number)) ≡ true
      by (inl same) rest = ap (λ b. b || among x (chain parents most (slice_index parents (suc number)))) same
      by (inr later) rest = or_right (nat_eq x (suc number)) (among x (chain parents most (slice_index parents (suc number)))) (rest later)

  -- a type on the chain has its own chain within it
  pub within_chain : (most number above : ℕ) → ends most number ≡ true → among above (chain parents most number) ≡ true
      → (ends most above ≡ true) × ((higher : ℕ) → among higher (chain parents most above) ≡ true → among higher (chain parents most number) ≡ true)
  within_chain zero number above h on = absurd (true≢false (sym h))
  within_chain (suc most) zero above h on = by (or_cases (nat_eq above 0) false on)
    where
      by : (nat_eq above 0 ≡ true) ⊎ (false ≡ true) → (ends (suc most) above ≡ true) × ((higher : ℕ) → among higher (chain parents (suc most) above) ≡ true → among higher (chain parents (suc most) zero) ≡ true)
      by (inl same) = let is = eqb-true above 0 same in
          (ap (ends (suc most)) is, λ higher on_above. subst (λ a. among higher (chain parents (suc most) a) ≡ true) is on_above)
      by (inr never) = absurd (true≢false (sym never))
  within_chain (suc most) (suc number) above h on = by (or_cases (nat_eq above (suc number)) (among above (chain parents most (slice_index parents (suc number)))) on) (within_chain most (slice_index parents (suc number)) above h)
    where
      by : (nat_eq above (suc number) ≡ true) ⊎ (among above (chain parents most (slice_index parents (suc number))) ≡ true)
          → (among above (chain parents most (slice_index parents (suc number))) ≡ true → (ends most above ≡ true) × ((higher : ℕ) → among higher (chain parents most above) ≡ true → among higher (chain parents most (slice_index parents (suc number))) ≡ true))
          → (ends (suc most) above ≡ true) × ((higher : ℕ) → among higher (chain parents (suc most) above) ≡ true → among higher (chain parents (suc most) (suc number)) ≡ true)
      by (inl same) next = let is = eqb-true above (suc number) same in
          (ap (ends (suc most)) is ∙ h, λ higher on_above. subst (λ a. among higher (chain parents (suc most) a) ≡ true) is on_above)
      by (inr later) next =
          let rest = next later in
          let more = one_more most above rest.0 in
          (more.0, λ higher on_above. or_right (nat_eq higher (suc number)) (among higher (chain parents most (slice_index parents (suc number)))) (rest.1 higher (ap (among higher) (sym more.1) ∙ on_above)))

  -- a longer chain has what a shorter one has
  longer : (most further number x : ℕ) → most ≤ further → among x (chain parents most number) ≡ true → among x (chain parents further number) ≡ true
  longer zero further number x l h = absurd (true≢false (sym h))
  longer (suc most) zero number x l h = absurd (omega (arith, l))
  longer (suc most) (suc further) zero x l h = h
  longer (suc most) (suc further) (suc number) x l h = by (or_cases (nat_eq x (suc number)) (among x (chain parents most (slice_index parents (suc number)))) h) (longer most further (slice_index parents (suc number)) x (omega (arith, l)))
    where
      by : (nat_eq x (suc number) ≡ true) ⊎ (among x (chain parents most (slice_index parents (suc number))) ≡ true)
          → (among x (chain parents most (slice_index parents (suc number))) ≡ true → among x (chain parents further (slice_index parents (suc number))) ≡ true) → among x (chain parents (suc further) (suc number)) ≡ true
      by (inl same) next = ap (λ b. b || among x (chain parents further (slice_index parents (suc number)))) same
      by (inr later) next = or_right (nat_eq x (suc number)) (among x (chain parents further (slice_index parents (suc number)))) (next later)

  -- a chain that does not end has as many types as steps, none of them `object`
  may_continue : (most number : ℕ) → ends most number ≡ false → (length (chain parents most number) ≡ most) × (among 0 (chain parents most number) ≡ false)
  may_continue zero number h = (refl, refl)
  may_continue (suc most) zero h = absurd (true≢false h)
  may_continue (suc most) (suc number) h =
      let rest = may_continue most (slice_index parents (suc number)) h in
      (ap suc rest.0, or_from (nat_eq 0 (suc number)) (among 0 (chain parents most (slice_index parents (suc number)))) (grind (arith, nat_tests)) rest.1)

  module _ (low : (k : ℕ) → slice_index parents k < length parents)
      (none_back : (k : ℕ) → suc k < length parents → comes_back parents (suc k) ≡ false) where
    -- each type on a chain has its number
    below : (most number x : ℕ) → number < length parents → among x (chain parents most number) ≡ true → x < length parents
    below zero number x l h = absurd (true≢false (sym h))
    below (suc most) zero x l h = by (or_cases (nat_eq x 0) false h)
      where
        by : (nat_eq x 0 ≡ true) ⊎ (false ≡ true) → x < length parents
        by (inl same) = omega (arith, eqb-true x 0 same, l)
        by (inr never) = absurd (true≢false (sym never))
    below (suc most) (suc number) x l h = by (or_cases (nat_eq x (suc number)) (among x (chain parents most (slice_index parents (suc number)))) h) (below most (slice_index parents (suc number)) x (low (suc number)))
      where
        by : (nat_eq x (suc number) ≡ true) ⊎ (among x (chain parents most (slice_index parents (suc number))) ≡ true)
            → (among x (chain parents most (slice_index parents (suc number))) ≡ true → x < length parents) → x < length parents
        by (inl same) next = omega (arith, eqb-true x (suc number) same, l)
        by (inr later) next = next later

    -- and none is repeated
    apart : (most number : ℕ) → most ≤ length parents → number < length parents → IsDistinct nat_eq (chain parents most number)
    apart zero number l n = distinct_none
    apart (suc most) zero l n = distinct_more 0 [] refl distinct_none
    apart (suc most) (suc number) l n =
        distinct_more (suc number) (chain parents most (slice_index parents (suc number))) (not_later (among (suc number) (chain parents most (slice_index parents (suc number)))) refl)
        (apart most (slice_index parents (suc number)) (omega (arith, l)) (low (suc number)))
      where
        not_later : (b : Bool) → among (suc number) (chain parents most (slice_index parents (suc number))) ≡ b → among (suc number) (chain parents most (slice_index parents (suc number))) ≡ false
        not_later false e = e
        not_later true e =
            absurd (true≢false (sym (longer most (length parents) (slice_index parents (suc number)) (suc number) (omega (arith, l)) e) ∙ none_back number n))

    -- so each chain ends
    pub all_end : (number : ℕ) → number < length parents → ends (length parents) number ≡ true
    all_end number l = by (ends (length parents) number) refl
      where
        by : (b : Bool) → ends (length parents) number ≡ b → b ≡ true
        by true e = refl
        by false e =
            let rest = may_continue (length parents) number e in
            let within = length-le_from_distinct_below (0 ∷ chain parents (length parents) number) (length parents) (distinct_more 0 (chain parents (length parents) number) rest.1 (apart (length parents) number (omega arith) l))
            (λ q h. zero_or (or_cases (nat_eq q 0) (among q (chain parents (length parents) number)) h)) in
            absurd (omega (arith, within, rest.0))
          where
            zero_or : {q : ℕ} → (nat_eq q 0 ≡ true) ⊎ (among q (chain parents (length parents) number) ≡ true) → q < length parents
            zero_or {q} (inl same) = omega (arith, eqb-true q 0 same, l)
            zero_or {q} (inr on) = below (length parents) number q l on

    -- the types on a chain are the ancestors of its first type
    descends : (most number above : ℕ) → number < length parents → among above (chain parents most number) ≡ true → Descends parents number above
    descends zero number above l on = absurd (true≢false (sym on))
    descends (suc most) zero above l on = by (or_cases (nat_eq above 0) false on)
      where
        by : (nat_eq above 0 ≡ true) ⊎ (false ≡ true) → Descends parents zero above
        by (inl same) = subst (λ n. Descends parents n above) (eqb-true above 0 same) (itself above)
        by (inr never) = absurd (true≢false (sym never))
    descends (suc most) (suc number) above l on = by (or_cases (nat_eq above (suc number)) (among above (chain parents most (slice_index parents (suc number)))) on) (descends most (slice_index parents (suc number)) above (low (suc number)))
      where
        by : (nat_eq above (suc number) ≡ true) ⊎ (among above (chain parents most (slice_index parents (suc number))) ≡ true)
            → (among above (chain parents most (slice_index parents (suc number))) ≡ true → Descends parents (slice_index parents (suc number)) above) → Descends parents (suc number) above
        by (inl same) up = subst (λ n. Descends parents n above) (eqb-true above (suc number) same) (itself above)
        by (inr later) up = by_parent (suc number) (slice_index parents (suc number)) above (got parents (suc number) l) (up later)

    pub descends_on_chain : slice_get parents 0 ≡ Some 0 → (number above : ℕ) → number < length parents → (among above (whole_chain parents number) ≡ true) ↔ Descends parents number above
    descends_on_chain root number above l = (
      descends (length parents) number above l,
      λ up. let found = on_chain parents root number above up in on_ended (length parents) found.0 number above (all_end number l) found.1,
    )

    -- the supertypes of a type, and its number
    pub type_at : (start : ℕ) (names : List task.Name) (k : ℕ) (t : task.ObjectType) → slice_get (types_from parents start names) k ≡ Some t
        → (t.supertypes ≡ whole_chain parents (start + k)) × (k < length names)
    type_at start [] k t e = absurd (cc)
    type_at start (name ∷ names) zero t e =
        let here : record { name = name; supertypes = whole_chain parents start } ≡ t = cc in
        (sym (ap (λ (x : task.ObjectType). x.supertypes) here) ∙ ap (whole_chain parents) (omega arith), omega arith)
    type_at start (name ∷ names) (suc k) t e =
        let rest = type_at (start + 1) names k t e in
        (rest.0 ∙ ap (whole_chain parents) (omega arith), omega (arith, rest.1))

    -- what is found for a number
    found_above : (start : ℕ) (names : List task.Name) (k higher : ℕ) → among higher (supertypes_in (types_from parents start names) k) ≡ true → among higher (whole_chain parents (start + k)) ≡ true
    found_above start [] k higher h = absurd (true≢false (sym h))
    found_above start (name ∷ names) zero higher h = subst (λ n. among higher (whole_chain parents n) ≡ true) (omega arith) h
    found_above start (name ∷ names) (suc k) higher h = subst (λ n. among higher (whole_chain parents n) ≡ true) (omega arith) (found_above (start + 1) names k higher h)

    from_zero : (n : ℕ) → n ≡ 0 + n
    from_zero n = omega arith

    -- the ancestors of a type include those of its ancestors
    whole_at : (names : List task.Name) (number : ℕ) → number < length parents
        → list_all (λ above. list_all (λ higher. among higher (whole_chain parents number)) (supertypes_in (types_from parents 0 names) above)) (whole_chain parents number) ≡ true
    whole_at names number l =
        all_among (λ above. list_all (λ higher. among higher (whole_chain parents number)) (supertypes_in (types_from parents 0 names) above)) (whole_chain parents number)
        (λ above on. all_among (λ higher. among higher (whole_chain parents number)) (supertypes_in (types_from parents 0 names) above)
        (λ higher up. (within_chain (length parents) number above (all_end number l) on).1 higher (ap (λ n. among higher (whole_chain parents n)) (from_zero above) ∙ found_above 0 names above higher up)))

    pub all_whole : (names : List task.Name) (start : ℕ) (rest : List task.Name) → start + length rest ≤ length parents
        → list_all (λ (t : task.ObjectType). list_all (λ above. list_all (λ higher. among higher t.supertypes) (supertypes_in (types_from parents 0 names) above)) t.supertypes) (types_from parents start rest) ≡ true
    all_whole names start [] l = refl
    all_whole names start (name ∷ rest) l = both _ _ (whole_at names start (omega (arith, l))) (all_whole names (start + 1) rest (omega (arith, l)))
