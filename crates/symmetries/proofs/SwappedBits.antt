-- Where the bits of each pair of places change places, each bit is that of the place that its own changes with.
use Rattle.std.proofs.Common.{◌≡◌, ◌∙◌, ℕ, zero, suc, ◌+◌, ◌<◌, ◌≤◌, ◌⊎◌, inl, inr, Bool, false, List, [], ◌∷◌, length, get_or, set, Option, None, Some, refl, sym, ap, subst, arith, length-set}
use Rattle.std.specs.Prelude.{cond, nat_lt, if◌then◌else◌}
use Rattle.std.specs.List.{filter_map, range_with_len, cons_option}
use Rattle.std.proofs.lemmas.Bool.{cases_lt, cases_eq, lt-ltb, le-ltb}
use Rattle.std.proofs.lemmas.List.{get_or-set_same, get_or-set_other}
use Rattle.symmetries.specs.SwappedPlaces.{with_swapped}

-- a number with that of its image, where that is the greater one
abbrev pub pair_at : (ℕ → ℕ) → ℕ → Option (ℕ × ℕ)
pair_at place n = if nat_lt n (place n) then Some (n, place n) else None

pub same_bits : (xs ys : List Bool) → length xs ≡ length ys → ((n : ℕ) → get_or xs n false ≡ get_or ys n false) → xs ≡ ys
same_bits [] [] long same = refl
same_bits [] (y ∷ ys) long same = absurd (omega arith)
same_bits (x ∷ xs) [] long same = absurd (omega arith)
same_bits (x ∷ xs) (y ∷ ys) long same = λ i. same 0 i ∷ same_bits xs ys (omega arith) (λ n. same (suc n)) i

pub length-with_swapped : (pairs : List (ℕ × ℕ)) (bits : List Bool) → length (with_swapped pairs bits) ≡ length bits
length-with_swapped [] bits = refl
length-with_swapped (pair ∷ pairs) bits =
    let first = set bits pair.0 (get_or bits pair.1 false) in
    length-with_swapped pairs (set first pair.1 (get_or bits pair.0 false))
    ∙ length-set first pair.1 (get_or bits pair.0 false)
    ∙ length-set bits pair.0 (get_or bits pair.1 false)

module _ (place : ℕ → ℕ) (back : (n : ℕ) → place (place n) ≡ n) (f : ℕ → Bool) where
  -- the pairs whose lower place is below one are done
  record AreDone (k : ℕ) (bits : List Bool) : Type 0 where
    low : (i : ℕ) → i < k → get_or bits i false ≡ f (place i)
    high : (i : ℕ) → place i < k → get_or bits i false ≡ f (place i)
    left : (i : ℕ) → k ≤ i → k ≤ place i → get_or bits i false ≡ f i

  -- no pair begins here
  module _ (k : ℕ) (bits : List Bool) (done : AreDone k bits) (below : place k ≤ k) where
    here : get_or bits k false ≡ f (place k)
    here = elim (cases_lt (place k) k) [
      | inl less ↦ done.high k less
      | inr past_it ↦ let is : place k ≡ k = omega arith in done.left k (omega arith) past_it ∙ ap f (sym is)
    ]

    passed : AreDone (k + 1) bits
    passed = record {
      low = λ i less. elim (cases_eq i k) [
        | inl is ↦ subst (λ j. get_or bits j false ≡ f (place j)) (sym is) here
        | inr other ↦ done.low i (omega (arith, other))
      ];
      high = λ i less. elim (cases_eq (place i) k) [
        | inl is ↦ (let from : i ≡ place k = sym (back i) ∙ ap place is in elim (cases_eq i k) [
          | inl same ↦ subst (λ j. get_or bits j false ≡ f (place j)) (sym same) here
          | inr other ↦ done.low i (omega (arith, other, from))
        ])
        | inr other ↦ done.high i (omega (arith, other))
      ];
      left = λ i more other. done.left i (omega arith) (omega arith);
    }

  -- a pair begins here
  module _ (k : ℕ) (bits : List Bool) (done : AreDone k bits) (above : k < place k) (within : place k < length bits) where
    abbrev new : List Bool
    new = set (set bits k (get_or bits (place k) false)) (place k) (get_or bits k false)

    at_lower : get_or new k false ≡ f (place k)
    at_lower =
        get_or-set_other (set bits k (get_or bits (place k) false)) (place k) k (get_or bits k false) false (λ is. absurd (omega arith))
        ∙ get_or-set_same bits k (get_or bits (place k) false) false (omega arith)
        ∙ done.left (place k) (omega arith) (subst (λ j. k ≤ j) (sym (back k)) (omega arith))

    at_higher : get_or new (place k) false ≡ f (place (place k))
    at_higher =
        get_or-set_same (set bits k (get_or bits (place k) false)) (place k) (get_or bits k false) false
        (subst (λ n. place k < n) (sym (length-set bits k (get_or bits (place k) false))) within)
        ∙ done.left k (omega arith) (omega arith) ∙ ap f (sym (back k))

    elsewhere : (i : ℕ) → (i ≡ k → ⊥) → (i ≡ place k → ⊥) → get_or new i false ≡ get_or bits i false
    elsewhere i lower higher =
        get_or-set_other (set bits k (get_or bits (place k) false)) (place k) i (get_or bits k false) false higher
        ∙ get_or-set_other bits k i (get_or bits (place k) false) false lower

    swapped_here : AreDone (k + 1) new
    swapped_here = record {
      low = λ i less. elim (cases_eq i k) [
        | inl is ↦ subst (λ j. get_or new j false ≡ f (place j)) (sym is) at_lower
        | inr other ↦ elsewhere i other (λ is. absurd (omega (arith, other))) ∙ done.low i (omega (arith, other))
      ];
      high = λ i less. elim (cases_eq (place i) k) [
        | inl is ↦ subst (λ j. get_or new j false ≡ f (place j)) (sym (sym (back i) ∙ ap place is)) at_higher
        | inr other ↦
            elsewhere i (λ is. let same : place i ≡ place k = ap place is in absurd (omega arith)) (λ is. other (ap place is ∙ back k)) ∙ done.high i (omega (arith, other))
      ];
      left = λ i more beyond.
          elsewhere i (λ is. absurd (omega arith)) (λ is. let same : place i ≡ k = ap place is ∙ back k in absurd (omega arith))
          ∙ done.left i (omega arith) (omega arith);
    }

  swaps : (n k : ℕ) (bits : List Bool) → k + n ≡ length bits → ((i : ℕ) → length bits ≤ i → place i ≡ i) → AreDone k bits
      → (i : ℕ) → get_or (with_swapped (filter_map (pair_at place) (range_with_len k n)) bits) i false ≡ f (place i)
  swaps zero k bits count past done i =
      elim (cases_lt i k) [
        | inl less ↦ done.low i less
        | inr past_it ↦ let is : place i ≡ i = past i (omega arith) in done.left i past_it (omega arith) ∙ ap f (sym is)
      ]
  swaps (suc n) k bits count past done i =
      by_order (λ new long is. swaps n (k + 1) new (omega (arith, long)) (λ j beyond. past j (omega (arith, long))) is i) (cases_lt k (place k))
    where
      by_order : ((new : List Bool) → length new ≡ length bits → AreDone (k + 1) new → get_or (with_swapped (filter_map (pair_at place) (range_with_len (k + 1) n)) new) i false ≡ f (place i))
          → (k < place k) ⊎ (place k ≤ k)
          → get_or (with_swapped (cons_option (pair_at place k) (filter_map (pair_at place) (range_with_len (k + 1) n))) bits) i false ≡ f (place i)
      by_order rest (inr below) =
          ap (λ b. get_or (with_swapped (cons_option (cond b (Some (k, place k)) None) (filter_map (pair_at place) (range_with_len (k + 1) n))) bits) i false) (le-ltb k (place k) below)
          ∙ rest bits refl (passed k bits done below)
      by_order rest (inl above) =
          let within : place k < length bits = elim (cases_lt (place k) (length bits)) [
            | inl less ↦ less
            | inr beyond ↦ (let same : place (place k) ≡ place k = past (place k) beyond in let is : place (place k) ≡ k = back k in absurd (omega arith))
          ] in
          ap (λ b. get_or (with_swapped (cons_option (cond b (Some (k, place k)) None) (filter_map (pair_at place) (range_with_len (k + 1) n))) bits) i false) (lt-ltb k (place k) above)
          ∙ rest (new k bits done above within)
          (length-set (set bits k (get_or bits (place k) false)) (place k) (get_or bits k false) ∙ length-set bits k (get_or bits (place k) false))
          (swapped_here k bits done above within)

  pub swapped_places : (bits : List Bool) → ((i : ℕ) → length bits ≤ i → place i ≡ i) → ((i : ℕ) → get_or bits i false ≡ f i)
      → (i : ℕ) → get_or (with_swapped (filter_map (pair_at place) (range_with_len 0 (length bits))) bits) i false ≡ f (place i)
  swapped_places bits past same i =
      swaps (length bits) 0 bits (omega arith) past (record { low = λ j less. absurd (omega arith); high = λ j less. absurd (omega arith); left = λ j _ _. same j }) i
