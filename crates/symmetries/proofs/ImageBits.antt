-- The image of a state by an exchange, bit by bit.
use Rattle.std.proofs.Common.{◌≡◌, ◌∙◌, ℕ, zero, suc, ◌+◌, ◌<◌, ◌≤◌, Bool, true, false, List, [], ◌∷◌, map, length, get_or, Option, None, Some, refl, sym, ap, arith}
use Rattle.std.specs.Prelude.{slice_get, cond, nat_lt, filter}
use Rattle.std.specs.List.{list_all, filter_map, range_with_len, cons_option}
use Rattle.std.specs.Option.{option_map_or}
use Rattle.std.specs.FinSet.{contains}
use Rattle.std.proofs.lemmas.Bool.{and_from, lt-ltb}
use Rattle.std.proofs.lemmas.List.{length-map}
use Rattle.std.proofs.lemmas.Option.{slice_get_past, slice_get_within}
use Rattle.model.specs.Task.{Atom}
use Rattle.model.specs.Meaning.{State}
use Rattle.model.specs.NumberedAtoms.{occurs_in, number_of, are_distinct}
use Rattle.model.specs.Grounding.{bits_of_state}
use Rattle.model.proofs.ListLemmas.{Contains-got, Contains-place}
use Rattle.model.proofs.NumberingLemmas.{occurs_in-Contains, number_of-got}
use Rattle.symmetries_definitions.specs.Exchanges.{image_of_atom, image_of_state}
use Rattle.symmetries_definitions.specs.Orbits.{comes_before}
use Rattle.symmetries_definitions.proofs.Lists.{all-at}
use Rattle.symmetries_definitions.proofs.Images.{atom_twice, contains-back}
use Rattle.symmetries.specs.Numbers.{image_number, exchanged_numbers}
use Rattle.symmetries.specs.SwappedPlaces.{is_within, are_within, is_earlier, with_swapped}
use Rattle.symmetries.proofs.SwappedBits.{pair_at, same_bits, length-with_swapped, swapped_places}
use Rattle.symmetries.proofs.FirstDifference.{comes_before-bits, before-bits, by_pairs}

get_or-map : {X : Type 0} (h : X → Bool) (xs : List X) (n : ℕ) (x : X) → slice_get xs n ≡ Some x → get_or (map h xs) n false ≡ h x
get_or-map h [] n x got = absurd (cc)
get_or-map h (y ∷ xs) zero x got = let same : y ≡ x = cc in ap h same
get_or-map h (y ∷ xs) (suc n) x got = get_or-map h xs n x got

get_or-past : (bits : List Bool) (n : ℕ) → length bits ≤ n → get_or bits n false ≡ false
get_or-past [] n past = refl
get_or-past (x ∷ bits) zero past = absurd (omega arith)
get_or-past (x ∷ bits) (suc n) past = get_or-past bits n (omega arith)

none-past : {X : Type 0} (xs : List X) (n : ℕ) → slice_get xs n ≡ None → length xs ≤ n
none-past [] n none = omega arith
none-past (x ∷ xs) zero none = absurd (cc)
none-past (x ∷ xs) (suc n) none = let rest = none-past xs n none in omega arith

-- pairs whose first number is the lower one, kept by a test
rising : (place : ℕ → ℕ) (n k : ℕ) → filter (λ (pair : ℕ × ℕ). nat_lt pair.0 pair.1) (map (λ m. (m, place m)) (range_with_len k n)) ≡ filter_map (pair_at place) (range_with_len k n)
rising place zero k = refl
rising place (suc n) k = by_test (nat_lt k (place k)) (rising place n (k + 1))
  where
    by_test : (b : Bool) → filter (λ (pair : ℕ × ℕ). nat_lt pair.0 pair.1) (map (λ m. (m, place m)) (range_with_len (k + 1) n)) ≡ filter_map (pair_at place) (range_with_len (k + 1) n)
        → cond b ((k, place k) ∷ filter (λ (pair : ℕ × ℕ). nat_lt pair.0 pair.1) (map (λ m. (m, place m)) (range_with_len (k + 1) n)))
        (filter (λ (pair : ℕ × ℕ). nat_lt pair.0 pair.1) (map (λ m. (m, place m)) (range_with_len (k + 1) n)))
        ≡ cons_option (cond b (Some (k, place k)) None) (filter_map (pair_at place) (range_with_len (k + 1) n))
    by_test true rest = ap (λ l. (k, place k) ∷ l) rest
    by_test false rest = rest

-- the numbers of such pairs are below the width, where those of each number below it are
below_width : (place : ℕ → ℕ) (width : ℕ) → ((i : ℕ) → i < width → place i < width) → (n k : ℕ) → k + n ≤ width
    → are_within width (filter_map (pair_at place) (range_with_len k n)) ≡ true
below_width place width below zero k room = refl
below_width place width below (suc n) k room =
    by_test (nat_lt k (place k)) (below_width place width below n (k + 1) (omega arith))
  where
    by_test : (b : Bool) → are_within width (filter_map (pair_at place) (range_with_len (k + 1) n)) ≡ true
        → are_within width (cons_option (cond b (Some (k, place k)) None) (filter_map (pair_at place) (range_with_len (k + 1) n))) ≡ true
    by_test true rest =
        and_from (is_within width (k, place k)) _ (and_from (nat_lt k width) (nat_lt (place k) width) (lt-ltb k width (omega arith)) (lt-ltb (place k) width (below k (omega arith)))) rest
    by_test false rest = rest

-- ---- one exchange

module _ (atoms : List Atom) (distinct : are_distinct atoms ≡ true) (to : ℕ → ℕ) (both_ways : (o : ℕ) → to (to o) ≡ o)
    (kept : list_all (λ (a : Atom). occurs_in atoms (image_of_atom to a)) atoms ≡ true) where
  -- the number of the image of an atom; of what has none, its own
  abbrev place : ℕ → ℕ
  place n = option_map_or (λ m. m) (image_number atoms to n) n

  abbrev pairs : List (ℕ × ℕ)
  pairs = exchanged_numbers atoms to

  by_places : pairs ≡ filter_map (pair_at place) (range_with_len 0 (length atoms))
  by_places = rising place (length atoms) 0

  place_of : (n : ℕ) (a : Atom) → slice_get atoms n ≡ Some a → (m : ℕ) × (slice_get atoms m ≡ Some (image_of_atom to a)) × (place n ≡ m)
  place_of n a got =
      let there = all-at (λ (b : Atom). occurs_in atoms (image_of_atom to b)) atoms a kept (Contains-got atoms n a got) in
      let at = Contains-place atoms (image_of_atom to a) (occurs_in-Contains atoms (image_of_atom to a) there) in (
        at.0,
        at.1,
        ap (λ o. option_map_or (λ m. m) (option_map_or (λ (b : Atom). number_of atoms (image_of_atom to b)) o None) n) got
            ∙ ap (λ o. option_map_or (λ m. m) o n) (number_of-got atoms at.0 (image_of_atom to a) distinct at.1),
      )

  stays : (n : ℕ) → slice_get atoms n ≡ None → place n ≡ n
  stays n none = ap (λ o. option_map_or (λ m. m) (option_map_or (λ (b : Atom). number_of atoms (image_of_atom to b)) o None) n) none

  place_back : (n : ℕ) → place (place n) ≡ n
  place_back n = by_found (slice_get atoms n) refl
    where
      by_found : (found : Option Atom) → slice_get atoms n ≡ found → place (place n) ≡ n
      by_found None none = ap place (stays n none) ∙ stays n none
      by_found (Some a) got =
          let there = place_of n a got in
          ap place there.2
          ∙ ap (λ o. option_map_or (λ m. m) (option_map_or (λ (b : Atom). number_of atoms (image_of_atom to b)) o None) there.0) there.1
          ∙ ap (λ (b : Atom). option_map_or (λ m. m) (number_of atoms b) there.0) (atom_twice to both_ways a)
          ∙ ap (λ o. option_map_or (λ m. m) o there.0) (number_of-got atoms n a distinct got)

  place_below : (n : ℕ) → n < length atoms → place n < length atoms
  place_below n below = by_found (slice_get atoms n) refl
    where
      by_found : (found : Option Atom) → slice_get atoms n ≡ found → place n < length atoms
      by_found None none = let beyond = none-past atoms n none in absurd (omega arith)
      by_found (Some a) got =
          let there = place_of n a got in
          let within = slice_get_within atoms there.0 (image_of_atom to a) there.1 in
          let is = there.2 in
          omega (arith, within, is)

  pub numbers_within : are_within (length atoms) pairs ≡ true
  numbers_within = ap (are_within (length atoms)) by_places ∙ below_width place (length atoms) place_below (length atoms) 0 (omega arith)

  module _ (s : State) where
    abbrev bits : List Bool
    bits = bits_of_state atoms s

    abbrev image_bits : List Bool
    image_bits = bits_of_state atoms (image_of_state to s)

    long : length bits ≡ length atoms
    long = length-map atoms (contains s)

    image_long : length image_bits ≡ length atoms
    image_long = length-map atoms (contains (image_of_state to s))

    bits_moved : (n : ℕ) → get_or image_bits n false ≡ get_or bits (place n) false
    bits_moved n = by_found (slice_get atoms n) refl
      where
        by_found : (found : Option Atom) → slice_get atoms n ≡ found → get_or image_bits n false ≡ get_or bits (place n) false
        by_found None none =
            let past = none-past atoms n none in
            get_or-past image_bits n (omega (arith, image_long, past))
            ∙ sym (ap (λ m. get_or bits m false) (stays n none) ∙ get_or-past bits n (omega (arith, long, past)))
        by_found (Some a) got =
            let there = place_of n a got in
            get_or-map (contains (image_of_state to s)) atoms n a got
            ∙ contains-back to both_ways s a
            ∙ sym (get_or-map (contains s) atoms there.0 (image_of_atom to a) there.1)
            ∙ ap (λ m. get_or bits m false) (sym there.2)

    from_zero : (i : ℕ) → i ≡ 0 + i
    from_zero i = omega arith

    pub image_earlier : comes_before atoms (image_of_state to s) s ≡ is_earlier pairs (λ n. get_or bits n false)
    image_earlier =
        comes_before-bits atoms (image_of_state to s) s
        ∙ before-bits (length atoms) 0 image_bits bits (λ n. get_or bits (place n) false) (λ n. get_or bits n false) image_long long
        (λ i below. bits_moved i ∙ ap (λ m. get_or bits (place m) false) (from_zero i)) (λ i below. ap (λ m. get_or bits m false) (from_zero i))
        ∙ by_pairs place place_back (λ n. get_or bits n false) (length atoms) 0 (λ j below. absurd (omega arith))
        ∙ ap (λ l. is_earlier l (λ n. get_or bits n false)) (sym by_places)

    past_stays : (i : ℕ) → length bits ≤ i → place i ≡ i
    past_stays i beyond = stays i (slice_get_past atoms i (omega (arith, long, beyond)))

    pub image_swapped : image_bits ≡ with_swapped pairs bits
    image_swapped =
        same_bits image_bits (with_swapped pairs bits) (image_long ∙ sym long ∙ sym (length-with_swapped pairs bits)) (λ n.
        bits_moved n
        ∙ sym (ap (λ l. get_or (with_swapped l bits) n false) (by_places ∙ ap (λ count. filter_map (pair_at place) (range_with_len 0 count)) (sym long))
        ∙ swapped_places place place_back (λ m. get_or bits m false) bits past_stays (λ i. refl) n))
